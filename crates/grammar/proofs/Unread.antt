-- The reading of a template whose separators are still texts, and what is proved of it on the way to the whole.
use Rattle.std.proofs.Common.{◌≡◌, ℕ, Bool, true, false, List, [], ◌∷◌, ◌++◌, length, Ok}
use Rattle.grammar.specs.Controls.{control_at}
use Rattle.grammar.specs.Deep.{texted, within, limited_by}
use Rattle.grammar.specs.Grammar.{Repeats, Control, ReadsBy}
use Rattle.grammar.specs.Marks.{halve, closes}
use Rattle.grammar.specs.Numbers.{bits}
use Rattle.grammar.specs.Paths.{steps_of}
use Rattle.grammar.specs.Readings.{Piece, child, capture, repeat, RepeatOf, Unread}
use Rattle.grammar.specs.Shapes.{TypedRepeat, Shape, typed_text, typed_child, typed_repeat, typed_capture}
use Rattle.grammar.specs.Templates.{Typed, template_at}

-- a separator as a text stands for itself
abbrev pub Itself : List ℕ → List ℕ → Type 0
Itself t u = t ≡ u

abbrev pub Raw : List ℕ → List ℕ → RepeatOf (List ℕ) → Type 0
Raw = Repeats Itself

abbrev pub unread_repeat : TypedRepeat → RepeatOf (List ℕ)
unread_repeat x = record {
  from = bits x.from.0;
  to = bits x.to.0;
  left = x.left;
  middle_left = x.middle.left;
  middle_right = x.middle.right;
  right = x.right;
  before = halve 124 x.left_sep;
  between = halve 124 x.middle_sep;
  behind = halve 124 x.right_sep;
}

abbrev pub unreads : List Shape → List (Piece (RepeatOf (List ℕ)))
unreads [] = []
unreads (typed_text t ∷ ss) = texted (halve 36 t) (unreads ss)
unreads (typed_child p i b ∷ ss) = child (steps_of p) (bits i.0) b.left b.right ∷ unreads ss
unreads (typed_repeat x ∷ ss) = repeat (steps_of x.path) (unread_repeat x) ∷ unreads ss
unreads (typed_capture n ∷ ss) = capture n ∷ unreads ss

abbrev pub unread : Typed → Unread
unread t = record { left = t.left; right = t.right; pieces = unreads t.shapes }

-- the limit of steps alone
abbrev pub stepped : {R : Type 0} → List (Piece R) → Bool
stepped ps = within (λ x. true) ps

-- ---- controls
pub record ControlRead (cs : List ℕ) (s : Shape) (n : ℕ) : Type 0 where
  pub front : List ℕ
  pub rest : List ℕ
  pub piece : Piece (RepeatOf (List ℕ))
  pub is : cs ≡ front ++ rest
  pub long : length front ≡ n
  pub control : Control Raw (36 ∷ front) piece
  pub means : (ss : List Shape) → unreads (s ∷ ss) ≡ piece ∷ unreads ss
  pub steps : stepped (piece ∷ []) ≡ true

abbrev pub ControlForth : Type 0
ControlForth = (place : ℕ) (cs : List ℕ) (s : Shape) (n : ℕ) → control_at place cs ≡ Ok (s, n) → ControlRead cs s n

pub record ControlFound (place : ℕ) (front rest : List ℕ) (p : Piece (RepeatOf (List ℕ))) : Type 0 where
  pub shape : Shape
  pub reads : control_at place (front ++ rest) ≡ Ok (shape, length front)
  pub means : (ss : List Shape) → unreads (shape ∷ ss) ≡ p ∷ unreads ss

abbrev pub ControlBack : Type 0
ControlBack = (place : ℕ) (front rest : List ℕ) (p : Piece (RepeatOf (List ℕ))) → Control Raw (36 ∷ front) p → stepped (p ∷ []) ≡ true → ControlFound place front rest p

-- ---- templates
abbrev pub UnreadForth : Type 0
UnreadForth = (cs : List ℕ) (t : Typed) → template_at cs ≡ Ok t → ReadsBy Raw cs (unread t) × (limited_by (λ x. true) (unread t) ≡ true)

pub record UnreadFound (cs : List ℕ) (r : Unread) : Type 0 where
  pub typed : Typed
  pub reads : template_at cs ≡ Ok typed
  pub means : unread typed ≡ r

abbrev pub UnreadBack : Type 0
UnreadBack = (cs : List ℕ) (r : Unread) → ReadsBy Raw cs r → limited_by (λ x. true) r ≡ true → UnreadFound cs r

-- ---- the separators of a repeat, as texts, hold no `)$`
pub record Open (x : RepeatOf (List ℕ)) : Type 0 where
  pub before : closes x.before ≡ false
  pub between : closes x.between ≡ false
  pub behind : closes x.behind ≡ false

abbrev pub SeparatorsOpen : Type 0
SeparatorsOpen = (t s : List ℕ) (x : RepeatOf (List ℕ)) → Raw t s x → Open x
