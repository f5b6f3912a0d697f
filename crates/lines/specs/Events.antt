-- What happens while a term is printed, free of buffers and limits.
use Rattle.std.specs.Prelude.{ℕ, zero, suc, ◌-◌, Bool, true, false, cond, ◌||◌, List, [], ◌∷◌, ◌++◌, map, length, take, drop, Some, None, Option, nat_lt}
use Rattle.codes.specs.Decode.{on_some}
use Rattle.engine.specs.Rules.{span_at}
use Rattle.engine.specs.declared.span.Span.{Span}
use Rattle.grammar.specs.Readings.{Piece, text, child, capture, repeat, Separator, Repeat, Template}
use Rattle.terms.specs.Source.{Source}
use Rattle.lines.specs.Children.{child_of, descend, selected}
use Rattle.lines.specs.Chosen.{Chosen, Choosing}

-- a term is visited at a depth, a byte is due, or a child or a step of a path is missing
pub data Event : Type 0 where
  visit : ℕ → ℕ → Event
  byte : ℕ → Event
  missing : Event

-- the powers before and behind a term
pub record Context : Type 0 where
  pub before : ℕ
  pub behind : ℕ

abbrev pub context : ℕ → ℕ → Context
context a b = record { before = a; behind = b }

-- nothing stands round the term that a print begins with
abbrev pub alone : Context
alone = context 0 0

-- brackets enclose a term if a power beside it exceeds its template's on that side
abbrev pub encloses : Context → Template → Bool
encloses c r = nat_lt r.left c.before || nat_lt r.right c.behind

-- the powers round a child of a repeat: its left and right outside, the middle ones between two children
abbrev pub among : Repeat → Bool → Bool → Context
among x first last = context (cond first x.left x.middle_right) (cond last x.right x.middle_left)

abbrev pub bytes : List ℕ → List Event
bytes bs = map byte bs

abbrev pub spanned : List ℕ → Option Span → List ℕ
spanned name None = []
spanned name (Some s) = take (s.to - s.from) (drop s.from name)

-- the part of the name that a capture has; an absent span has none
abbrev pub captured : List ℕ → List (Option Span) → ℕ → List ℕ
captured name spans k = spanned name (span_at spans k)

abbrev pub or_missing : {A : Type 0} → Option A → (A → List Event) → List Event
or_missing None f = missing ∷ []
or_missing (Some x) f = f x

abbrev pub is_last : List ℕ → Bool
is_last [] = true
is_last (c ∷ cs) = false

-- the pieces of the term t with that name and those spans; `show` tells what happens at a child
module _ (m : Source) (show : ℕ → Context → List Event) (t : ℕ) (name : List ℕ) (spans : List (Option Span)) where
  -- f tells what happens at a repeat
  abbrev pub piece : {R : Type 0} → (List ℕ → R → List Event) → Piece R → List Event
  piece f (text b bs) = bytes (b ∷ bs)
  piece f (child s i l r) = or_missing (on_some (descend m t s) (λ u. child_of m u i)) (λ c. show c (context l r))
  piece f (capture k) = bytes (captured name spans k)
  piece f (repeat s x) = f s x

  abbrev pub pieces : {R : Type 0} → (List ℕ → R → List Event) → List (Piece R) → List Event
  pieces f [] = []
  pieces f (p ∷ ps) = piece f p ++ pieces f ps

  -- a separator is printed for the term itself, and its powers are unused
  abbrev pub separator : Separator → List Event
  separator r = pieces (λ s x. []) r.pieces

  abbrev pub gap : Bool → Separator → List Event
  gap true r = []
  gap false r = separator r

  -- the children of a repeat, with the middle separator between them
  abbrev pub row : Repeat → Bool → List ℕ → List Event
  row x first [] = []
  row x first (c ∷ cs) = gap first x.between ++ (show c (among x first (is_last cs)) ++ row x false cs)

  -- and the outer separators round them, if there are any
  abbrev pub range : Repeat → List ℕ → List Event
  range x [] = []
  range x (c ∷ cs) = separator x.before ++ (row x true (c ∷ cs) ++ separator x.behind)

  abbrev pub repeated : List ℕ → Repeat → List Event
  repeated s x = or_missing (descend m t s) (λ u. range x (selected m u x.from x.to))

  abbrev pub body : Template → List Event
  body r = pieces repeated r.pieces

abbrev pub enclosed : Bool → List Event → List Event
enclosed true es = byte 40 ∷ (es ++ byte 41 ∷ [])
enclosed false es = es

-- what happens at a term, once it is chosen what to show it by
abbrev pub shown : Source → (ℕ → Context → List Event) → ℕ → Context → Chosen → List Event
shown m show t c x = enclosed (encloses c x.reading) (body m show t (m.name t) x.spans x.reading)

-- the events at a term whose number is below n, at a depth; its children have smaller numbers, so they are below n - 1
abbrev pub events_by : Choosing → Source → ℕ → ℕ → ℕ → Context → List Event
events_by ch m zero d t c = []
events_by ch m (suc n) d t c = visit t d ∷ shown m (events_by ch m n (suc d)) t c (ch (m.name t) (length (m.children t)))

-- the line of a term, at a depth and in a context
unfoldable pub line : Choosing → Source → ℕ → ℕ → Context → List Event
line ch m d t c = events_by ch m (suc t) d t c
