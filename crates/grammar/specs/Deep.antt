-- What a template is with its separators read, and its greatest capture.
use Rattle.std.specs.Prelude.{ℕ, ◌+◌, Bool, true, cond, ◌&&◌, List, [], ◌∷◌, length, None, Ok, Err, Option, Result, nat_le}
use Rattle.refusal.specs.Refusals.{of_template, carried}
use Rattle.refusal.specs.declared.error.DeepError.{DeepError}
use Rattle.refusal.specs.declared.error.FormatterError.TheVariants.{TemplateTooLong}
use Rattle.refusal.specs.declared.error.ParseError.{ParseError}
use Rattle.refusal.specs.declared.error.Side.{Side}
use Rattle.refusal.specs.declared.error.Side.TheVariants.{Left, Middle, Right}
use Rattle.grammar.specs.Limits.{step_allowance, piece_allowance, template_limit}
use Rattle.grammar.specs.Marks.{halve}
use Rattle.grammar.specs.Numbers.{bits}
use Rattle.grammar.specs.Paths.{steps_of}
use Rattle.grammar.specs.Readings.{Piece, text, child, capture, repeat, Reading, Separator, Repeat, Template}
use Rattle.grammar.specs.Results.{on_ok, on_err, located}
use Rattle.grammar.specs.Shapes.{TypedRepeat, Shape, typed_text, typed_child, typed_repeat, typed_capture}
use Rattle.grammar.specs.Templates.{Typed, template_at, greater}

-- a text in front of further pieces, if it has bytes
abbrev pub texted : {R : Type 0} → List ℕ → List (Piece R) → List (Piece R)
texted [] ps = ps
texted (b ∷ bs) ps = text b bs ∷ ps

-- the pieces of a separator. A repeat ends in `)$`, where the outer one would have ended, so none stands among them.
abbrev pub plains : List Shape → List (Piece ⊥)
plains [] = []
plains (typed_text t ∷ ss) = texted (halve 36 t) (plains ss)
plains (typed_child p i b ∷ ss) = child (steps_of p) (bits i.0) b.left b.right ∷ plains ss
plains (typed_repeat x ∷ ss) = plains ss
plains (typed_capture n ∷ ss) = capture n ∷ plains ss

abbrev pub plainly : Typed → Separator
plainly t = record { left = t.left; right = t.right; pieces = plains t.shapes }

abbrev pub DeepFault : Type 0
DeepFault = ParseError DeepError

-- the separator on a side of the repeat that is the piece n
abbrev pub separator_at : ℕ → Side → List ℕ → Result Separator DeepFault
separator_at n side typed = on_err (λ e. carried (record { piece = n; side = side; fault = e })) (on_ok (template_at (halve 124 typed)) (λ t. Ok (plainly t)))

abbrev pub deeply : TypedRepeat → Separator → Separator → Separator → Repeat
deeply x a b c = record {
  from = bits x.from.0;
  to = bits x.to.0;
  left = x.left;
  middle_left = x.middle.left;
  middle_right = x.middle.right;
  right = x.right;
  before = a;
  between = b;
  behind = c;
}

abbrev pub repeat_from : ℕ → TypedRepeat → Result Repeat DeepFault
repeat_from n x =
    on_ok (separator_at n Left x.left_sep) (λ a. on_ok (separator_at n Middle x.middle_sep) (λ b. on_ok (separator_at n Right x.right_sep) (λ c. Ok (deeply x a b c))))

-- the pieces from the n-th on, each repeat's separators read from left to right
abbrev pub deep_from : ℕ → List Shape → Result (List (Piece Repeat)) DeepFault
deep_from n [] = Ok []
deep_from n (typed_text t ∷ ss) = on_ok (deep_from (n + 1) ss) (λ ps. Ok (texted (halve 36 t) ps))
deep_from n (typed_child p i b ∷ ss) = on_ok (deep_from (n + 1) ss) (λ ps. Ok (child (steps_of p) (bits i.0) b.left b.right ∷ ps))
deep_from n (typed_repeat x ∷ ss) = on_ok (repeat_from n x) (λ r. on_ok (deep_from (n + 1) ss) (λ ps. Ok (repeat (steps_of x.path) r ∷ ps)))
deep_from n (typed_capture k ∷ ss) = on_ok (deep_from (n + 1) ss) (λ ps. Ok (capture k ∷ ps))

abbrev pub deepened : Typed → Result Template DeepFault
deepened t = on_ok (deep_from 0 t.shapes) (λ ps. Ok (record { left = t.left; right = t.right; pieces = ps }))

-- the whole reading of a template
abbrev pub reading_at : List ℕ → Result Template DeepFault
reading_at cs = on_ok (on_err of_template (template_at cs)) deepened

-- the same for a template of any length
abbrev pub deep_at : List ℕ → Result Template DeepFault
deep_at cs = cond (nat_le (length cs) template_limit) (reading_at cs) (Err (of_template (located TemplateTooLong 0 0)))

-- the greatest capture of the pieces, m being the greatest before them
abbrev pub most : {R : Type 0} → Option ℕ → List (Piece R) → Option ℕ
most m [] = m
most m (text b bs ∷ ps) = most m ps
most m (child s i l r ∷ ps) = most m ps
most m (capture n ∷ ps) = most (greater m n) ps
most m (repeat s x ∷ ps) = most m ps

abbrev pub most_in : Option ℕ → Repeat → Option ℕ
most_in m x = most (most (most m x.before.pieces) x.between.pieces) x.behind.pieces

-- the same for the separators of the pieces
abbrev pub most_between : Option ℕ → List (Piece Repeat) → Option ℕ
most_between m [] = m
most_between m (text b bs ∷ ps) = most_between m ps
most_between m (child s i l r ∷ ps) = most_between m ps
most_between m (capture n ∷ ps) = most_between m ps
most_between m (repeat s x ∷ ps) = most_between (most_in m x) ps

-- the greatest capture of a template, among its pieces and in its separators
abbrev pub greatest : Template → Option ℕ
greatest r = most_between (most None r.pieces) r.pieces

-- the limits on a reading: at most n steps in each path, and so many pieces
abbrev pub within_by : {R : Type 0} → ℕ → (R → Bool) → List (Piece R) → Bool
within_by n f [] = true
within_by n f (text b bs ∷ ps) = within_by n f ps
within_by n f (child s i l r ∷ ps) = nat_le (length s) n && within_by n f ps
within_by n f (capture k ∷ ps) = within_by n f ps
within_by n f (repeat s x ∷ ps) = nat_le (length s) n && (f x && within_by n f ps)

abbrev pub within : {R : Type 0} → (R → Bool) → List (Piece R) → Bool
within f ps = within_by step_allowance f ps

abbrev pub limited_by : {R : Type 0} → (R → Bool) → Reading R → Bool
limited_by f r = nat_le (length r.pieces) piece_allowance && within f r.pieces

abbrev pub limited_separator : Separator → Bool
limited_separator r = limited_by (λ x. true) r

abbrev pub limited_repeat : Repeat → Bool
limited_repeat x = limited_separator x.before && (limited_separator x.between && limited_separator x.behind)

abbrev pub limited : Template → Bool
limited r = limited_by limited_repeat r
