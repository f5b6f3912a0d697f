-- What the readers of separators answer, and the whole reading by the bytes that the answer borrows.
use Rattle.std.specs.Prelude.{ℕ, ◌≤◌, max, List, length, Some, None, Ok, Err, Option, Result}
use Rattle.controls.specs.declared.defns_const.SubFormatterConst.{SubFormatterConst}
use Rattle.controls.specs.declared.defns_const.SubFormatterConst.TheVariants.{String, Single, Repeat, Capture}
use Rattle.formatter.specs.declared.defns.Formatter.{Formatter}
use Rattle.grammar.specs.Deep.{DeepFault, deepened, deep_from, greatest, most_between}
use Rattle.grammar.specs.Limits.{template_limit}
use Rattle.grammar.specs.Marks.{halve}
use Rattle.grammar.specs.Results.{on_ok, on_err, Fault}
use Rattle.grammar.specs.Shapes.{Shape, typed_text, typed_child, typed_repeat, typed_capture}
use Rattle.grammar.specs.Templates.{Typed, template_at, formatter_at, most_typed}
use Rattle.refusal.specs.Refusals.{of_template, carried}
use Rattle.refusal.specs.declared.error.InSeparator.{InSeparator}
use Rattle.refusal.specs.declared.error.Side.{Side}
use Rattle.refusal.specs.declared.error.Side.TheVariants.{Left, Middle, Right}
use Rattle.templates.specs.Views.{Summary, summary, seen}

abbrev pub greater_of : Option ℕ → Option ℕ → Option ℕ
greater_of (Some x) (Some y) = Some (max x y)
greater_of (Some x) None = Some x
greater_of None y = y

-- the greatest capture after a separator
abbrev pub in_separator : Option ℕ → List ℕ → Result (Option ℕ) Fault
in_separator m typed = on_ok (template_at (halve 124 typed)) (λ t. Ok (most_typed m t.shapes))

abbrev pub on_side : ℕ → Side → Option ℕ → List ℕ → Result (Option ℕ) InSeparator
on_side n side m typed = on_err (λ e. record { piece = n; side = side; fault = e }) (in_separator m typed)

-- the greatest capture after the separators of a repeat
abbrev pub in_repeat : ℕ → Option ℕ → List ℕ → List ℕ → List ℕ → Result (Option ℕ) DeepFault
in_repeat n m a b c =
    on_ok (on_err carried (on_side n Left m a)) (λ x. on_ok (on_err carried (on_side n Middle x b)) (λ y. on_ok (on_err carried (on_side n Right y c)) (λ z. Ok z)))

abbrev pub in_piece : ℕ → Option ℕ → Shape → Result (Option ℕ) DeepFault
in_piece n m (typed_text t) = Ok m
in_piece n m (typed_child p i b) = Ok m
in_piece n m (typed_repeat x) = in_repeat n m x.left_sep x.middle_sep x.right_sep
in_piece n m (typed_capture k) = Ok m

-- the separators of a piece have at most a template's bytes
abbrev pub Short : SubFormatterConst → Type 0
Short (String t) = Unit {0}
Short (Single p i b) = Unit {0}
Short (Repeat p f t l m r a b c) = (length a.now ≤ template_limit) × (length b.now ≤ template_limit) × (length c.now ≤ template_limit)
Short (Capture n) = Unit {0}

-- the greatest capture after the separators of all pieces, or the first fault in one
abbrev pub between_pieces : Option ℕ → Result (List Shape) Fault → Result (Option ℕ) DeepFault
between_pieces m (Ok ss) = on_ok (deep_from 0 ss) (λ ps. Ok (most_between m ps))
between_pieces m (Err e) = Err (of_template e)

-- what is answered of a whole reading: the template's summary and the greatest capture
abbrev pub deep_summary : List ℕ → Typed → Result (Summary × Option ℕ) DeepFault
deep_summary cs t = on_ok (deepened t) (λ r. Ok (summary cs t, greatest r))

abbrev pub formatter_read : List ℕ → Result (Summary × Option ℕ) DeepFault
formatter_read cs = on_ok (on_err of_template (formatter_at cs)) (deep_summary cs)

abbrev pub answered : Formatter → Summary × Option ℕ
answered f = (seen f.parts, f.max_capture)

abbrev pub seen_formatter : Result Formatter DeepFault → Result (Summary × Option ℕ) DeepFault
seen_formatter (Ok f) = Ok (answered f)
seen_formatter (Err e) = Err e
