-- What readers answer, by the bytes that the answer borrows.
use Rattle.std.specs.Prelude.{ℕ, suc, ◌+◌, cond, List, [], ◌∷◌, length, take, Some, None, Ok, Err, Option, Result, ◌==◌}
use Rattle.controls.specs.Views.{shape}
use Rattle.controls.specs.declared.defns_const.SubFormatterConst.{SubFormatterConst}
use Rattle.controls.specs.declared.defns_const.SubFormatterConst.TheVariants.{String, Single, Repeat, Capture}
use Rattle.grammar.specs.Controls.{control_at}
use Rattle.grammar.specs.Limits.{piece_allowance}
use Rattle.grammar.specs.Marks.{unpaired}
use Rattle.grammar.specs.Matchers.{Matched}
use Rattle.grammar.specs.Results.{refusal, Fault}
use Rattle.grammar.specs.Shapes.{Shape, typed_text}
use Rattle.grammar.specs.Templates.{Typed, greater, most_typed}
use Rattle.refusal.specs.declared.error.EitherError.{EitherError}
use Rattle.refusal.specs.declared.error.FormatterError.TheVariants.{TooManyPieces}
use Rattle.matchers.specs.Views.{matched}
use Rattle.refusal.specs.declared.error.ParseError.{ParseError}
use Rattle.templates.specs.declared.defns_const.FormatterConst.{FormatterConst}
use Rattle.templates.specs.declared.defns_const.TermDisplayConst.{TermDisplayConst}

-- a piece with its length
abbrev pub seen_output : Option (SubFormatterConst × ℕ) → Option (Shape × ℕ)
seen_output None = None
seen_output (Some p) = Some (shape p.0, p.1)

abbrev pub seen_piece : Result (Option (SubFormatterConst × ℕ)) Fault → Result (Option (Shape × ℕ)) Fault
seen_piece (Ok o) = Ok (seen_output o)
seen_piece (Err e) = Err e

-- the greater of the greatest capture so far and a piece's own
abbrev pub greater_of : Option ℕ → SubFormatterConst → Option ℕ
greater_of m (String t) = m
greater_of m (Single p i b) = m
greater_of m (Repeat p f t l c r x y z) = m
greater_of m (Capture n) = greater m n

-- n pieces and one more, which has `size` bytes from `place` on
abbrev pub one_more : ℕ → ℕ → ℕ → Result ℕ Fault
one_more n place size = cond (n == piece_allowance) (refusal TooManyPieces place size) (Ok (n + 1))

-- how many pieces, and the greatest capture among them
abbrev pub totals : Result (List Shape) Fault → Result (ℕ × Option ℕ) Fault
totals (Ok ss) = Ok (length ss, most_typed None ss)
totals (Err e) = Err e

abbrev pub okay : Result (Shape × ℕ) Fault → Option (Shape × ℕ)
okay (Ok p) = Some (p.0, suc p.1)
okay (Err e) = None

-- the control that stands first, if one does
abbrev pub control_first : ℕ → List ℕ → Option (Shape × ℕ)
control_first place [] = None
control_first place (c ∷ cs) = okay (control_at (place + 1) cs)

-- the piece that stands first
abbrev pub output_at : ℕ → List ℕ → Option (Shape × ℕ)
output_at place cs = cond (unpaired 36 cs == 0) (control_first place cs) (Some (typed_text (take (unpaired 36 cs) cs), unpaired 36 cs))

-- what is answered of a template
pub record Summary : Type 0 where
  pub left : ℕ
  pub right : ℕ
  pub front : List ℕ
  pub start : ℕ
  pub outputs : ℕ
  pub most : Option ℕ

abbrev pub summary : List ℕ → Typed → Summary
summary cs t = record { left = t.left; right = t.right; front = take (t.place + length t.body) cs; start = t.place; outputs = length t.shapes; most = most_typed None t.shapes }

abbrev pub summed : List ℕ → Typed → Result Summary Fault
summed cs t = Ok (summary cs t)

abbrev pub seen : FormatterConst → Summary
seen f = record { left = f.bind_power.left; right = f.bind_power.right; front = f.text.now; start = f.start; outputs = f.outputs; most = f.max_capture }

abbrev pub seen_formatter : Result FormatterConst Fault → Result Summary Fault
seen_formatter (Ok f) = Ok (seen f)
seen_formatter (Err e) = Err e

abbrev pub defined : List ℕ → Matched × Typed → Result (Matched × Summary) (ParseError EitherError)
defined cs p = Ok (p.0, summary cs p.1)

abbrev pub seen_definition : Result TermDisplayConst (ParseError EitherError) → Result (Matched × Summary) (ParseError EitherError)
seen_definition (Ok d) = Ok (matched d.matcher, seen d.formatter)
seen_definition (Err e) = Err e
