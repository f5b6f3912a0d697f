-- No text stands first, and a control does or none.
use Rattle.std.proofs.Common.{◌≡◌, drop, sym, ap, ◌∙◌, arith}
use Rattle.std.proofs.lemmas.List.{take_rest}
use Rattle.grammar.specs.Marks.{unpaired}
use Rattle.controls.specs.Views.{shape}
use Rattle.templates.proofs.Ones.{first_err, first_ok}
use Rattle.templates.proofs.walk.output_at.Goals as goal

pub returns-in_default-clause-value : goal.returns-in_default-clause-value
returns-in_default-clause-value c =
    let xs = c.args.text.now in
    let no_text : unpaired 36 (drop c.args.at xs) ≡ 0 = ap (unpaired 36) (sym (c.in_ok-rest.ensures.lookup.0.2 ∙ take_rest xs c.args.at)) ∙ sym c.unpaired-words.ensures.value ∙ omega arith in
    first_err xs c.args.at _ no_text c.in_default.ensures.same

pub returns-clause-value : goal.returns-clause-value
returns-clause-value c =
    let xs = c.args.text.now in
    let no_text : unpaired 36 (drop c.args.at xs) ≡ 0 = ap (unpaired 36) (sym (c.in_ok-rest.ensures.lookup.0.2 ∙ take_rest xs c.args.at)) ∙ sym c.unpaired-words.ensures.value ∙ omega arith in
    first_ok xs c.args.at (shape c.in-Ok.piece) c.in-Ok.used no_text c.in-Ok.ensures.same
