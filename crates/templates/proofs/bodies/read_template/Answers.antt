-- Prefix and suffix were read, and the body is read last.
use Rattle.std.proofs.Common.{Ok, Err, ap, ◌∙◌}
use Rattle.std.proofs.lemmas.Result.{err_from_is_err_and}
use Rattle.grammar.specs.Results.{Fault}
use Rattle.templates.specs.Views.{seen_formatter}
use Rattle.templates.proofs.Whole.{template_read_lem}
use Rattle.templates.proofs.bodies.read_template.Goals as goal

pub returns-in_err-outputs : goal.returns-in_err-outputs
returns-in_err-outputs c =
    let p = err_from_is_err_and c.from_residual-in_err-outputs.result c.from_residual-in_err-outputs.ensures.1 in
    let r = template_read_lem c.args.text.now c.in_ok-left.left c.in_ok-left.start c.in_ok-right.right c.in_ok-right.size c.in_ok-right.ensures.within (Err _) c.in_ok-left.ensures.value c.in_ok-right.ensures.value c.in_err-outputs.ensures in
    ap seen_formatter p.1 ∙ ap (λ (x : Fault). Err x) p.2 ∙ r

pub returns : goal.returns
returns c =
    template_read_lem c.args.text.now c.in_ok-left.left c.in_ok-left.start c.in_ok-right.right c.in_ok-right.size c.in_ok-right.ensures.within (Ok (c.in_ok-outputs.outputs, c.in_ok-outputs.max_capture)) c.in_ok-left.ensures.value c.in_ok-right.ensures.value c.in_ok-outputs.ensures
