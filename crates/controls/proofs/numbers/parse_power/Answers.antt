use Rattle.std.proofs.Common.{ap, ◌∙◌}
use Rattle.grammar.specs.Numbers.{power_at}
use Rattle.controls.proofs.Cuts.{taken}
use Rattle.controls.proofs.numbers.parse_power.Goals as goal

pub returns : goal.returns
returns c =
    c.parse_u32.ensures
    ∙ ap (power_at c.args.from) (taken c.args.template.now c.args.from c.args.to c.get.result c.unwrap_or_default-text.result (rw c.min-end.ensures at c.get.ensures.lookup) c.unwrap_or_default-text.ensures)
