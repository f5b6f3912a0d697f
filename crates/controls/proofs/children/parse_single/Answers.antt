use Rattle.std.proofs.Common.{rules}
use Rattle.std.proofs.lemmas.Grind.{common_steps}
use Rattle.grammar.specs.Marks.{up_to}
use Rattle.controls.proofs.children.parse_single.Goals as goal

pub returns-in_err-bind_power : goal.returns-in_err-bind_power
returns-in_err-bind_power c =
    let powers = c.parse_child_powers.ensures c.args.part c.split.result.0 (up_to 124 c.args.part.text.now) c.split.ensures in
    grind (rules, common_steps)

pub returns : goal.returns
returns c =
    let powers = c.parse_child_powers.ensures c.args.part c.split.result.0 (up_to 124 c.args.part.text.now) c.split.ensures in
    grind (rules, common_steps)
