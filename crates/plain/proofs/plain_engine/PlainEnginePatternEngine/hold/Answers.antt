use Rattle.std.proofs.Common.{◌≡◌, ◌<◌, Some, None, rules}
use Rattle.engine.proofs.Tally.{tally_free, prepared_room}
use Rattle.engine.specs.Holdings.{tally}
use Rattle.plain.specs.Rules.{plain_count}
use Rattle.plain.specs.Slots.{held_in}
use Rattle.plain.proofs.plain_engine.PlainEnginePatternEngine.hold.Goals as goal

pub returns-clause-refusal : goal.returns-clause-refusal
returns-clause-refusal c =
    let ss = c.args.self.now.slots in
    let k = c.in_ok-number.number in
    let counted : plain_count c.args.text.now ≡ Some c.in_ok-ok_or.field-0 = search rules in
    let found : (k < 16) × (held_in ss k ≡ None) = search rules in
    prepared_room (plain_count c.args.text.now) (tally 16 (held_in ss)) 16 c.in_ok-ok_or.field-0 counted (tally_free 16 k (held_in ss) found.0 found.1)
