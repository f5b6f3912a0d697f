use Rattle.std.proofs.Common.{◌≡◌, ◌<◌, Some, None, rules}
use Rattle.engine.proofs.Tally.{tally_free, prepared_room}
use Rattle.engine.specs.Holdings.{tally}
use Rattle.listed.specs.Facts.{kept, count_in}
use Rattle.listed.specs.Seen.{facts_of, held_at}
use Rattle.listed.proofs.answer_list.AnswerListPatternEngine.hold.Goals as goal

pub returns-clause-refusal : goal.returns-clause-refusal
returns-clause-refusal c =
    let a = c.args.self.now in
    let k = c.in_ok-number.number in
    let counted : count_in (kept (facts_of a)) c.args.text.now ≡ Some c.in_ok-row.row.now.count = search rules in
    let found : (k < 32) × (held_at a k ≡ None) = search rules in
    prepared_room (count_in (kept (facts_of a)) c.args.text.now) (tally 32 (held_at a)) 32 c.in_ok-row.row.now.count counted (tally_free 32 k (held_at a) found.0 found.1)
