use Rattle.std.proofs.Common.{ap}
use Rattle.listed.specs.Seen.{slot_text}
use Rattle.listed.proofs.Steps.{nothing}
use Rattle.listed.proofs.rows.AnswerList.over.Goals as goal

pub returns-clause-free : goal.returns-clause-free
returns-clause-free c = λ k. ap slot_text (nothing 32 k)
