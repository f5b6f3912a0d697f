use Rattle.std.proofs.Common.{rules}
use Rattle.wire.proofs.Operands.{word_here}
use Rattle.wire.proofs.cursor.Commands.word.Goals as goal

pub returns : goal.returns
returns c = word_here c.args.self.now.rest.now c.in_ok-a.field-0-0.now c.in_ok-a.rest.now c.from_be_bytes.result c.in_ok-a.ensures.cases c.from_be_bytes.ensures (search rules) (search rules) (search rules) (search rules)
