use Rattle.std.proofs.Common.{[], refl, arith}
use Rattle.plain.proofs.Whole.{read_all}
use Rattle.plain.proofs.descent.read.Goals as goal

pub returns : goal.returns
returns c = rw c.then_some.ensures (read_all c.args.text.now _ c.is_empty.result (omega arith) c.is_empty.ensures c.in_ok-inside.ensures.stops (c.in_ok-inside.ensures.reads [] refl))
