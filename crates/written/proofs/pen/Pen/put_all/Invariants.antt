use Rattle.std.proofs.Common.{drop}
use Rattle.written.proofs.Runs.{Left}
use Rattle.written.proofs.pen.Pen.put_all.Given as goal

abbrev pub invariant-loop-b : goal.invariant-loop-b
invariant-loop-b l = Left (drop l.b-index l.bytes) l.bytes l.initial.self l.self
