use Rattle.std.proofs.Common.{drop}
use Rattle.pen.proofs.Pages.{Goes}
use Rattle.pen.proofs.writing.Pen.put_all.Given as goal

abbrev pub invariant-loop-b : goal.invariant-loop-b
invariant-loop-b l = Goes l.initial.self l.bytes l.self (drop l.b-index l.bytes)
