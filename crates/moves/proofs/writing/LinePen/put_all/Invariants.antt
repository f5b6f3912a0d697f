use Rattle.std.proofs.Common.{◌≡◌, drop}
use Rattle.lines.specs.Events.{bytes}
use Rattle.moves.specs.Run.{state, run}
use Rattle.moves.proofs.writing.LinePen.put_all.Given as goal

abbrev pub invariant-loop-b : goal.invariant-loop-b
invariant-loop-b l = run (bytes (drop l.b-index l.text)) (state l.self) ≡ run (bytes l.text) (state l.initial.self)
