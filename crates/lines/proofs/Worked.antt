-- The worked line, by computation.
use Rattle.std.proofs.Common.{refl}
use Rattle.lines.specs.Events.{line}
use Rattle.lines.specs.Worked.{WorkedLine}

pub worked_holds : WorkedLine
unfolding line
worked_holds = (refl, refl)
