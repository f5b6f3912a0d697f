use Rattle.lines.proofs.Worked.{worked_holds}
use Rattle.lines.proofs.laws.worked_line.Goals as goal

pub returns : goal.returns
returns c = worked_holds
