use Rattle.lines.proofs.Alike.{alike_holds}
use Rattle.lines.proofs.laws.lines_alike.Goals as goal

pub returns : goal.returns
returns c = alike_holds
