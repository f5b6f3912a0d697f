use Rattle.lines.proofs.Cuts.{ends_hold, breach_holds}
use Rattle.lines.proofs.laws.lines_cut.Goals as goal

pub returns : goal.returns
returns c = record { ends = ends_hold; breach = breach_holds }
