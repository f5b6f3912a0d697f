-- The laws of lines together.
use Rattle.lines.proofs.Alike.{line_unfolds, alike_holds}
use Rattle.lines.proofs.Cuts.{ends_hold, breach_holds}
use Rattle.lines.proofs.Worked.{worked_holds}
use Rattle.lines.specs.Laws.{Laws}

pub laws_hold : Laws
laws_hold = record { unfolds = line_unfolds; ends = ends_hold; breach = breach_holds; alike = alike_holds; worked = worked_holds }
