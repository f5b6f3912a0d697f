use Rattle.lines.proofs.Alike.{line_unfolds}
use Rattle.lines.proofs.laws.lines_unfold.Goals as goal

pub returns : goal.returns
returns c = line_unfolds
