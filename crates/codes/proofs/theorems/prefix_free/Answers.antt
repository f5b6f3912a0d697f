use Rattle.codes.proofs.Templates.{prefix_free_lem}
use Rattle.codes.proofs.Whole.{decodes, fewer_steps}
use Rattle.codes.proofs.theorems.prefix_free.Goals as goal

pub returns : goal.returns
returns c = record { free = prefix_free_lem; decodes = decodes; fewer = fewer_steps }
