use Rattle.tables.proofs.Rewritten.{rewritten}
use Rattle.tables.proofs.laws.rows_of_source.Goals as goal

pub returns : goal.returns
returns c = rewritten
