use Rattle.std.proofs.Common.{length}
use Rattle.terms.proofs.Equal.{opens_once}
use Rattle.tables.specs.Rows.{name_at, children_at, Lawful}
use Rattle.tables.proofs.laws.table_opens_once.Goals as goal

pub returns : goal.returns
returns c = λ rows. opens_once (Lawful rows) (length rows) (name_at rows) (children_at rows)
