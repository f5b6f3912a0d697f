use Rattle.matching.proofs.Celled.{last_row}
use Rattle.std.proofs.Common.{arith}
use Rattle.plain.proofs.search.Search.last_row.Goals as goal

pub returns : goal.returns
returns c = last_row c.args.self.now.items.now c.args.self.now.name.now 256 (omega arith)
