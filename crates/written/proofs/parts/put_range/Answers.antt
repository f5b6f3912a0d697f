use Rattle.written.proofs.Inks.{then}
use Rattle.written.proofs.parts.put_range.Goals as goal

pub returns : goal.returns
returns c = then c.put_open.ensures (then c.put_index.ensures (then c.put_all.ensures c.put_index-2.ensures))
