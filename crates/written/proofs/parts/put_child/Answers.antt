use Rattle.written.proofs.Inks.{then}
use Rattle.written.proofs.parts.put_child.Goals as goal

pub returns : goal.returns
returns c = then c.put_open.ensures (then c.put_index.ensures (then c.put_pair.ensures c.put_all.ensures))
