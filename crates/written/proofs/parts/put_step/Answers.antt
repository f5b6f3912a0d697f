use Rattle.written.proofs.Inks.{then}
use Rattle.written.proofs.parts.put_step.Goals as goal

pub returns : goal.returns
returns c = then c.put_first.ensures (then c.put_index.ensures c.put.ensures)
