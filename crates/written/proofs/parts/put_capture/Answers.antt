use Rattle.written.proofs.Inks.{then}
use Rattle.written.proofs.parts.put_capture.Goals as goal

pub returns : goal.returns
returns c = then c.put_all.ensures (then c.put_numeral.ensures c.put_all-2.ensures)
