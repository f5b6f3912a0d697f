use Rattle.written.proofs.Inks.{then, when}
use Rattle.written.proofs.parts.put_marked.Goals as goal

pub returns-then-stands : goal.returns-then-stands
returns-then-stands c = when _ _ c.if-stands.true (then c.put.ensures (then c.put_numeral.ensures c.put-then-stands.ensures))
