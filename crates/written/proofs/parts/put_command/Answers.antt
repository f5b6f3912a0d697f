use Rattle.std.proofs.Common.{sym, subst}
use Rattle.written.proofs.Inks.{ranged}
use Rattle.wire.specs.Cursor.{ahead_of}
use Rattle.written.specs.Pens.{Writes}
use Rattle.written.specs.Spelled.{spelled}
use Rattle.written.proofs.parts.put_command.Goals as goal

pub returns-in-Range : goal.returns-in-Range
returns-in-Range c =
    subst (λ k. Writes (spelled c.args.inside c.args.waits k (ahead_of c.args.commands)) c.args.pen.now c.put_powers.new.pen) (sym c.in-Range.is)
    (ranged c.args.inside c.args.waits c.in-Range.from c.in-Range.to c.in-Range.left c.in-Range.middle_left c.in-Range.middle_right c.in-Range.right (ahead_of c.args.commands) c.put_range.ensures c.put_powers.ensures)
