use Rattle.wire.specs.Cursor.{ahead_of}
use Rattle.written.proofs.Runs.{body_more, fewer}
use Rattle.written.proofs.walk.put_body.Goals as goal

pub body-smaller : goal.body-smaller
body-smaller c = fewer c.in-Some.command (ahead_of c.body.commands) (ahead_of c.next.new.self) (ahead_of c.put_behind.new.commands) c.in-Some.ensures.steps c.put_behind.ensures.passed

pub body-preserved : goal.body-preserved
body-preserved c =
    (tt, tt, body_more c.body.waits c.is_step-waits.result c.in-Some.command (ahead_of c.body.commands) (ahead_of c.next.new.self) (ahead_of c.put_behind.new.commands) c.in-Some.ensures.steps c.if-is_over.ensures c.put_behind.ensures.passed c.body.invariant.2 c.put_command.ensures c.put_behind.ensures.wrote c.is_step-waits.ensures)
