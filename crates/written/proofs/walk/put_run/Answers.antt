use Rattle.wire.specs.Cursor.{ahead_of}
use Rattle.written.proofs.Runs.{run_more}
use Rattle.written.proofs.walk.put_run.Goals as goal

pub run-preserved : goal.run-preserved
run-preserved c = (tt, tt, run_more c.run.waits c.is_step-waits.result c.in-Some.command (ahead_of c.run.commands) (ahead_of c.next.new.self) c.in-Some.ensures.steps c.if-is_over.ensures c.run.invariant.2 c.put_command.ensures c.is_step-waits.ensures)
