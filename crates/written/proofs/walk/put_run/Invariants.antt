use Rattle.std.proofs.Common.{false}
use Rattle.wire.specs.Cursor.{ahead_of}
use Rattle.written.proofs.Runs.{Left}
use Rattle.written.proofs.walk.put_run.Given as goal
use Rattle.written.specs.Spelled.{run_back}

abbrev pub invariant-run : goal.invariant-run
invariant-run l =
    (goal.iterator-run).can_next l.commands × (goal.iterator-run).is_finite l.commands × Left (run_back l.waits (ahead_of l.commands)) (run_back false (ahead_of l.initial.commands)) l.initial.pen l.pen
