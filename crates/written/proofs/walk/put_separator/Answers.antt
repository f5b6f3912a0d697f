use Rattle.std.proofs.Common.{false, sym, subst}
use Rattle.wire.specs.Cursor.{ahead_of}
use Rattle.written.proofs.Runs.{around_written, run_runs}
use Rattle.written.proofs.walk.put_separator.Goals as goal
use Rattle.written.specs.Pens.{Writes}
use Rattle.written.specs.Spelled.{run_back, separator_of}

pub returns-in-Some : goal.returns-in-Some
returns-in-Some c =
    subst (λ l. Writes (separator_of l) c.args.pen.now c.put_suffix.new.pen) (sym c.in-Some.ensures)
    (around_written c.in-Some.powers.left c.in-Some.powers.right (ahead_of c.in-Some.run') (run_back false (ahead_of c.in-Some.run')) (run_runs (ahead_of c.in-Some.run')) c.put_prefix.ensures c.put_run.ensures c.put_suffix.ensures)
