use Rattle.std.proofs.Common.{false}
use Rattle.wire.specs.Cursor.{ahead_of}
use Rattle.written.proofs.Runs.{Left}
use Rattle.written.proofs.walk.put_body.Given as goal
use Rattle.written.specs.Spelled.{body_of}

abbrev pub invariant-body : goal.invariant-body
invariant-body l =
    (goal.iterator-body).can_next l.commands × (goal.iterator-body).is_finite l.commands × Left (body_of 0 l.waits (ahead_of l.commands)) (body_of 0 false (ahead_of l.initial.commands)) l.initial.pen l.pen
