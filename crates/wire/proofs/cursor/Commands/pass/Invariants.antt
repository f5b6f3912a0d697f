use Rattle.std.proofs.Common.{◌≡◌, ◌≤◌, length}
use Rattle.wire.proofs.cursor.Commands.pass.Given as goal
use Rattle.wire.specs.Ahead.{past}
use Rattle.wire.specs.Cursor.{ahead_of, bytes_of, IsTailOf}

abbrev pub invariant-passing : goal.invariant-passing
invariant-passing l = record {
  ahead : past (ahead_of l.self) ≡ past (ahead_of l.initial.self);
  fewer : length (bytes_of l.self) ≤ length (bytes_of l.initial.self);
  tail : IsTailOf (bytes_of l.self) (bytes_of l.initial.self);
}

abbrev pub decreases-passing : goal.decreases-passing
decreases-passing l = length (bytes_of l.self)
