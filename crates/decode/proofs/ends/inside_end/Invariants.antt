use Rattle.std.proofs.Common.{◌≡◌, ◌≤◌, false, length}
use Rattle.wire.specs.Cursor.{bytes_of}
use Rattle.decode.specs.Behind.{rest_inside}
use Rattle.decode.specs.Walking.{start}
use Rattle.decode.proofs.ends.inside_end.Given as goal

abbrev pub invariant-run : goal.invariant-run
invariant-run l =
    (length (bytes_of l.commands) ≤ length (bytes_of l.initial.commands))
    × (rest_inside l.suffixed l.walk l.closed (bytes_of l.commands) ≡ rest_inside l.suffixed start false (bytes_of l.initial.commands))

abbrev pub decreases-run : goal.decreases-run
decreases-run l = length (bytes_of l.commands)
