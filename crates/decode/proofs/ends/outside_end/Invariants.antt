use Rattle.std.proofs.Common.{◌≡◌, length}
use Rattle.wire.specs.Cursor.{bytes_of}
use Rattle.decode.specs.Behind.{rest_outside}
use Rattle.decode.specs.Walking.{start}
use Rattle.decode.proofs.ends.outside_end.Given as goal

abbrev pub invariant-run : goal.invariant-run
invariant-run l = rest_outside l.walk (bytes_of l.commands) ≡ rest_outside start (bytes_of l.initial.commands)

abbrev pub decreases-run : goal.decreases-run
decreases-run l = length (bytes_of l.commands)
