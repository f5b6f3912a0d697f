use Rattle.std.proofs.Common.{◌≡◌}
use Rattle.wire.specs.Cursor.{ahead_of}
use Rattle.written.proofs.parts.bracket.Given as goal
use Rattle.written.specs.Spelled.{bracket_of}

abbrev pub invariant-loop-command : goal.invariant-loop-command
invariant-loop-command l =
    (goal.iterator-loop-command).can_next l.command-iterator × (goal.iterator-loop-command).is_finite l.command-iterator × (bracket_of (ahead_of l.command-iterator) ≡ bracket_of (ahead_of l.commands))
