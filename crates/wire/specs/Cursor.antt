-- The bytes and the commands that are left to a reader of a code.
use Rattle.std.specs.Prelude.{ℕ, List, ◌≡◌, drop}
use Rattle.wire.specs.Ahead.{due}
use Rattle.wire.specs.declared.commands.Command.{Command}
use Rattle.wire.specs.declared.cursor.Commands.{Commands}

abbrev pub bytes_of : Commands → List ℕ
bytes_of c = c.rest.now

abbrev pub ahead_of : Commands → List Command
ahead_of c = due 0 (bytes_of c)

-- bytes that are what is left of others, some of them taken from the front
abbrev pub IsTailOf : List ℕ → List ℕ → Type 0
IsTailOf r cs = (n : ℕ) × (r ≡ drop n cs)
