-- The numbers of the kinds of commands, as they stand in a code.
use Rattle.std.specs.Prelude.{◌≡◌, ◌<◌, ℕ, Result, MatchResult}
use Rattle.codes.specs.declared.opcode.NoOpcode.{NoOpcode}
use Rattle.codes.specs.declared.opcode.Opcode.{Opcode}
use Rattle.codes.specs.declared.opcode.Opcode.TheVariants.{End, Power, Byte, Step, Child, Range, Capture}

abbrev pub number_of : Opcode → ℕ
number_of End = 0
number_of Power = 1
number_of Byte = 2
number_of Step = 3
number_of Child = 4
number_of Range = 5
number_of Capture = 6

-- the kind with this number; no kind has a number above 6
abbrev pub OpcodeOf : ℕ → Result Opcode NoOpcode → Type 0
OpcodeOf n r = MatchResult r (λ k. number_of k ≡ n) (λ _. 6 < n)
