-- The commands of a code from a place on, one behind the other.
use Rattle.std.specs.Prelude.{ℕ, zero, suc, ◌-◌, Bool, true, false, cond, List, [], ◌∷◌, drop, Some, None, Option}
use Rattle.wire.specs.Reading.{command_at}
use Rattle.wire.specs.declared.commands.Command.{Command}
use Rattle.wire.specs.declared.commands.Command.TheVariants.{End, Power, Byte, Step, Child, Range, Capture}

abbrev pub headed : Option (Command × ℕ) → (ℕ → List Command) → List Command
headed None f = []
headed (Some p) f = p.0 ∷ f p.1

-- so many bytes are passed over first
unfoldable pub due : ℕ → List ℕ → List Command
due zero [] = []
due (suc k) [] = []
due (suc k) (c ∷ cs) = due k cs
due zero (c ∷ cs) = headed (command_at 0 (c ∷ cs)) (λ n. due (n - 1) cs)

abbrev pub ahead : List ℕ → ℕ → List Command
ahead code at = due 0 (drop at code)

abbrev pub is_end : Command → Bool
is_end End = true
is_end (Power l r) = false
is_end (Byte b) = false
is_end (Step i) = false
is_end (Child i l r) = false
is_end (Range f t l a b r) = false
is_end (Capture n) = false

abbrev pub is_range : Command → Bool
is_range End = false
is_range (Power l r) = false
is_range (Byte b) = false
is_range (Step i) = false
is_range (Child i l r) = false
is_range (Range f t l a b r) = true
is_range (Capture n) = false

-- behind the next END
abbrev pub past : List Command → List Command
past [] = []
past (k ∷ ks) = cond (is_end k) ks (past ks)
