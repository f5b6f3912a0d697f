-- What the commands ahead begin with.
use Rattle.std.specs.Prelude.{ℕ, Bool, true, false, List, [], ◌∷◌, ◌==◌}
use Rattle.wire.specs.declared.commands.Command.{Command}
use Rattle.wire.specs.declared.commands.Command.TheVariants.{End, Power, Byte, Step, Child, Range, Capture}

-- no command of a run
abbrev pub over : Command → Bool
over End = true
over (Power l r) = true
over (Byte b) = false
over (Step i) = false
over (Child i l r) = false
over (Range f t l a b r) = false
over (Capture n) = false

abbrev pub is_step : Command → Bool
is_step End = false
is_step (Power l r) = false
is_step (Byte b) = false
is_step (Step i) = true
is_step (Child i l r) = false
is_step (Range f t l a b r) = false
is_step (Capture n) = false

-- the byte m of a text
abbrev pub is_text : ℕ → Command → Bool
is_text m End = false
is_text m (Power l r) = false
is_text m (Byte b) = b == m
is_text m (Step i) = false
is_text m (Child i l r) = false
is_text m (Range f t l a b r) = false
is_text m (Capture n) = false

-- what is written for it, where no steps wait, begins with a `$`
abbrev pub is_mark : Command → Bool
is_mark End = false
is_mark (Power l r) = false
is_mark (Byte b) = b == 36
is_mark (Step i) = true
is_mark (Child i l r) = true
is_mark (Range f t l a b r) = true
is_mark (Capture n) = true

-- of the command that stands first; false where there is none
abbrev pub of_first : (Command → Bool) → List Command → Bool
of_first f [] = false
of_first f (k ∷ ks) = f k

-- a run without commands
abbrev pub bare_run : List Command → Bool
bare_run [] = true
bare_run (k ∷ ks) = over k

-- the powers with which a reading begins
abbrev pub is_power : Command → Bool
is_power End = false
is_power (Power l r) = true
is_power (Byte b) = false
is_power (Step i) = false
is_power (Child i l r) = false
is_power (Range f t l a b r) = false
is_power (Capture n) = false
