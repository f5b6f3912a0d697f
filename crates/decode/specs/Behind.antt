-- What stands behind a reading that is allowed.
use Rattle.std.specs.Prelude.{ℕ, Bool, cond, not, ◌&&◌, List, length, Some, None, Option, ◌==◌, nat_le}
use Rattle.grammar.specs.Limits.{step_allowance}
use Rattle.codes.specs.Acceptable.{separates, repeats, acceptable}
use Rattle.codes.specs.Code.{Command}
use Rattle.codes.specs.Decode.{Got, on_some, run_at, nothing, repeat_at, separator_at, template_at}
use Rattle.codes.specs.Forward.{grouped, counted, stepped_by, ranges_by, clear_by}
use Rattle.wire.specs.declared.commands.Command.{Command as Read}
use Rattle.wire.specs.declared.commands.Command.TheVariants.{End, Power, Byte, Step, Child, Range, Capture}
use Rattle.wire.specs.Cursor.{bytes_of}
use Rattle.wire.specs.declared.cursor.Commands.{Commands}
use Rattle.decode.specs.declared.walks.Walk.{Walk}

-- the bytes that are left to a reader, if there is one
abbrev pub left_of : Option Commands → Option (List ℕ)
left_of None = None
left_of (Some c) = Some (bytes_of c)

abbrev pub behind_separator : List ℕ → Option (List ℕ)
behind_separator cs = on_some (separator_at cs) (λ p. cond (separates step_allowance p.0) (Some p.1) None)

abbrev pub behind_three : List ℕ → Option (List ℕ)
behind_three cs = on_some (behind_separator cs) (λ x. on_some (behind_separator x) behind_separator)

abbrev pub behind_template : List ℕ → Option (List ℕ)
behind_template cs = on_some (template_at cs) (λ p. cond (acceptable step_allowance p.0) (Some p.1) None)

-- behind a command with the separators of a range
abbrev pub behind_command : Read → List ℕ → Option (List ℕ)
behind_command End cs = Some cs
behind_command (Power l r) cs = Some cs
behind_command (Byte b) cs = Some cs
behind_command (Step i) cs = Some cs
behind_command (Child i l r) cs = Some cs
behind_command (Range f t l a b r) cs = behind_three cs
behind_command (Capture n) cs = Some cs

-- ---- the rest of a reading that has come so far
abbrev pub allowed_from : {R : Type 0} → Walk → List (Command R) → Bool
allowed_from w ks = grouped (not (w.waiting == 0)) ks && (nat_le (counted w.text ks) w.room && stepped_by step_allowance w.waiting ks)

-- behind the run that is left, if it and what E tells of it are allowed
abbrev pub judged : {R : Type 0} → Walk → (List (Command R) → Bool) → Got (List (Command R)) → Option (List ℕ)
judged w E m = on_some m (λ ks. cond (allowed_from w ks.0 && E ks.0) (Some ks.1) None)

abbrev pub run_from : {R : Type 0} → (List ℕ → Got R) → List ℕ → Got (List (Command R))
run_from f cs = run_at f (length cs) cs

-- in a separator, where a `$` follows the run if m, behind a `)` of a text if c
abbrev pub rest_inside : Bool → Walk → Bool → List ℕ → Option (List ℕ)
rest_inside m w c cs = judged w (clear_by m c) (run_from nothing cs)

abbrev pub rest_outside : Walk → List ℕ → Option (List ℕ)
rest_outside w cs = judged w (ranges_by (repeats step_allowance)) (run_from repeat_at cs)
