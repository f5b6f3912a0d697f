-- The commands of steps, and what stands behind a separator.
use Rattle.std.proofs.Common.{◌≡◌, ℕ, List, [], ◌∷◌, refl, ap, ◌∙◌}
use Rattle.std.specs.List.{AllByRecursion as All}
use Rattle.codes.specs.Code.{run, bytes, steps, commands, point, code_separator, never}
use Rattle.codes.specs.Code.{Command as Order}
use Rattle.codes.specs.Formed.{Fits, Never, FormedSeparator}
use Rattle.grammar.specs.Readings.{Piece, text, child, capture, repeat, Separator, Index}
use Rattle.grammar.specs.Readings.{Byte as IsByte}
use Rattle.wire.proofs.Wires.{due_end, due_byte, due-step, due_child, due_capture, due-power}
use Rattle.wire.specs.Ahead.{due, past}
use Rattle.wire.specs.Commands.{index_of}
use Rattle.wire.specs.declared.commands.Command.{Command}
use Rattle.wire.specs.declared.commands.Command.TheVariants.{Step}

abbrev pub stepped : List ℕ → List Command → List Command
stepped [] ks = ks
stepped (y ∷ s) ks = Step (index_of y) ∷ stepped s ks

pub due-steps : {R : Type 0} (f : R → List ℕ → List ℕ) (s : List ℕ) (ks : List (Order R)) (cs : List ℕ) → All Index s → due 0 (run f (steps s ks) cs) ≡ stepped s (due 0 (run f ks cs))
due-steps f [] ks cs h = refl
due-steps f (y ∷ s) ks cs h = due-step y (run f (steps s ks) cs) h.0 ∙ ap (λ l. Step (index_of y) ∷ l) (due-steps f s ks cs h.1)

-- where a separator ends
past_bytes : (bs : List ℕ) (ks : List (Order ⊥)) (cs : List ℕ) → All IsByte bs → past (due 0 (run never (bytes bs ks) cs)) ≡ past (due 0 (run never ks cs))
past_bytes [] ks cs h = refl
past_bytes (b ∷ bs) ks cs h = ap past (due_byte b (run never (bytes bs ks) cs) h.0) ∙ past_bytes bs ks cs h.1

past-steps : (s : List ℕ) (ks : List Command) → past (stepped s ks) ≡ past ks
past-steps [] ks = refl
past-steps (y ∷ s) ks = past-steps s ks

pub past-run : (ps : List (Piece ⊥)) (cs : List ℕ) → All (Fits Never) ps → past (due 0 (run never (commands ps) cs)) ≡ due 0 cs
past-run [] cs h = ap past (due_end cs)
past-run (text b bs ∷ ps) cs h = past_bytes (b ∷ bs) (commands ps) cs h.0 ∙ past-run ps cs h.1
past-run (child s i l r ∷ ps) cs h =
    ap past (due-steps never s (point i l r ∷ commands ps) cs h.0.0) ∙ past-steps s (due 0 (run never (point i l r ∷ commands ps) cs))
    ∙ ap past (due_child i l r (run never (commands ps) cs) h.0.1 h.0.2 h.0.3) ∙ past-run ps cs h.1
past-run (capture n ∷ ps) cs h = ap past (due_capture n (run never (commands ps) cs) h.0) ∙ past-run ps cs h.1
past-run (repeat s x ∷ ps) cs h = absurd x

pub past_separator : (x : Separator) (cs : List ℕ) → FormedSeparator x → past (due 0 (code_separator x cs)) ≡ due 0 cs
past_separator x cs h = ap past (due-power x.left x.right (run never (commands x.pieces) cs) h.left h.right) ∙ past-run x.pieces cs h.fits
