-- What a pass forward over a run of commands tells of its pieces.
use Rattle.std.specs.Prelude.{◌≡◌, ℕ, suc, Bool, true, false, cond, not, ◌&&◌, List, [], ◌∷◌, length, is_some, Some, ◌==◌, nat_le}
use Rattle.grammar.specs.Deep.{within_by}
use Rattle.grammar.specs.Readings.{Piece}
use Rattle.codes.specs.Acceptable.{clear}
use Rattle.codes.specs.Code.{Command, byte, step, point, range, hold}
use Rattle.codes.specs.Decode.{group}

-- every step has its child or repeat behind it; w: steps wait
abbrev pub grouped : {R : Type 0} → Bool → List (Command R) → Bool
grouped w [] = not w
grouped w (byte b ∷ ks) = not w && grouped false ks
grouped w (step i ∷ ks) = grouped true ks
grouped w (point i l r ∷ ks) = grouped false ks
grouped w (range x ∷ ks) = grouped false ks
grouped w (hold n ∷ ks) = not w && grouped false ks

-- the number of the pieces; t: the last piece so far is a text
abbrev pub counted : {R : Type 0} → Bool → List (Command R) → ℕ
counted t [] = 0
counted t (byte b ∷ ks) = cond t (counted true ks) (suc (counted true ks))
counted t (step i ∷ ks) = counted false ks
counted t (point i l r ∷ ks) = suc (counted false ks)
counted t (range x ∷ ks) = suc (counted false ks)
counted t (hold n ∷ ks) = suc (counted false ks)

-- no run of steps is longer than n, where k of them wait
abbrev pub stepped_by : {R : Type 0} → ℕ → ℕ → List (Command R) → Bool
stepped_by n k [] = true
stepped_by n k (byte b ∷ ks) = stepped_by n 0 ks
stepped_by n k (step i ∷ ks) = nat_le (suc k) n && stepped_by n (suc k) ks
stepped_by n k (point i l r ∷ ks) = stepped_by n 0 ks
stepped_by n k (range x ∷ ks) = stepped_by n 0 ks
stepped_by n k (hold j ∷ ks) = stepped_by n 0 ks

-- f holds of every range
abbrev pub ranges_by : {R : Type 0} → (R → Bool) → List (Command R) → Bool
ranges_by f [] = true
ranges_by f (byte b ∷ ks) = ranges_by f ks
ranges_by f (step i ∷ ks) = ranges_by f ks
ranges_by f (point i l r ∷ ks) = ranges_by f ks
ranges_by f (range x ∷ ks) = f x && ranges_by f ks
ranges_by f (hold n ∷ ks) = ranges_by f ks

-- no `)` of a text stands right before a `$`; w: the last byte so far is a `)` of a text, m: a `$` follows the run
abbrev pub clear_by : Bool → Bool → List (Command ⊥) → Bool
clear_by m w [] = not (w && m)
clear_by m w (byte b ∷ ks) = not (w && b == 36) && clear_by m (b == 41) ks
clear_by m w (step i ∷ ks) = not w && clear_by m false ks
clear_by m w (point i l r ∷ ks) = not w && clear_by m false ks
clear_by m w (range x ∷ ks) = not w && clear_by m false ks
clear_by m w (hold n ∷ ks) = not w && clear_by m false ks

-- whether a run has pieces, and how many
abbrev pub GroupedForward : Type 0 → Type 0
GroupedForward R = (ks : List (Command R)) → (grouped false ks ≡ is_some (group ks)) × ((ps : List (Piece R)) → group ks ≡ Some ps → counted false ks ≡ length ps)

-- whether their paths are short enough
abbrev pub SteppedForward : Type 0 → Type 0
SteppedForward R = (n : ℕ) (ks : List (Command R)) (ps : List (Piece R)) → group ks ≡ Some ps → stepped_by n 0 ks ≡ within_by n (λ x. true) ps

-- and their repeats as f has it
abbrev pub WithinForward : Type 0 → Type 0
WithinForward R = (n : ℕ) (f : R → Bool) (ks : List (Command R)) (ps : List (Piece R)) → group ks ≡ Some ps → (stepped_by n 0 ks && ranges_by f ks) ≡ within_by n f ps

-- and whether they may stand in a separator
abbrev pub ClearForward : Type 0
ClearForward = (m : Bool) (ks : List (Command ⊥)) (ps : List (Piece ⊥)) → group ks ≡ Some ps → clear_by m false ks ≡ clear m ps
