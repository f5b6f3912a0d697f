-- The text and the control that stand at a place.
use Rattle.std.proofs.Common.{◌≡◌, ℕ, suc, ◌+◌, ◌-◌, ◌<◌, ◌≤◌, List, length, take, drop, Some, None, Ok, Err, sym, refl, ⊎_elim, arith}
use Rattle.std.proofs.str.Laws.{order}
use Rattle.std.proofs.lemmas.List.{take_rest, length-drop, drop_all, drop_more}
use Rattle.grammar.specs.Controls.{control_at}
use Rattle.grammar.specs.Marks.{unpaired}
use Rattle.grammar.specs.Results.{Fault}
use Rattle.grammar.specs.Shapes.{Shape}
use Rattle.grammar.specs.Templates.{leading}
use Rattle.grammar.proofs.Chains.{refused}
use Rattle.templates.specs.Views.{output_at}

pub rest_length : (cs : List ℕ) (at : ℕ) → length (take (length cs - at) (drop at cs)) ≡ length cs - at
rest_length cs at = rw (take_rest cs at) (length-drop at cs)

-- ---- the control that leads
pub leads_err : (cs : List ℕ) (at : ℕ) (e : Fault) → at < length cs → Err e ≡ control_at (at + 1) (drop (at + 1) cs) → Err e ≡ leading at (drop at cs)
leads_err cs at e h c = rw (drop_more cs at 0 h, ← c) refl

pub leads_ok : (cs : List ℕ) (at : ℕ) (s : Shape) (u : ℕ) → at < length cs → Ok (s, u) ≡ control_at (at + 1) (drop (at + 1) cs) → Ok (Some (s, u + 1)) ≡ leading at (drop at cs)
leads_ok cs at s u h c = let p : u + 1 ≡ suc u = omega arith in rw (drop_more cs at 0 h, ← c, p) refl

-- ---- the control that stands first, where no text does
pub first_err : (cs : List ℕ) (at : ℕ) (e : Fault) → unpaired 36 (drop at cs) ≡ 0 → Err e ≡ control_at (at + 1) (drop (at + 1) cs) → None ≡ output_at at (drop at cs)
first_err cs at e z c = ⊎_elim within behind (order at (length cs))
  where
    within : at < length cs → None ≡ output_at at (drop at cs)
    within h = rw z (rw (drop_more cs at 0 h, ← c) refl)

    behind : length cs ≤ at → None ≡ output_at at (drop at cs)
    behind h = rw (drop_all at cs h) refl

pub first_ok : (cs : List ℕ) (at : ℕ) (s : Shape) (u : ℕ) → unpaired 36 (drop at cs) ≡ 0 → Ok (s, u) ≡ control_at (at + 1) (drop (at + 1) cs) → Some (s, u + 1) ≡ output_at at (drop at cs)
first_ok cs at s u z c = ⊎_elim within behind (order at (length cs))
  where
    within : at < length cs → Some (s, u + 1) ≡ output_at at (drop at cs)
    within h = let p : u + 1 ≡ suc u = omega arith in rw z (rw (drop_more cs at 0 h, ← c, p) refl)

    behind : length cs ≤ at → Some (s, u + 1) ≡ output_at at (drop at cs)
    behind h = refused _ (s, u) (sym (rw (drop_all (at + 1) cs (omega arith)) at c))
