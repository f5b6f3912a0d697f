-- Whether the pieces of a run may stand in a separator, by one pass forward.
use Rattle.std.proofs.Common.{◌≡◌, ℕ, Bool, true, false, not, ◌&&◌, ◌||◌, eqb, List, [], ◌∷◌, Some, sym, refl, ap, ◌∙◌}
use Rattle.grammar.proofs.Chains.{nothing as none, same_some}
use Rattle.grammar.specs.Marks.{ends, closes}
use Rattle.grammar.specs.Readings.{Piece, text, child, capture, repeat}
use Rattle.codes.specs.Acceptable.{clear}
use Rattle.codes.specs.Code.{Command, byte, step, point, range, hold}
use Rattle.codes.specs.Decode.{glue, stepped, group}
use Rattle.codes.specs.Forward.{clear_by, ClearForward}
use Rattle.codes.proofs.Forward.{and_yes}
use Rattle.codes.proofs.Words.{by_on_some}

-- a `$` stands first in every template for these pieces, with what follows them
abbrev follows : Bool → List (Piece ⊥) → Bool
follows m [] = m
follows m (text b bs ∷ ps) = eqb b 36
follows m (child s i l r ∷ ps) = true
follows m (capture n ∷ ps) = true
follows m (repeat s x ∷ ps) = true

-- a single byte closes nothing
before : (a w : Bool) → (not ((a && false) || false) && (not a && w)) ≡ (not (a && true) && w)
before true w = refl
before false w = refl

last : (a m : Bool) → (not ((a && false) || false) && not (a && m)) ≡ (not (a && m) && true)
last true true = refl
last true false = refl
last false m = refl

neither : (x y z : Bool) → (not (x || y) && z) ≡ (not x && (not y && z))
neither true y z = refl
neither false y z = refl

glue-clear : (m : Bool) (b : ℕ) (ps : List (Piece ⊥)) → clear m (glue b ps) ≡ (not (eqb b 41 && follows m ps) && clear m ps)
glue-clear m b [] = last (eqb b 41) m
glue-clear m b (text c cs ∷ []) = neither (eqb b 41 && eqb c 36) (closes (c ∷ cs)) (not (ends 41 (c ∷ cs) && m))
glue-clear m b (text c cs ∷ p ∷ ps) = neither (eqb b 41 && eqb c 36) (closes (c ∷ cs)) (not (ends 41 (c ∷ cs)) && clear m (p ∷ ps))
glue-clear m b (child s i l r ∷ ps) = before (eqb b 41) (clear m ps)
glue-clear m b (capture n ∷ ps) = before (eqb b 41) (clear m ps)
glue-clear m b (repeat s x ∷ ps) = before (eqb b 41) (clear m ps)

-- `clear` where a `)` stands before the pieces, if w
abbrev clear_from : Bool → Bool → List (Piece ⊥) → Bool
clear_from m w ps = not (w && follows m ps) && clear m ps

glue_follows : (m : Bool) (b : ℕ) (ps : List (Piece ⊥)) → follows m (glue b ps) ≡ eqb b 36
glue_follows m b [] = refl
glue_follows m b (text c cs ∷ ps) = refl
glue_follows m b (child s i l r ∷ ps) = refl
glue_follows m b (capture n ∷ ps) = refl
glue_follows m b (repeat s x ∷ ps) = refl

-- a `$` stands behind the `)`
marked : (w c : Bool) → (not w && c) ≡ (not (w && true) && c)
marked true c = refl
marked false c = refl

stepped-clear : (m w : Bool) (y : ℕ) (ps qs : List (Piece ⊥)) → stepped y ps ≡ Some qs → (not w && clear m ps) ≡ clear_from m w qs
stepped-clear m w y [] qs e = none _ e
stepped-clear m w y (text b bs ∷ ps) qs e = none _ e
stepped-clear m w y (child s i l r ∷ ps) qs e = marked w (clear m ps) ∙ ap (clear_from m w) (same_some _ _ e)
stepped-clear m w y (capture n ∷ ps) qs e = none _ e
stepped-clear m w y (repeat s x ∷ ps) qs e = absurd x

from : (m w : Bool) (ks : List (Command ⊥)) (ps : List (Piece ⊥)) → group ks ≡ Some ps → clear_by m w ks ≡ clear_from m w ps
from m w [] ps e = and_yes (not (w && m)) ∙ ap (clear_from m w) (same_some _ _ e)
from m w (byte b ∷ ks) ps e =
    let q = by_on_some (group ks) _ ps e in
    ap (λ c. not (w && eqb b 36) && c) (from m (eqb b 41) ks q.0 q.1 ∙ sym (glue-clear m b q.0))
    ∙ ap (λ f. not (w && f) && clear m (glue b q.0)) (sym (glue_follows m b q.0)) ∙ ap (clear_from m w) (same_some _ _ q.2)
from m w (step i ∷ ks) ps e =
    let q = by_on_some (group ks) _ ps e in
    ap (λ c. not w && c) (from m false ks q.0 q.1) ∙ stepped-clear m w i q.0 ps q.2
from m w (point i l r ∷ ks) ps e =
    let q = by_on_some (group ks) _ ps e in
    ap (λ c. not w && c) (from m false ks q.0 q.1) ∙ marked w (clear m q.0) ∙ ap (clear_from m w) (same_some _ _ q.2)
from m w (range x ∷ ks) ps e = absurd x
from m w (hold n ∷ ks) ps e =
    let q = by_on_some (group ks) _ ps e in
    ap (λ c. not w && c) (from m false ks q.0 q.1) ∙ marked w (clear m q.0) ∙ ap (clear_from m w) (same_some _ _ q.2)

pub clear_forward : ClearForward
clear_forward m ks ps e = from m false ks ps e
