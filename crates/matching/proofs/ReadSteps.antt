-- A step of the reader.
use Rattle.std.proofs.Common.{◌≡◌, ℕ, zero, suc, ◌+◌, ◌<◌, Bool, true, false, cond, eqb, ltb, List, [], ◌∷◌, ◌++◌, length, drop, Some, None, Option, sym, refl, ap, ◌∙◌, append_assoc, arith}
use Rattle.std.proofs.lemmas.Bool.Decides.{nat_tests}
use Rattle.matching.specs.declared.items.Item.{Item}
use Rattle.matching.specs.declared.items.Item.TheVariants.{Take, Open, Close}
use Rattle.matching.specs.declared.items.Set.{Set}
use Rattle.matching.specs.Reader.{atom_at, times_at, Got, emit, on_set, read_from, after}

-- ---- one step
pub skips : (k : ℕ) (ks : List ℕ) (n : ℕ) (cs : List ℕ) → read_from k ks n cs ≡ read_from 0 ks n (drop k cs)
skips zero ks n cs = refl
skips (suc k) ks n [] = refl
skips (suc k) ks n (c ∷ cs) = skips k ks n cs

two : {X : Type 0} (p q r : X) (x y : Bool) → x ≡ false → y ≡ false → cond x p (cond y q r) ≡ r
two p q r x y a b = rw (a, b)

module _ (ks : List ℕ) (n c : ℕ) (cs : List ℕ) where
  pub open_more : c ≡ 40 → length ks < 16 → read_from 0 ks n (c ∷ cs) ≡ emit (Open n) (read_from 0 (n ∷ ks) (n + 1) cs)
  open_more e h = let l : ltb (length ks) 16 ≡ true = grind (arith, nat_tests) in rw (e, l)

  pub set_more : (c ≡ 40 → ⊥) → (c ≡ 41 → ⊥) → (s : Set) (m : ℕ) → Some (s, m) ≡ atom_at (c ∷ cs) → read_from 0 ks n (c ∷ cs) ≡ emit (Take s (times_at (drop m cs)).0) (read_from 0 ks n (drop (m + (times_at (drop m cs)).1) cs))
  set_more h k s m e =
      let a : eqb c 40 ≡ false = grind (arith, nat_tests) in
      let b : eqb c 41 ≡ false = grind (arith, nat_tests) in
      two _ _ _ (eqb c 40) (eqb c 41) a b ∙ ap (λ (r : Option (Set × ℕ)). on_set r (λ s more. emit (Take s (times_at (drop more cs)).0) (read_from (more + (times_at (drop more cs)).1) ks n cs))) (sym e)
      ∙ ap (emit (Take s (times_at (drop m cs)).0)) (skips (m + (times_at (drop m cs)).1) ks n cs)

pub close_more : (k : ℕ) (ks : List ℕ) (n c : ℕ) (cs : List ℕ) → c ≡ 41 → read_from 0 (k ∷ ks) n (c ∷ cs) ≡ emit (Close k) (read_from 0 ks n cs)
close_more k ks n c cs e = rw e

pub close_none : (n c : ℕ) (cs : List ℕ) → c ≡ 41 → read_from 0 [] n (c ∷ cs) ≡ None
close_none n c cs e = rw e

pub after-emit : (is : List Item) (i : Item) (g : Got) → after is (emit i g) ≡ after (is ++ i ∷ []) g
after-emit is i None = refl
after-emit is i (Some p) = ap (λ (l : List Item). Some (l, p.1)) (sym (append_assoc is (i ∷ []) p.0))
