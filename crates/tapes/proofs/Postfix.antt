-- The roots before a term are those of the subtrees side by side before it.
use Rattle.std.proofs.Common.{◌≡◌, ℕ, zero, suc, ◌-◌, ◌<◌, ◌≤◌, List, [], ◌∷◌, ◌++◌, length, take, drop, sym, ap, ◌∙◌, subst, ⊎_elim, arith, length-append}
use Rattle.std.proofs.lemmas.Bool.{cases_lt}
use Rattle.std.proofs.lemmas.List.{append_assoc, append-nil, take_at, drop_at, take_all, drop_all, take-append-le, drop-append-le}
use Rattle.tapes.specs.Roots.{roots, children_of}
use Rattle.tapes.specs.Postfix.{Subtrees, none, more, Family, Postfix}
use Rattle.tapes.proofs.Laid.{length_children}

-- the last count of p ++ ks are ks
last_cut : (k : ℕ) (l p ks : List ℕ) → l ≡ p ++ ks → length ks ≡ k → (take (length l - k) l ≡ p) × (drop (length l - k) l ≡ ks)
last_cut k l p ks e n =
    let g = ap length e ∙ length-append p ks in
    let m : length p ≡ length l - k = omega arith in
    (ap (take (length l - k)) e ∙ take_at p ks (length l - k) m, ap (drop (length l - k)) e ∙ drop_at p ks (length l - k) m)

module _ (count : ℕ → ℕ) where
  side_by_side : {a b : ℕ} {rs : List ℕ} → Subtrees count a b rs → roots count b ≡ roots count a ++ rs
  side_by_side none = sym (append-nil _)
  side_by_side (more {a} {m} {t} {rs} {ks} f g n) =
      ap (λ l. l ++ t ∷ []) ((last_cut (count t) (roots count t) (roots count m) ks (side_by_side g) n).0 ∙ side_by_side f) ∙ append_assoc (roots count a) rs (t ∷ [])

  family_cut : (t : ℕ) (ks : List ℕ) (f : Family count t ks) → roots count t ≡ roots count f.from ++ ks
  family_cut t ks f = side_by_side f.subtrees

  pub family_only : (t : ℕ) (ks : List ℕ) → Family count t ks → ks ≡ children_of count t
  family_only t ks f = sym (last_cut (count t) (roots count t) (roots count f.from) ks (family_cut t ks f) f.number).1

  pub family_enough : (t : ℕ) (ks : List ℕ) → Family count t ks → count t ≤ length (roots count t)
  family_enough t ks f = omega (arith, ap length (family_cut t ks f), length-append (roots count f.from) ks, f.number)

  -- the first j subtrees, and the others
  abbrev Parted : ℕ → ℕ → ℕ → List ℕ → Type 0
  Parted a b j rs = (m : ℕ) × Subtrees count a m (take j rs) × Subtrees count m b (drop j rs)

  parted : {a b : ℕ} {rs : List ℕ} (j : ℕ) → j ≤ length rs → Subtrees count a b rs → Parted a b j rs
  parted {a} j h none = (a, subst (Subtrees count a a) (sym (take_all j [] (omega arith))) none, subst (Subtrees count a a) (sym (drop_all j [] (omega arith))) none)
  parted j h (more {a} {m} {t} {rs} {ks} f g n) =
      let e = length-append rs (t ∷ []) in
      ⊎_elim
      (λ l. (suc t, subst (Subtrees count a (suc t)) (sym (take_all j (rs ++ t ∷ []) (omega arith))) (more f g n), subst (Subtrees count (suc t) (suc t)) (sym (drop_all j (rs ++ t ∷ []) (omega arith))) none))
      (λ l.
      let p = parted j l f in
      (p.0, subst (Subtrees count a p.0) (sym (take-append-le j rs (t ∷ []) l)) p.1, subst (Subtrees count p.0 (suc t)) (sym (drop-append-le j rs (t ∷ []) l)) (more p.2 g n)))
      (cases_lt (length rs) j)

  pub roots_side : (t : ℕ) → ((u : ℕ) → u < t → count u ≤ length (roots count u)) → Subtrees count 0 t (roots count t)
  roots_side zero h = none
  roots_side (suc t) h =
      let p = parted (length (roots count t) - count t) (omega arith) (roots_side t (λ u l. h u (omega arith))) in
      more p.1 p.2 (length_children count t (h t (omega arith)))

  pub family_children : (t : ℕ) → ((u : ℕ) → u ≤ t → count u ≤ length (roots count u)) → Family count t (children_of count t)
  family_children t h =
      let p = parted (length (roots count t) - count t) (omega arith) (roots_side t (λ u l. h u (omega arith))) in
      record { from = p.0; subtrees = p.2; number = length_children count t (h t (omega arith)) }

pub postfix_holds : Postfix
postfix_holds = record { children = family_children; only = family_only; enough = family_enough }
