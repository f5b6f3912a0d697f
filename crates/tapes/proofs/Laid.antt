-- How many roots and children there are, and where a term's children stand among all.
use Rattle.std.proofs.Common.{◌≡◌, ℕ, zero, suc, ◌+◌, ◌-◌, ◌<◌, ◌≤◌, List, length, get_or, sym, ap, ◌∙◌, subst, ⊎_elim, arith, length-append, length-drop, length-take}
use Rattle.std.proofs.lemmas.Bool.{cases_eq}
use Rattle.std.proofs.lemmas.List.{get_or_append_left, get_or-append-add}
use Rattle.tapes.specs.Roots.{roots, children_of}
use Rattle.tapes.specs.Laid.{kids_before, Starts}

module _ (count : ℕ → ℕ) where
  pub length_children : (t : ℕ) → count t ≤ length (roots count t) → length (children_of count t) ≡ count t
  length_children t h = simp length-drop (omega arith)

  pub length_roots : (t : ℕ) → count t ≤ length (roots count t) → length (roots count (suc t)) ≡ length (roots count t) - count t + 1
  length_roots t h = simp (length-append, length-take) (omega arith)

  pub kids_within : (n : ℕ) → ((t : ℕ) → t < n → count t ≤ length (roots count t)) → (t : ℕ) → t < n → length (kids_before count t) + count t ≤ length (kids_before count n)
  kids_within zero enough t h = absurd (omega arith)
  kids_within (suc n) enough t h =
      let g = length-append (kids_before count n) (children_of count n) in
      ⊎_elim
      (λ e. let c = length_children n (enough n (omega arith)) in subst (λ u. length (kids_before count u) + count u ≤ length (kids_before count (suc n))) (sym e) (omega arith))
      (λ ne. let k = kids_within n (λ u l. enough u (omega arith)) t (omega arith) in omega arith)
      (cases_eq t n)

  pub kids_at : (n : ℕ) → ((t : ℕ) → t < n → count t ≤ length (roots count t)) → (t i : ℕ) → t < n → i < count t → get_or (kids_before count n) (length (kids_before count t) + i) 0 ≡ get_or (children_of count t) i 0
  kids_at zero enough t i h l = absurd (omega arith)
  kids_at (suc n) enough t i h l =
      ⊎_elim
      (λ e. subst (λ u. get_or (kids_before count (suc n)) (length (kids_before count u) + i) 0 ≡ get_or (children_of count u) i 0) (sym e) (get_or-append-add (kids_before count n) (children_of count n) i 0))
      (λ ne.
      let k = kids_within n (λ u l. enough u (omega arith)) t (omega arith) in
      get_or_append_left (kids_before count n) (children_of count n) 0 (length (kids_before count t) + i) (omega arith) ∙ kids_at n (λ u l. enough u (omega arith)) t i (omega arith) l)
      (cases_eq t n)

  -- each term before n is a root or the child of one term
  pub kids_roots : (n : ℕ) → ((t : ℕ) → t < n → count t ≤ length (roots count t)) → length (kids_before count n) + length (roots count n) ≡ n
  kids_roots zero enough = omega arith
  kids_roots (suc n) enough =
      let r = length_roots n (enough n (omega arith)) in
      let c = length_children n (enough n (omega arith)) in
      let g = length-append (kids_before count n) (children_of count n) in
      let e = enough n (omega arith) in
      let k = kids_roots n (λ u l. enough u (omega arith)) in
      omega arith

-- the children of each term stand where its start says
module _ (count : ℕ → ℕ) (n : ℕ) (enough : (t : ℕ) → t < n → count t ≤ length (roots count t)) (starts kids : List ℕ) (s : Starts count n starts) (k : kids ≡ kids_before count n) where
  pub laid_within : (t : ℕ) → t < n → get_or starts t 0 + count t ≤ length kids
  laid_within t h = omega (arith, s t h, ap length k, kids_within count n enough t h)

  pub laid_at : (t i : ℕ) → t < n → i < count t → get_or kids (get_or starts t 0 + i) 0 ≡ get_or (children_of count t) i 0
  laid_at t i h l = ap (λ v. get_or v (get_or starts t 0 + i) 0) k ∙ ap (λ m. get_or (kids_before count n) (m + i) 0) (s t h) ∙ kids_at count n enough t i h l

  pub laid_length : length kids ≤ n
  laid_length = omega (arith, ap length k, kids_roots count n enough)
