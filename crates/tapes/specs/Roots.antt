-- Trees in postfix order, by how many children each term has.
use Rattle.std.specs.Prelude.{◌≡◌, ℕ, zero, suc, ◌+◌, ◌-◌, ◌<◌, List, [], ◌∷◌, ◌++◌, length, take, drop, slice_index, slice_index_or}
use Rattle.std.proofs.Common.{sym, subst, ◌∙◌, ⊎_elim, arith, length-take, length-drop, length-append}
use Rattle.std.proofs.lemmas.Bool.{cases_lt}
use Rattle.std.proofs.lemmas.List.{get_or_append_left, get_or_push, get_or-take, get_or-drop}

-- a front of numbers below t, with t after it
pushed_below : (t m : ℕ) (l : List ℕ) → ((i : ℕ) → i < length l → slice_index l i < t) → (i : ℕ) → i < length (take m l ++ t ∷ []) → slice_index (take m l ++ t ∷ []) i < suc t
pushed_below t m l below i h =
    let n = length-take m l in
    let g = length-append (take m l) (t ∷ []) in
    ⊎_elim
    (λ lt. let e : slice_index_or (take m l ++ t ∷ []) i 0 ≡ slice_index_or l i 0 = get_or_append_left (take m l) (t ∷ []) 0 i lt ∙ get_or-take m l i 0 (omega arith) in
    let k = below i (omega arith) in omega arith)
    (λ le. let e : slice_index_or (take m l ++ t ∷ []) i 0 ≡ t = get_or_push (take m l) t 0 i (omega arith) in omega arith)
    (cases_lt i (length (take m l)))

module _ (count : ℕ → ℕ) where
  -- the roots of the subtrees that stand side by side before the term t, first to last;
  -- a term takes as many of the last as it has children, and stands in their place
  abbrev pub roots : ℕ → List ℕ
  roots zero = []
  roots (suc t) = take (length (roots t) - count t) (roots t) ++ t ∷ []

  -- the children of a term: the roots of the subtrees that end just before it, as many as it counts, first to last
  abbrev pub children_of : ℕ → List ℕ
  children_of t = drop (length (roots t) - count t) (roots t)

  pub roots_below : (t i : ℕ) → i < length (roots t) → slice_index (roots t) i < t
  roots_below zero i h = absurd (omega arith)
  roots_below (suc t) i h = pushed_below t (length (roots t) - count t) (roots t) (roots_below t) i h

  pub children_below : (t i : ℕ) → i < length (children_of t) → slice_index (children_of t) i < t
  children_below t i h =
      let m = length (roots t) - count t in
      let e = get_or-drop m (roots t) i 0 in
      let n = length-drop m (roots t) in
      subst (λ x. x < t) (sym e) (roots_below t (m + i) (omega arith))
