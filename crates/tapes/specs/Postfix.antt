-- Trees in postfix order, and that a term's children are the roots of the subtrees just before it.
use Rattle.std.specs.Prelude.{◌≡◌, ℕ, suc, ◌≤◌, List, [], ◌∷◌, ◌++◌, length}
use Rattle.tapes.specs.Roots.{roots, children_of}

-- the terms from a up to b are subtrees side by side, with these roots:
-- a subtree is the subtrees of its children, with its root after them
pub data Subtrees (count : ℕ → ℕ) : ℕ → ℕ → List ℕ → Type 0 where
  none : {a : ℕ} → Subtrees count a a []
  more : {a m t : ℕ} {rs ks : List ℕ} → Subtrees count a m rs → Subtrees count m t ks → length ks ≡ count t → Subtrees count a (suc t) (rs ++ t ∷ [])

-- the roots of the subtrees that end just before t, as many as t has children
pub record Family (count : ℕ → ℕ) (t : ℕ) (ks : List ℕ) : Type 0 where
  pub from : ℕ
  pub subtrees : Subtrees count from t ks
  pub number : length ks ≡ count t

-- where no term has more children than subtrees stand before it, the children of t are a family, and the only one;
-- a term with a family has no more children than subtrees stand before it
pub record Postfix : Type 0 where
  pub children : (count : ℕ → ℕ) (t : ℕ) → ((u : ℕ) → u ≤ t → count u ≤ length (roots count u)) → Family count t (children_of count t)
  pub only : (count : ℕ → ℕ) (t : ℕ) (ks : List ℕ) → Family count t ks → ks ≡ children_of count t
  pub enough : (count : ℕ → ℕ) (t : ℕ) (ks : List ℕ) → Family count t ks → count t ≤ length (roots count t)
