-- The children that an index, a path or a range names are children: they have smaller numbers.
use Rattle.std.proofs.Common.{◌≡◌, ℕ, suc, ◌<◌, ◌≤◌, Bool, true, false, cond, ◌&&◌, ltb, List, [], ◌∷◌, length, get_or, Some, None, Option, refl, arith}
use Rattle.std.specs.List.{AllByRecursion as All}
use Rattle.std.proofs.ByRecursion.{All-from_get_or, All-weaker}
use Rattle.std.proofs.lemmas.Bool.{ltb-true}
use Rattle.codes.specs.Decode.{on_some}
use Rattle.grammar.proofs.Chains.{nothing, same_some}
use Rattle.terms.specs.Source.{Source, item}
use Rattle.lines.specs.Children.{place_of, child_of, descend, not_before, not_behind, between, selected}

-- what stands at a place is in the list
pub item_there : (cs : List ℕ) (i c : ℕ) → item cs i ≡ Some c → (i < length cs) × (get_or cs i 0 ≡ c)
item_there cs i c e = go (ltb i (length cs)) refl e
  where
    go : (b : Bool) → ltb i (length cs) ≡ b → cond b (Some (get_or cs i 0)) None ≡ Some c → (i < length cs) × (get_or cs i 0 ≡ c)
    go true l q = (ltb-true _ _ l, same_some _ _ q)
    go false l q = nothing _ q

module _ (m : Source) where
  pub child_below : (u i c : ℕ) → child_of m u i ≡ Some c → c < u
  child_below u i c e = go (place_of (length (m.children u)) i) e
    where
      go : (o : Option ℕ) → on_some o (item (m.children u)) ≡ Some c → c < u
      go None q = nothing _ q
      go (Some p) q =
          let s = item_there (m.children u) p c q in
          let b = m.below u p s.0 in
          let e = s.1 in
          omega arith

  pub descend-below : (t u : ℕ) (s : List ℕ) → descend m t s ≡ Some u → u ≤ t
  descend-below t u [] e = let q = same_some t u e in omega arith
  descend-below t u (i ∷ s) e = go (child_of m t i) (λ v q. child_below t i v q) e (λ v. descend-below v u s)
    where
      go : (o : Option ℕ) → ((v : ℕ) → o ≡ Some v → v < t) → on_some o (λ v. descend m v s) ≡ Some u → ((v : ℕ) → descend m v s ≡ Some u → u ≤ v) → u ≤ t
      go None l q r = nothing _ q
      go (Some v) l q r = let a = l v refl in let b = r v q in omega arith

  -- the child at the end of a path
  pub offspring_below : (t c : ℕ) (s : List ℕ) (i : ℕ) → on_some (descend m t s) (λ u. child_of m u i) ≡ Some c → c < t
  offspring_below t c s i e = go (descend m t s) (λ u q. descend-below t u s q) e
    where
      go : (o : Option ℕ) → ((u : ℕ) → o ≡ Some u → u ≤ t) → on_some o (λ u. child_of m u i) ≡ Some c → c < t
      go None l q = nothing _ q
      go (Some u) l q = let a = l u refl in let b = child_below u i c q in omega arith

  between_all : (Q : ℕ → Type 0) (n f g c : ℕ) (cs : List ℕ) → All Q cs → All Q (between n f g c cs)
  between_all Q n f g c [] a = tt
  between_all Q n f g c (x ∷ cs) a = go (not_before n f c && not_behind n g c) (between_all Q n f g (suc c) cs a.1)
    where
      go : (b : Bool) → All Q (between n f g (suc c) cs) → All Q (cond b (x ∷ between n f g (suc c) cs) (between n f g (suc c) cs))
      go true r = (a.0, r)
      go false r = r

  pub selected-below : (u f g : ℕ) → All (λ c. c < u) (selected m u f g)
  selected-below u f g = between_all (λ c. c < u) (length (m.children u)) f g 0 (m.children u) (All-from_get_or (λ c. c < u) (m.children u) 0 (m.below u))

  pub selected_under : (t u f g : ℕ) → u ≤ t → All (λ c. c < t) (selected m u f g)
  selected_under t u f g l = All-weaker (λ c. c < u) (λ c. c < t) (λ c k. omega arith) (selected m u f g) (selected-below u f g)
