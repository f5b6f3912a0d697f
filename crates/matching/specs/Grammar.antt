-- The grammar of patterns, as a relation.
use Rattle.std.specs.Prelude.{◌≡◌, ℕ, suc, ◌+◌, true, List, [], ◌∷◌, ◌++◌, Some}
use Rattle.matching.specs.declared.items.Item.{Item}
use Rattle.matching.specs.declared.items.Item.TheVariants.{Take, Open, Close}
use Rattle.matching.specs.declared.items.Set.{Set}
use Rattle.matching.specs.declared.items.Set.TheVariants.{Dot, Byte}
use Rattle.matching.specs.declared.items.Times.{Times}
use Rattle.matching.specs.declared.items.Times.TheVariants.{Once, Maybe, Several, Many}
use Rattle.matching.specs.Reader.{special, plain, items_of}

pub data Atom : List ℕ → Set → Type 0 where
  dot : Atom (46 ∷ []) Dot
  byte : {c : ℕ} → plain c ≡ true → Atom (c ∷ []) (Byte c)
  escape : {c : ℕ} → special c ≡ true → Atom (92 ∷ c ∷ []) (Byte c)

pub data Often : List ℕ → Times → Type 0 where
  once : Often [] Once
  many : Often (42 ∷ []) Many
  several : Often (43 ∷ []) Several
  maybe : Often (63 ∷ []) Maybe

-- Pattern d n m text items: groups are at most d deep, and numbered from n up to m
pub data Pattern : ℕ → ℕ → ℕ → List ℕ → List Item → Type 0 where
  none : {d n : ℕ} → Pattern d n n [] []
  item : {d n m : ℕ} {a o rest : List ℕ} {s : Set} {q : Times} {is : List Item} → Atom a s → Often o q → Pattern d n m rest is → Pattern d n m (a ++ (o ++ rest)) (Take s q ∷ is)
  group : {d n m l : ℕ} {inside rest : List ℕ} {is js : List Item} → Pattern d (n + 1) m inside is → Pattern (suc d) m l rest js → Pattern (suc d) n l (40 ∷ (inside ++ 41 ∷ rest)) (Open n ∷ (is ++ Close n ∷ js))

abbrev pub ReadsPatterns : Type 0
ReadsPatterns = (text : List ℕ) (items : List Item) (m : ℕ) → (items_of text ≡ Some (items, m) → Pattern 16 1 m text items) × (Pattern 16 1 m text items → items_of text ≡ Some (items, m))
