-- The children that an index, a path or a range names. An index is a number of 32 bits in two's complement: a negative one counts back from
-- the last child.
use Rattle.std.specs.Prelude.{ℕ, suc, ◌+◌, ◌-◌, Bool, cond, ◌&&◌, List, [], ◌∷◌, length, Some, None, Option, nat_le, nat_lt}
use Rattle.codes.specs.Decode.{on_some}
use Rattle.terms.specs.Source.{Source, item}

abbrev pub negative : ℕ → Bool
negative i = nat_le 2147483648 i

-- how far a negative index counts back: 1 for the last child
abbrev pub back : ℕ → ℕ
back i = 4294967296 - i

-- the place that an index names among n children
abbrev pub place_of : ℕ → ℕ → Option ℕ
place_of n i = cond (negative i) (cond (nat_le (back i) n) (Some (n - back i)) None) (cond (nat_lt i n) (Some i) None)

-- the child of a term that an index names
abbrev pub child_of : Source → ℕ → ℕ → Option ℕ
child_of m t i = on_some (place_of (length (m.children t)) i) (item (m.children t))

-- the term to which the steps of a path lead
abbrev pub descend : Source → ℕ → List ℕ → Option ℕ
descend m t [] = Some t
descend m t (i ∷ is) = on_some (child_of m t i) (λ u. descend m u is)

-- the place c among n is not before, or not behind, the one that the index names, which may lie outside
abbrev pub not_before : ℕ → ℕ → ℕ → Bool
not_before n i c = cond (negative i) (nat_le n (c + back i)) (nat_le i c)

abbrev pub not_behind : ℕ → ℕ → ℕ → Bool
not_behind n i c = cond (negative i) (nat_le (c + back i) n) (nat_le c i)

-- of the children from the place c on, among n, those between the two that the indices name, these included
abbrev pub between : ℕ → ℕ → ℕ → ℕ → List ℕ → List ℕ
between n from to c [] = []
between n from to c (x ∷ xs) = cond (not_before n from c && not_behind n to c) (x ∷ between n from to (suc c) xs) (between n from to (suc c) xs)

abbrev pub selected : Source → ℕ → ℕ → ℕ → List ℕ
selected m t from to = between (length (m.children t)) from to 0 (m.children t)
