-- The items that a pattern's text writes.
use Rattle.std.specs.Prelude.{ℕ, zero, suc, ◌+◌, Bool, cond, not, ◌&&◌, ◌||◌, List, [], ◌∷◌, ◌++◌, length, drop, Some, None, Option, ◌==◌, nat_le, nat_lt}
use Rattle.matching.specs.declared.items.Item.{Item}
use Rattle.matching.specs.declared.items.Item.TheVariants.{Take, Open, Close}
use Rattle.matching.specs.declared.items.Set.{Set}
use Rattle.matching.specs.declared.items.Set.TheVariants.{Dot, Byte}
use Rattle.matching.specs.declared.items.Times.{Times}
use Rattle.matching.specs.declared.items.Times.TheVariants.{Once, Maybe, Several, Many}

-- \ . + * ? ( ) | [ ] { } ^ $
abbrev pub special : ℕ → Bool
special c =
    (c == 92) || c == 46 || c == 43 || c == 42 || c == 63 || c == 40 || c == 41 || c == 124 || c == 91 || c == 93 || c == 123 || c == 125 || c == 94 || c == 36

abbrev pub plain : ℕ → Bool
plain c = nat_le 32 c && nat_le c 126 && not (special c)

-- a set, and how many bytes it takes beyond the first
abbrev pub escaped : List ℕ → Option (Set × ℕ)
escaped [] = None
escaped (c ∷ cs) = cond (special c) (Some (Byte c, 1)) None

abbrev pub atom_at : List ℕ → Option (Set × ℕ)
atom_at [] = None
atom_at (c ∷ cs) = cond (c == 46) (Some (Dot, 0)) (cond (c == 92) (escaped cs) (cond (plain c) (Some (Byte c, 0)) None))

-- how often, and how many bytes say so
abbrev pub times_at : List ℕ → Times × ℕ
times_at [] = (Once, 0)
times_at (c ∷ cs) = cond (c == 42) (Many, 1) (cond (c == 43) (Several, 1) (cond (c == 63) (Maybe, 1) (Once, 0)))

abbrev pub Got : Type 0
Got = Option (List Item × ℕ)

abbrev pub emit : Item → Got → Got
emit i None = None
emit i (Some p) = Some (i ∷ p.0, p.1)

abbrev pub in_group : List ℕ → (ℕ → List ℕ → Got) → Got
in_group [] f = None
in_group (k ∷ ks) f = f k ks

abbrev pub outside : List ℕ → ℕ → Got
outside [] n = Some ([], n)
outside (k ∷ ks) n = None

abbrev pub on_set : Option (Set × ℕ) → (Set → ℕ → Got) → Got
on_set None f = None
on_set (Some p) f = f p.0 p.1

-- what is left to read, but for `skip` bytes that are read; the groups in ks are open, the innermost first, and n is the next group's number
abbrev pub read_from : ℕ → List ℕ → ℕ → List ℕ → Got
read_from skip ks n [] = outside ks n
read_from (suc skip) ks n (c ∷ cs) = read_from skip ks n cs
read_from zero ks n (c ∷ cs) =
    cond (c == 40) (cond (nat_lt (length ks) 16) (emit (Open n) (read_from 0 (n ∷ ks) (n + 1) cs)) None)
    (cond (c == 41) (in_group ks (λ k rest. emit (Close k) (read_from 0 rest n cs)))
    (on_set (atom_at (c ∷ cs)) (λ s more. emit (Take s (times_at (drop more cs)).0) (read_from (more + (times_at (drop more cs)).1) ks n cs))))

abbrev pub items_of : List ℕ → Got
items_of text = read_from 0 [] 1 text

-- items in front of those that are still to be read
abbrev pub after : List Item → Got → Got
after is None = None
after is (Some p) = Some (is ++ p.0, p.1)
