-- Where marks stand in a text.
use Rattle.std.specs.Prelude.{ℕ, suc, ◌+◌, Bool, true, false, cond, ◌&&◌, ◌||◌, List, [], ◌∷◌, length, Some, None, Option, ◌==◌, nat_lt}

abbrev pub begins : ℕ → List ℕ → Bool
begins m [] = false
begins m (c ∷ cs) = c == m

abbrev pub ends : ℕ → List ℕ → Bool
ends m [] = false
ends m (c ∷ []) = c == m
ends m (c ∷ d ∷ cs) = ends m (d ∷ cs)

-- how many bytes stand in front of the first m; all of them where there is none
abbrev pub up_to : ℕ → List ℕ → ℕ
up_to m [] = 0
up_to m (c ∷ cs) = cond (c == m) 0 (suc (up_to m cs))

-- the place of the first m
abbrev pub first_byte : ℕ → List ℕ → Option ℕ
first_byte m cs = cond (nat_lt (up_to m cs) (length cs)) (Some (up_to m cs)) None

-- the place of the first a with b right behind it, counted from `at`
abbrev pub first_mark : ℕ → ℕ → ℕ → List ℕ → Option ℕ
first_mark a b at [] = None
first_mark a b at (c ∷ cs) = cond (c == a && begins b cs) (Some at) (first_mark a b (at + 1) cs)

abbrev pub furthest : Bool → Option ℕ → Option ℕ
furthest b (Some n) = Some (suc n)
furthest true None = Some 0
furthest false None = None

-- the place of the last m
abbrev pub last_byte : ℕ → List ℕ → Option ℕ
last_byte m [] = None
last_byte m (c ∷ cs) = furthest (c == m) (last_byte m cs)

-- how many bytes stand in front of the first m that has no partner: pairs of m are passed over from the left
abbrev pub unpaired : ℕ → List ℕ → ℕ
unpaired m [] = 0
unpaired m (c ∷ []) = cond (c == m) 0 1
unpaired m (c ∷ d ∷ cs) = cond (c == m) (cond (d == m) (suc (suc (unpaired m cs))) 0) (suc (unpaired m (d ∷ cs)))

-- pairs of m, passed over from the left, become one m
abbrev pub halve : ℕ → List ℕ → List ℕ
halve m [] = []
halve m (c ∷ []) = c ∷ []
halve m (c ∷ d ∷ cs) = cond (c == m && d == m) (m ∷ halve m cs) (c ∷ halve m (d ∷ cs))

-- a `)` stands right before a `$`
abbrev pub closes : List ℕ → Bool
closes [] = false
closes (c ∷ cs) = (c == 41 && begins 36 cs) || closes cs
