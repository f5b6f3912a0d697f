-- Worked examples.
use Rattle.std.specs.Prelude.{◌≡◌, ℕ, List, [], ◌∷◌, Some, None, codes, Option, refl}
use Rattle.matching.specs.Reader.{items_of}
use Rattle.matching.specs.Places.{Places, count_in, match_by}

abbrev count : List ℕ → Option ℕ
count text = count_in (items_of text)

abbrev match : List ℕ → List ℕ → Option Places
match text name = match_by (items_of text) name

-- earlier items take the most
greedy : match (codes "(a*)(a?)(a*)b") (codes "aaab") ≡ Some (Some (0, 4) ∷ Some (0, 3) ∷ Some (3, 3) ∷ Some (3, 3) ∷ [])
greedy = refl

-- a group's number is that of its opening bracket
nested : match (codes "((a)b(c))d") (codes "abcd") ≡ Some (Some (0, 4) ∷ Some (0, 3) ∷ Some (0, 1) ∷ Some (2, 3) ∷ [])
nested = refl

-- an earlier item leaves what the later ones need
gives : match (codes "(.+)_(.+)") (codes "a_b_c") ≡ Some (Some (0, 5) ∷ Some (0, 3) ∷ Some (4, 5) ∷ [])
gives = refl

-- the whole name is matched
whole : match (codes "a") (codes "ab") ≡ None
whole = refl

-- `.` does not take a line feed, and `+` takes at least one byte
feed : match (codes ".") (10 ∷ []) ≡ None
feed = refl

several : match (codes "a+b") (codes "b") ≡ None
several = refl

empty : match [] [] ≡ Some (Some (0, 0) ∷ [])
empty = refl

escaped : match (codes "\\*+") (codes "**") ≡ Some (Some (0, 2) ∷ [])
escaped = refl

-- no patterns
repeated : count (codes "(a)*") ≡ None
repeated = refl

doubled : count (codes "a**") ≡ None
doubled = refl

unclosed : count (codes "(a") ≡ None
unclosed = refl

unopened : count (codes "a)") ≡ None
unopened = refl

unescaped : count (codes "\\n") ≡ None
unescaped = refl

deepest : count (codes "(((((((((((((((())))))))))))))))") ≡ Some 17
deepest = refl

deeper : count (codes "((((((((((((((((()))))))))))))))))") ≡ None
deeper = refl
