-- The template written back from a reading.
use Rattle.std.specs.Prelude.{ℕ, Bool, true, false, cond, not, ◌&&◌, ◌||◌, List, [], ◌∷◌, ◌++◌, ◌==◌}
use Rattle.grammar.specs.Readings.{Piece, text, child, capture, repeat, Reading, Separator, Repeat, Template}
use Rattle.grammar.specs.Marks.{begins, ends}
use Rattle.grammar.specs.Numbers.{numeral}

-- with each m doubled
abbrev pub twice : ℕ → List ℕ → List ℕ
twice m [] = []
twice m (c ∷ cs) = cond (c == m) (c ∷ c ∷ twice m cs) (c ∷ twice m cs)

abbrev pub path : List ℕ → ℕ → List ℕ
path [] i = numeral i
path (s ∷ ss) i = numeral s ++ 58 ∷ path ss i

abbrev pub pair_back : ℕ → ℕ → List ℕ
pair_back l r = cond (l == 0 && r == 0) [] (124 ∷ numeral l ++ 44 ∷ numeral r)

abbrev pub piece_back : {R : Type 0} → (List ℕ → R → List ℕ) → Piece R → List ℕ
piece_back f (text b bs) = twice 36 (b ∷ bs)
piece_back f (child s i l r) = 36 ∷ 91 ∷ 35 ∷ (path s i ++ pair_back l r) ++ 93 ∷ 36 ∷ []
piece_back f (capture n) = 36 ∷ 123 ∷ numeral n ++ 125 ∷ 36 ∷ []
piece_back f (repeat s x) = 36 ∷ 40 ∷ 35 ∷ f s x ++ 41 ∷ 36 ∷ []

abbrev pub body_back : {R : Type 0} → (List ℕ → R → List ℕ) → List (Piece R) → List ℕ
body_back f [] = []
body_back f (p ∷ ps) = piece_back f p ++ body_back f ps

abbrev pub empty : List ℕ → Bool
empty [] = true
empty (c ∷ cs) = false

abbrev pub marked : Bool → ℕ → List ℕ
marked b n = cond b (36 ∷ numeral n ++ 36 ∷ []) []

abbrev pub prefixed : ℕ → ℕ → List ℕ → Bool
prefixed l r body = not (l == 0) || (begins 36 body || (empty body && not (r == 0)))

abbrev pub suffixed : ℕ → List ℕ → Bool
suffixed r body = not (r == 0) || ends 36 body

abbrev pub around : ℕ → ℕ → List ℕ → List ℕ
around l r body = marked (prefixed l r body) l ++ (body ++ marked (suffixed r body) r)

abbrev pub write_by : {R : Type 0} → (List ℕ → R → List ℕ) → Reading R → List ℕ
write_by f r = around r.left r.right (body_back f r.pieces)

abbrev pub none : List ℕ → ⊥ → List ℕ
none s x = []

abbrev pub write_separator : Separator → List ℕ
write_separator r = twice 124 (write_by none r)

abbrev pub bare_body : {R : Type 0} → List (Piece R) → Bool
bare_body [] = true
bare_body (p ∷ ps) = false

abbrev pub bare : Separator → Bool
bare r = r.left == 0 && (r.right == 0 && bare_body r.pieces)

abbrev pub powers_back : Repeat → List ℕ
powers_back x =
    cond (x.left == 0 && (x.middle_left == 0 && (x.middle_right == 0 && x.right == 0))) []
    (124 ∷ numeral x.left ++ (124 ∷ numeral x.middle_left ++ (44 ∷ numeral x.middle_right ++ 124 ∷ numeral x.right)))

abbrev pub parted : Bool → List ℕ → List ℕ
parted b t = cond b (36 ∷ 48 ∷ 36 ∷ t) t

abbrev pub separators_back : Repeat → List ℕ
separators_back x =
    cond (bare x.before && bare x.behind) (cond (bare x.between) [] (36 ∷ write_separator x.between))
    (36 ∷ write_separator x.before
    ++ (124 ∷ parted (empty (write_separator x.between) || begins 124 (write_separator x.between)) (write_separator x.between)
    ++ (124 ∷ parted (begins 124 (write_separator x.behind)) (write_separator x.behind))))

abbrev pub repeat_back : List ℕ → Repeat → List ℕ
repeat_back s x = path s x.from ++ (46 ∷ 46 ∷ numeral x.to ++ (powers_back x ++ separators_back x))

abbrev pub write : Template → List ℕ
write r = write_by repeat_back r
