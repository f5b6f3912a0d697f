-- The template written back consists of bytes.
use Rattle.std.proofs.Common.{◌≡◌, ℕ, Bool, true, false, cond, ◌&&◌, ◌||◌, eqb, List, [], ◌∷◌, ◌++◌, arith}
use Rattle.std.proofs.ByRecursion.{All-append}
use Rattle.std.proofs.lemmas.Bool.Decides.{nat_tests}
use Rattle.std.specs.List.{AllByRecursion as All}
use Rattle.grammar.proofs.Bytes.{Each}
use Rattle.grammar.proofs.ChildrenRead.{child_powers-bytes}
use Rattle.grammar.proofs.Numerals.{is_numeral, numeral-bytes}
use Rattle.grammar.proofs.PathsRead.{is_path, path_bytes}
use Rattle.grammar.proofs.PowersRead.{is_powers, powers_bytes}
use Rattle.grammar.specs.Marks.{begins}
use Rattle.grammar.specs.Numbers.{numeral}
use Rattle.grammar.specs.Readings.{Piece, text, child, capture, repeat, Reading, Separator, Repeat, Template, Byte, Power, Index}
use Rattle.codes.specs.Formed.{Fits, Formed, Never, FormedSeparator, FormedRepeat, FormedTemplate}
use Rattle.codes.specs.Written.{twice, path, pair_back, piece_back, body_back, empty, marked, prefixed, suffixed, none, write_by, write_separator, bare, powers_back, parted, separators_back, repeat_back, write}
use Rattle.codes.proofs.ReadBack.{path-steps, pair_back_lem, powers_back_lem}

-- ---- numbers and marks
by_test : (f : ℕ → Bool) → ((c : ℕ) → f c ≡ true → Byte c) → (cs : List ℕ) → Each f cs → All Byte cs
by_test f g [] h = tt
by_test f g (c ∷ cs) h = (g c h.0, by_test f g cs h.1)

path_byte : (c : ℕ) → is_path c ≡ true → Byte c
path_byte c h = grind (arith, nat_tests)

powers_byte : (c : ℕ) → is_powers c ≡ true → Byte c
powers_byte c h = grind (arith, nat_tests)

numeral_byte : (c : ℕ) → is_numeral c ≡ true → Byte c
numeral_byte c h = grind (arith, nat_tests)

typed_numeral : (n : ℕ) → Power n → All Byte (numeral n)
typed_numeral n h = by_test is_numeral numeral_byte (numeral n) (numeral-bytes n h)

typed_path : (s : List ℕ) (i : ℕ) → All Index s → Index i → All Byte (path s i)
typed_path s i h k = by_test is_path path_byte (path s i) (path_bytes (path-steps s i h k))

typed_pair : (l r : ℕ) → Power l → Power r → All Byte (pair_back l r)
typed_pair l r h k = by_test is_powers powers_byte (pair_back l r) (child_powers-bytes (pair_back_lem l r h k))

typed_powers : (x : Repeat) → FormedRepeat x → All Byte (powers_back x)
typed_powers x h = by_test is_powers powers_byte (powers_back x) (powers_bytes (powers_back_lem x h))

typed_marked : (b : Bool) (n : ℕ) → Power n → All Byte (marked b n)
typed_marked true n h = (omega arith, All-append Byte (numeral n) (36 ∷ []) (typed_numeral n h) (omega arith, tt))
typed_marked false n h = tt

typed_twice : (m : ℕ) (cs : List ℕ) → All Byte cs → All Byte (twice m cs)
typed_twice m [] h = tt
typed_twice m (c ∷ cs) h = go (eqb c m) (typed_twice m cs h.1)
  where
    go : (b : Bool) → All Byte (twice m cs) → All Byte (cond b (c ∷ c ∷ twice m cs) (c ∷ twice m cs))
    go true ih = (h.0, (h.0, ih))
    go false ih = (h.0, ih)

-- ---- readings; f writes what a repeat has between `$(#` and `)$`
abbrev Types : {R : Type 0} → (List ℕ → R → List ℕ) → (R → Type 0) → Type 0
Types {R} f F = (s : List ℕ) (x : R) → All Index s → F x → All Byte (f s x)

typed_piece : {R : Type 0} (f : List ℕ → R → List ℕ) (F : R → Type 0) → Types f F → (p : Piece R) → Fits F p → All Byte (piece_back f p)
typed_piece f F g (text b bs) h = typed_twice 36 (b ∷ bs) h
typed_piece f F g (child s i l r) h =
    (omega arith, (omega arith, (omega arith, All-append Byte (path s i ++ pair_back l r) (93 ∷ 36 ∷ []) (All-append Byte (path s i) (pair_back l r) (typed_path s i h.0 h.1) (typed_pair l r h.2 h.3)) (omega arith, (omega arith, tt)))))
typed_piece f F g (capture n) h = (omega arith, (omega arith, All-append Byte (numeral n) (125 ∷ 36 ∷ []) (typed_numeral n (omega arith)) (omega arith, (omega arith, tt))))
typed_piece f F g (repeat s x) h = (omega arith, (omega arith, (omega arith, All-append Byte (f s x) (41 ∷ 36 ∷ []) (g s x h.0 h.1) (omega arith, (omega arith, tt)))))

typed_body : {R : Type 0} (f : List ℕ → R → List ℕ) (F : R → Type 0) → Types f F → (ps : List (Piece R)) → All (Fits F) ps → All Byte (body_back f ps)
typed_body f F g [] h = tt
typed_body f F g (p ∷ ps) h = All-append Byte (piece_back f p) (body_back f ps) (typed_piece f F g p h.0) (typed_body f F g ps h.1)

typed_write : {R : Type 0} (f : List ℕ → R → List ℕ) (F : R → Type 0) → Types f F → (r : Reading R) → Formed F r → All Byte (write_by f r)
typed_write f F g r h =
    let body = body_back f r.pieces in
    let pre = marked (prefixed r.left r.right body) r.left in
    let suf = marked (suffixed r.right body) r.right in
    All-append Byte pre (body ++ suf) (typed_marked (prefixed r.left r.right body) r.left h.left)
    (All-append Byte body suf (typed_body f F g r.pieces h.fits) (typed_marked (suffixed r.right body) r.right h.right))

typed_separator : (r : Separator) → FormedSeparator r → All Byte (write_separator r)
typed_separator r h = typed_twice 124 (write_by none r) (typed_write none Never (λ s x i k. absurd x) r h)

typed_parted : (b : Bool) (t : List ℕ) → All Byte t → All Byte (parted b t)
typed_parted true t h = (omega arith, (omega arith, (omega arith, h)))
typed_parted false t h = h

typed_separators : (x : Repeat) → FormedRepeat x → All Byte (separators_back x)
typed_separators x h =
    go (bare x.before && bare x.behind) (bare x.between) (empty (write_separator x.between) || begins 124 (write_separator x.between)) (begins 124 (write_separator x.behind))
    (write_separator x.before) (write_separator x.between) (write_separator x.behind) (typed_separator x.before h.before) (typed_separator x.between h.between) (typed_separator x.behind h.behind)
  where
    go : (a b c e : Bool) (l m r : List ℕ) → All Byte l → All Byte m → All Byte r → All Byte (cond a (cond b [] (36 ∷ m)) (36 ∷ l ++ (124 ∷ parted c m ++ (124 ∷ parted e r))))
    go true true c e l m r f g k = tt
    go true false c e l m r f g k = (omega arith, g)
    go false b c e l m r f g k = (omega arith, All-append Byte l (124 ∷ parted c m ++ (124 ∷ parted e r)) f (omega arith, All-append Byte (parted c m) (124 ∷ parted e r) (typed_parted c m g) (omega arith, typed_parted e r k)))

typed_repeat_lem : Types repeat_back FormedRepeat
typed_repeat_lem s x h k =
    let t = powers_back x ++ separators_back x in
    All-append Byte (path s x.from) (46 ∷ 46 ∷ numeral x.to ++ t) (typed_path s x.from h k.from)
    (omega arith, (omega arith, All-append Byte (numeral x.to) t (typed_numeral x.to k.to.0) (All-append Byte (powers_back x) (separators_back x) (typed_powers x k) (typed_separators x k))))

pub write_bytes : (r : Template) → FormedTemplate r → All Byte (write r)
write_bytes r h = typed_write repeat_back FormedRepeat typed_repeat_lem r h
