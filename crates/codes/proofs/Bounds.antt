-- How long the template is that is written back.
use Rattle.std.proofs.Common.{◌≡◌, ℕ, suc, ◌+◌, ◌-◌, ◌*◌, ◌^◌, ◌<◌, ◌≤◌, Bool, true, false, cond, ◌&&◌, ◌||◌, eqb, leb, List, [], ◌∷◌, ◌++◌, length, decimal, refl, arith}
use Rattle.std.proofs.lemmas.Fmt.{length-decimal-le}
use Rattle.std.proofs.lemmas.Bool.{eqb-true, leb-true, leb-false}
use Rattle.std.proofs.lemmas.Bool.Decides.{nat_tests}
use Rattle.std.specs.List.{AllByRecursion as All}
use Rattle.grammar.proofs.Bytes.{Without}
use Rattle.grammar.proofs.Numerals.{numeral-without}
use Rattle.grammar.specs.Marks.{begins}
use Rattle.grammar.specs.Numbers.{numeral}
use Rattle.grammar.specs.Readings.{Piece, text, child, capture, repeat, Reading, Separator, Repeat, Power, Index}
use Rattle.codes.specs.Code.{Command, point, range, run, bytes, steps, commands, code_by, never, code_separator, code_repeat}
use Rattle.codes.specs.Formed.{Fits, Formed, Never, FormedSeparator, FormedRepeat}
use Rattle.codes.specs.Laws.{Bounded}
use Rattle.codes.specs.Written.{twice, path, pair_back, piece_back, body_back, empty, marked, prefixed, suffixed, none, write_by, write_separator, bare, powers_back, parted, separators_back, repeat_back, write}

-- how long t is, where d with its bars doubled
abbrev wide : Bool → List ℕ → ℕ
wide d [] = 0
wide d (c ∷ cs) = cond (eqb c 124 && d) 2 1 + wide d cs

wide_append : (d : Bool) (a b : List ℕ) → wide d (a ++ b) ≡ wide d a + wide d b
wide_append d [] b = omega arith
wide_append d (c ∷ a) b = omega (arith, wide_append d a b)

wide_plain : (t : List ℕ) → wide false t ≡ length t
wide_plain [] = refl
wide_plain (c ∷ cs) = go (eqb c 124) (wide_plain cs)
  where
    go : (b : Bool) → wide false cs ≡ length cs → cond (b && false) 2 1 + wide false cs ≡ suc (length cs)
    go true h = omega arith
    go false h = omega arith

wide_twice : (t : List ℕ) → wide true t ≡ length (twice 124 t)
wide_twice [] = refl
wide_twice (c ∷ cs) = go (eqb c 124) (wide_twice cs)
  where
    go : (b : Bool) → wide true cs ≡ length (twice 124 cs) → cond (b && true) 2 1 + wide true cs ≡ length (cond b (c ∷ c ∷ twice 124 cs) (c ∷ twice 124 cs))
    go true h = omega arith
    go false h = omega arith

bar : (d : Bool) → cond d 2 1 ≤ 2
bar true = omega arith
bar false = omega arith

wide_without : (d : Bool) (cs : List ℕ) → Without 124 cs → wide d cs ≡ length cs
wide_without d [] h = refl
wide_without d (c ∷ cs) h = rw h.0 (omega (arith, wide_without d cs h.1))

numeral-short : (n : ℕ) → Power n → length (numeral n) ≤ 11
numeral-short n h = go (leb n 2147483647) refl
  where
    go : (b : Bool) → leb n 2147483647 ≡ b → length (cond b (decimal n) (45 ∷ decimal (4294967296 - n))) ≤ 11
    go true e = let l = leb-true n 2147483647 e in omega (arith, length-decimal-le 10 n (omega arith) (omega arith) (omega arith))
    go false e =
        let l = leb-false n 2147483647 e in
        let m : 4294967296 - n < 10 ^ 10 = omega arith in
        omega (arith, length-decimal-le 10 (4294967296 - n) (omega arith) m (omega arith))

wide_numeral : (d : Bool) (n : ℕ) → Power n → wide d (numeral n) ≤ 11
wide_numeral d n h = omega (arith, wide_without d (numeral n) (numeral-without 124 refl n h), numeral-short n h)

wide_text : (d : Bool) (bs : List ℕ) → wide d (twice 36 bs) ≤ 2 * length bs
wide_text d [] = omega arith
wide_text d (c ∷ cs) = go (eqb c 36) refl (wide_text d cs)
  where
    go : (b : Bool) → eqb c 36 ≡ b → wide d (twice 36 cs) ≤ 2 * length cs → wide d (cond b (c ∷ c ∷ twice 36 cs) (c ∷ twice 36 cs)) ≤ 2 * suc (length cs)
    go true e ih = let z : eqb c 124 ≡ false = grind (arith, nat_tests, eqb-true c 36 e) in rw z (omega arith)
    go false e ih = omega (arith, bar (eqb c 124 && d))

wide_path : (d : Bool) (s : List ℕ) (i : ℕ) → All Index s → Index i → wide d (path s i) ≤ 12 * length s + 11
wide_path d [] i h k = omega (arith, wide_numeral d i k.0)
wide_path d (y ∷ s) i h k = omega (arith, wide_append d (numeral y) (58 ∷ path s i), wide_numeral d y h.0.0, wide_path d s i h.1 k)

wide_pair : (d : Bool) (l r : ℕ) → Power l → Power r → wide d (pair_back l r) ≤ 25
wide_pair d l r wl wr = go (eqb l 0 && eqb r 0)
  where
    go : (b : Bool) → wide d (cond b [] (124 ∷ numeral l ++ 44 ∷ numeral r)) ≤ 25
    go true = omega arith
    go false = omega (arith, bar d, wide_append d (numeral l) (44 ∷ numeral r), wide_numeral d l wl, wide_numeral d r wr)

wide_marked : (d b : Bool) (n : ℕ) → Power n → wide d (marked b n) ≤ 13
wide_marked d true n h = omega (arith, wide_append d (numeral n) (36 ∷ []), wide_numeral d n h)
wide_marked d false n h = omega arith

-- ---- the code
long_bytes : {R : Type 0} (w : R → List ℕ → List ℕ) (bs : List ℕ) (ks : List (Command R)) (cs : List ℕ) → length (run w (bytes bs ks) cs) ≡ 2 * length bs + length (run w ks cs)
long_bytes w [] ks cs = omega arith
long_bytes w (b ∷ bs) ks cs = omega (arith, long_bytes w bs ks cs)

long_steps : {R : Type 0} (w : R → List ℕ → List ℕ) (s : List ℕ) (ks : List (Command R)) (cs : List ℕ) → length (run w (steps s ks) cs) ≡ 5 * length s + length (run w ks cs)
long_steps w [] ks cs = omega arith
long_steps w (i ∷ s) ks cs = omega (arith, long_steps w s ks cs)

-- what a repeat has between `$(#` and `)$`
abbrev Short : {R : Type 0} → Bool → (List ℕ → R → List ℕ) → (R → List ℕ → List ℕ) → (R → Type 0) → Type 0
Short {R} d f w F = (s : List ℕ) (x : R) (cs : List ℕ) → All Index s → F x → wide d (f s x) + 1 + 4 * length cs ≤ 20 * length s + 4 * length (w x cs)

wide_body : {R : Type 0} (d : Bool) (f : List ℕ → R → List ℕ) (w : R → List ℕ → List ℕ) (F : R → Type 0) → Short d f w F → (ps : List (Piece R)) (cs : List ℕ) → All (Fits F) ps → wide d (body_back f ps) + 4 + 4 * length cs ≤ 4 * length (run w (commands ps) cs)
wide_body d f w F g [] cs h = omega arith
wide_body d f w F g (text b bs ∷ ps) cs h =
    omega (arith, wide_append d (twice 36 (b ∷ bs)) (body_back f ps), wide_text d (b ∷ bs), long_bytes w bs (commands ps) cs, wide_body d f w F g ps cs h.1)
wide_body d f w F g (child s i l r ∷ ps) cs h =
    omega (arith, wide_append d (piece_back f (child s i l r)) (body_back f ps), wide_append d (path s i ++ pair_back l r) (93 ∷ 36 ∷ []), wide_append d (path s i) (pair_back l r), wide_path d s i h.0.0 h.0.1, wide_pair d l r h.0.2 h.0.3, long_steps w s (point i l r ∷ commands ps) cs, wide_body d f w F g ps cs h.1)
wide_body d f w F g (capture n ∷ ps) cs h =
    omega (arith, wide_append d (piece_back f (capture n)) (body_back f ps), wide_append d (numeral n) (125 ∷ 36 ∷ []), wide_numeral d n (omega (arith, h.0)), wide_body d f w F g ps cs h.1)
wide_body d f w F g (repeat s x ∷ ps) cs h =
    omega (arith, wide_append d (piece_back f (repeat s x)) (body_back f ps), wide_append d (f s x) (41 ∷ 36 ∷ []), g s x (run w (commands ps) cs) h.0.0 h.0.1, long_steps w s (range x ∷ commands ps) cs, wide_body d f w F g ps cs h.1)

wide_write : {R : Type 0} (d : Bool) (f : List ℕ → R → List ℕ) (w : R → List ℕ → List ℕ) (F : R → Type 0) → Short d f w F → (r : Reading R) (cs : List ℕ) → Formed F r → wide d (write_by f r) + 14 + 4 * length cs ≤ 4 * length (code_by w r cs)
wide_write d f w F g r cs h =
    let body = body_back f r.pieces in
    omega (
      arith,
      wide_append d (marked (prefixed r.left r.right body) r.left) (body ++ marked (suffixed r.right body) r.right),
      wide_append d body (marked (suffixed r.right body) r.right),
      wide_marked d (prefixed r.left r.right body) r.left h.left,
      wide_marked d (suffixed r.right body) r.right h.right,
      wide_body d f w F g r.pieces cs h.fits,
    )

separator_short : (r : Separator) (cs : List ℕ) → FormedSeparator r → wide false (write_separator r) + 14 + 4 * length cs ≤ 4 * length (code_separator r cs)
separator_short r cs h = omega (arith, wide_plain (write_separator r), wide_twice (write_by none r), wide_write true none never Never (λ s x cs _ _. absurd x) r cs h)

wide_parted : (b : Bool) (t : List ℕ) → wide false (parted b t) ≤ 3 + wide false t
wide_parted true t = omega arith
wide_parted false t = omega arith

wide_powers : (x : Repeat) → FormedRepeat x → wide false (powers_back x) ≤ 48
wide_powers x h = go (eqb x.left 0 && (eqb x.middle_left 0 && (eqb x.middle_right 0 && eqb x.right 0)))
  where
    go : (b : Bool) → wide false (cond b [] (124 ∷ numeral x.left ++ (124 ∷ numeral x.middle_left ++ (44 ∷ numeral x.middle_right ++ 124 ∷ numeral x.right)))) ≤ 48
    go true = omega arith
    go false =
        let q = numeral x.middle_right ++ 124 ∷ numeral x.right in
        omega (
          arith,
          wide_append false (numeral x.left) (124 ∷ numeral x.middle_left ++ (44 ∷ q)),
          wide_append false (numeral x.middle_left) (44 ∷ q),
          wide_append false (numeral x.middle_right) (124 ∷ numeral x.right),
          wide_numeral false x.left h.left,
          wide_numeral false x.middle_left h.middle_left,
          wide_numeral false x.middle_right h.middle_right,
          wide_numeral false x.right h.right,
        )

wide_separators : (x : Repeat) → wide false (separators_back x) ≤ 9 + wide false (write_separator x.before) + wide false (write_separator x.between) + wide false (write_separator x.behind)
wide_separators x = go (bare x.before && bare x.behind) (bare x.between) (empty (write_separator x.between) || begins 124 (write_separator x.between)) (begins 124 (write_separator x.behind))
  where
    go : (a b c e : Bool) → wide false (cond a (cond b [] (36 ∷ write_separator x.between)) (36 ∷ write_separator x.before ++ (124 ∷ parted c (write_separator x.between) ++ (124 ∷ parted e (write_separator x.behind))))) ≤ 9 + wide false (write_separator x.before) + wide false (write_separator x.between) + wide false (write_separator x.behind)
    go true true c e = omega arith
    go true false c e = omega arith
    go false b c e =
        let right = parted e (write_separator x.behind) in
        omega (arith, wide_append false (write_separator x.before) (124 ∷ parted c (write_separator x.between) ++ (124 ∷ right)), wide_append false (parted c (write_separator x.between)) (124 ∷ right), wide_parted c (write_separator x.between), wide_parted e (write_separator x.behind))

repeat_short : Short false repeat_back code_repeat FormedRepeat
repeat_short s x cs h k =
    let t = powers_back x ++ separators_back x in
    omega (
      arith,
      wide_append false (path s x.from) (46 ∷ 46 ∷ numeral x.to ++ t),
      wide_append false (numeral x.to) t,
      wide_append false (powers_back x) (separators_back x),
      wide_path false s x.from h k.from,
      wide_numeral false x.to k.to.0,
      wide_powers x k,
      wide_separators x,
      separator_short x.before (code_separator x.between (code_separator x.behind cs)) k.before,
      separator_short x.between (code_separator x.behind cs) k.between,
      separator_short x.behind cs k.behind,
    )

pub bounded : Bounded
bounded r h = omega (arith, wide_plain (write r), wide_write false repeat_back code_repeat FormedRepeat repeat_short r [] h)
