-- In what is written of a repeat, no `)` stands before a `$` but the closing one: so the whole is read back.
use Rattle.std.proofs.Common.{◌≡◌, ℕ, Bool, true, false, cond, not, ◌&&◌, ◌||◌, eqb, List, [], ◌∷◌, ◌++◌, refl, ap, ◌∙◌, ap₂, append-nil, arith}
use Rattle.std.proofs.lemmas.Bool.{eqb-true, and_parts, and_left, or_parts, or_from, not-true}
use Rattle.std.specs.List.{AllByRecursion as All}
use Rattle.grammar.proofs.Bytes.{Without, each_without, without_append}
use Rattle.grammar.proofs.ChildrenRead.{child_powers-bytes}
use Rattle.grammar.proofs.Numerals.{numeral-without}
use Rattle.grammar.proofs.PathsRead.{path-without}
use Rattle.grammar.proofs.PowersRead.{is_powers, powers_without}
use Rattle.grammar.specs.Deep.{within_by}
use Rattle.grammar.specs.Grammar.{Repeats, ReadsSeparator}
use Rattle.grammar.specs.Limits.{step_allowance}
use Rattle.grammar.specs.Marks.{begins, ends, closes}
use Rattle.grammar.specs.Numbers.{numeral}
use Rattle.grammar.specs.Readings.{Piece, text, child, capture, repeat, Separator, Repeat, Power, Index}
use Rattle.codes.specs.Acceptable.{clear, allowed_by, separates, repeats}
use Rattle.codes.specs.Formed.{Fits, Never, FormedSeparator, FormedRepeat}
use Rattle.codes.specs.Laws.{ReadsBack}
use Rattle.codes.specs.Written.{twice, path, pair_back, piece_back, body_back, empty, marked, prefixed, suffixed, none, write_by, write_separator, bare, powers_back, parted, separators_back, repeat_back}
use Rattle.codes.proofs.ReadBack.{path-steps, pair_back_lem, powers_back_lem, Back, reads_by, repeat_back_lem}

-- a `$` follows: it stands first, or nothing stands there and m
abbrev follows : Bool → List ℕ → Bool
follows m [] = m
follows m (c ∷ cs) = eqb c 36

abbrev shut : Bool → List ℕ → Bool
shut m [] = false
shut m (c ∷ cs) = (eqb c 41 && follows m cs) || shut m cs

begins_follows : (cs : List ℕ) → begins 36 cs ≡ follows false cs
begins_follows [] = refl
begins_follows (c ∷ cs) = refl

closes_shut : (t : List ℕ) → closes t ≡ shut false t
closes_shut [] = refl
closes_shut (c ∷ cs) = ap₂ (λ a b. (eqb c 41 && a) || b) (begins_follows cs) (closes_shut cs)

follows_append : (m : Bool) (a b : List ℕ) → follows m (a ++ b) ≡ follows (follows m b) a
follows_append m [] b = refl
follows_append m (c ∷ a) b = refl

shut_append : (m : Bool) (a b : List ℕ) → shut (follows m b) a ≡ false → shut m b ≡ false → shut m (a ++ b) ≡ false
shut_append m [] b h k = k
shut_append m (c ∷ a) b h k =
    let p = or_parts (eqb c 41 && follows (follows m b) a) (shut (follows m b) a) h in
    rw (follows_append m a b) (or_from _ _ p.0 (shut_append m a b p.1 k))

-- ---- no `)` at all
lacks_shut : (m : Bool) (t : List ℕ) → Without 41 t → shut m t ≡ false
lacks_shut m [] h = refl
lacks_shut m (c ∷ cs) h = rw h.0 (lacks_shut m cs h.1)

lacks_path : (s : List ℕ) (i : ℕ) → All Index s → Index i → Without 41 (path s i)
lacks_path s i h k = path-without 41 refl (path-steps s i h k)

lacks_pair : (l r : ℕ) → Power l → Power r → Without 41 (pair_back l r)
lacks_pair l r h k = each_without is_powers 41 refl (pair_back l r) (child_powers-bytes (pair_back_lem l r h k))

lacks_marked : (b : Bool) (n : ℕ) → Power n → Without 41 (marked b n)
lacks_marked true n h = (refl, without_append 41 (numeral n) (36 ∷ []) (numeral-without 41 refl n h) (refl, tt))
lacks_marked false n h = tt

-- ---- doubling
follows_twice : (d : ℕ) (m : Bool) (t : List ℕ) → follows m (twice d t) ≡ follows m t
follows_twice d m [] = refl
follows_twice d m (c ∷ cs) = go (eqb c d)
  where
    go : (b : Bool) → follows m (cond b (c ∷ c ∷ twice d cs) (c ∷ twice d cs)) ≡ eqb c 36
    go true = refl
    go false = refl

shut_twice : (d : ℕ) (m : Bool) (t : List ℕ) → eqb d 41 ≡ false → shut m t ≡ false → shut m (twice d t) ≡ false
shut_twice d m [] z h = refl
shut_twice d m (c ∷ cs) z h =
    let p = or_parts (eqb c 41 && follows m cs) (shut m cs) h in
    go (eqb c d) refl p.0 (shut_twice d m cs z p.1)
  where
    go : (b : Bool) → eqb c d ≡ b → (eqb c 41 && follows m cs) ≡ false → shut m (twice d cs) ≡ false → shut m (cond b (c ∷ c ∷ twice d cs) (c ∷ twice d cs)) ≡ false
    go true e q ih = let y : eqb c 41 ≡ false = ap (λ n. eqb n 41) (eqb-true c d e) ∙ z in rw y ih
    go false e q ih = rw (follows_twice d m cs) (or_from _ _ q ih)

-- ---- texts
text_shut : (m : Bool) (t : List ℕ) → closes t ≡ false → (ends 41 t && m) ≡ false → shut m t ≡ false
text_shut m [] h e = refl
text_shut m (c ∷ []) h e = or_from _ _ e refl
text_shut m (c ∷ d ∷ cs) h e =
    let p = or_parts (eqb c 41 && eqb d 36) (closes (d ∷ cs)) h in
    or_from _ _ p.0 (text_shut m (d ∷ cs) p.1 e)

ends_shut : (t : List ℕ) → ends 36 t ≡ true → shut false t ≡ false → shut true t ≡ false
ends_shut [] e h = refl
ends_shut (c ∷ []) e h = rw (eqb-true c 36 e)
ends_shut (c ∷ d ∷ cs) e h =
    let p = or_parts (eqb c 41 && eqb d 36) (shut false (d ∷ cs)) h in
    or_from _ _ p.0 (ends_shut (d ∷ cs) e p.1)

lacks_piece : (p : Piece ⊥) (rest : List ℕ) (m : Bool) → Without 41 (piece_back none p) → shut m rest ≡ false → shut m (piece_back none p ++ rest) ≡ false
lacks_piece p rest m h k = shut_append m (piece_back none p) rest (lacks_shut (follows m rest) (piece_back none p) h) k

body_shut : (m : Bool) (ps : List (Piece ⊥)) → All (Fits Never) ps → clear m ps ≡ true → shut m (body_back none ps) ≡ false
body_shut m [] f h = refl
body_shut m (text b bs ∷ []) f h =
    let p = and_parts (not (closes (b ∷ bs))) (not (ends 41 (b ∷ bs) && m)) h in
    rw append-nil (shut_twice 36 m (b ∷ bs) refl (text_shut m (b ∷ bs) (not-true _ p.0) (not-true _ p.1)))
body_shut m (text b bs ∷ q ∷ ps) f h =
    let p = and_parts (not (closes (b ∷ bs))) (not (ends 41 (b ∷ bs)) && clear m (q ∷ ps)) h in
    let r = and_parts (not (ends 41 (b ∷ bs))) (clear m (q ∷ ps)) p.1 in
    let k = follows m (body_back none (q ∷ ps)) in
    shut_append m (twice 36 (b ∷ bs)) (body_back none (q ∷ ps)) (shut_twice 36 k (b ∷ bs) refl (text_shut k (b ∷ bs) (not-true _ p.0) (and_left _ k (not-true _ r.0)))) (body_shut m (q ∷ ps) f.1 r.1)
body_shut m (child s i l r ∷ ps) f h =
    lacks_piece (child s i l r) (body_back none ps) m (refl, (refl, (refl, without_append 41 (path s i ++ pair_back l r) (93 ∷ 36 ∷ []) (without_append 41 (path s i) (pair_back l r) (lacks_path s i f.0.0 f.0.1) (lacks_pair l r f.0.2 f.0.3)) (refl, (refl, tt))))) (body_shut m ps f.1 h)
body_shut m (capture n ∷ ps) f h =
    lacks_piece (capture n) (body_back none ps) m (refl, (refl, without_append 41 (numeral n) (125 ∷ 36 ∷ []) (numeral-without 41 refl n (omega (arith, f.0))) (refl, (refl, tt)))) (body_shut m ps f.1 h)
body_shut m (repeat s x ∷ ps) f h = absurd x

suffix_shut : (r : ℕ) (body : List ℕ) → shut (not (eqb r 0)) body ≡ false → shut (suffixed r body) body ≡ false
suffix_shut r body h = go (eqb r 0) (ends 36 body) refl h
  where
    go : (a b : Bool) → ends 36 body ≡ b → shut (not a) body ≡ false → shut (not a || b) body ≡ false
    go true true e h = ends_shut body e h
    go true false e h = h
    go false b e h = h

follows_marked : (b : Bool) (n : ℕ) → follows false (marked b n) ≡ b
follows_marked true n = refl
follows_marked false n = refl

separator_shut : (n : ℕ) (r : Separator) → FormedSeparator r → separates n r ≡ true → shut false (write_separator r) ≡ false
separator_shut n r h k =
    let c = (and_parts (allowed_by n (λ x. true) r) (clear (not (eqb r.right 0)) r.pieces) k).1 in
    let body = body_back none r.pieces in
    let suf = marked (suffixed r.right body) r.right in
    let pre = marked (prefixed r.left r.right body) r.left in
    let b : shut (follows false suf) body ≡ false = rw (follows_marked (suffixed r.right body) r.right) (suffix_shut r.right body (body_shut (not (eqb r.right 0)) r.pieces h.fits c)) in
    let rest : shut false (body ++ suf) ≡ false = shut_append false body suf b (lacks_shut false suf (lacks_marked (suffixed r.right body) r.right h.right)) in
    shut_twice 124 false (write_by none r) refl (shut_append false pre (body ++ suf) (lacks_shut _ pre (lacks_marked (prefixed r.left r.right body) r.left h.left)) rest)

parted_shut : (b : Bool) (t : List ℕ) → shut false t ≡ false → shut false (parted b t) ≡ false
parted_shut true t h = h
parted_shut false t h = h

separators_shut : (n : ℕ) (x : Repeat) → FormedRepeat x → repeats n x ≡ true → shut false (separators_back x) ≡ false
separators_shut n x h k =
    let p = and_parts (separates n x.before) (separates n x.between && separates n x.behind) k in
    let q = and_parts (separates n x.between) (separates n x.behind) p.1 in
    go (bare x.before && bare x.behind) (bare x.between) (empty (write_separator x.between) || begins 124 (write_separator x.between)) (begins 124 (write_separator x.behind))
    (separator_shut n x.before h.before p.0) (separator_shut n x.between h.between q.0) (separator_shut n x.behind h.behind q.1)
  where
    go : (a b c e : Bool) → shut false (write_separator x.before) ≡ false → shut false (write_separator x.between) ≡ false → shut false (write_separator x.behind) ≡ false
        → shut false (cond a (cond b [] (36 ∷ write_separator x.between)) (36 ∷ write_separator x.before ++ (124 ∷ parted c (write_separator x.between) ++ (124 ∷ parted e (write_separator x.behind))))) ≡ false
    go true true c e l m r = refl
    go true false c e l m r = m
    go false b c e l m r = shut_append false (write_separator x.before) _ l (shut_append false (parted c (write_separator x.between)) _ (parted_shut c _ m) (parted_shut e _ r))

repeat_closes : (n : ℕ) (s : List ℕ) (x : Repeat) → All Index s → FormedRepeat x → repeats n x ≡ true → closes (repeat_back s x) ≡ false
repeat_closes n s x h k a =
    let t = powers_back x ++ separators_back x in
    let u = 46 ∷ 46 ∷ numeral x.to ++ t in
    let st : shut false t ≡ false = shut_append false (powers_back x) (separators_back x) (lacks_shut _ (powers_back x) (powers_without 41 refl (powers_back_lem x k))) (separators_shut n x k a) in
    let su : shut false u ≡ false = shut_append false (46 ∷ 46 ∷ numeral x.to) t (lacks_shut _ (46 ∷ 46 ∷ numeral x.to) (refl, (refl, numeral-without 41 refl x.to k.to.0))) st in
    closes_shut (repeat_back s x) ∙ shut_append false (path s x.from) u (lacks_shut _ (path s x.from) (lacks_path s x.from h k.from)) su

all_back : (n : ℕ) (ps : List (Piece Repeat)) → All (Fits FormedRepeat) ps → within_by n (repeats n) ps ≡ true → All (Back (Repeats ReadsSeparator) repeat_back) ps
all_back n [] f h = tt
all_back n (text b bs ∷ ps) f h = (tt, all_back n ps f.1 h)
all_back n (child s i l r ∷ ps) f h = (tt, all_back n ps f.1 (and_parts _ (within_by n (repeats n) ps) h).1)
all_back n (capture k ∷ ps) f h = (tt, all_back n ps f.1 h)
all_back n (repeat s x ∷ ps) f h =
    let p = and_parts _ (repeats n x && within_by n (repeats n) ps) h in
    let q = and_parts (repeats n x) (within_by n (repeats n) ps) p.1 in
    (repeat_back_lem s x f.0.0 f.0.1 (repeat_closes n s x f.0.0 f.0.1 q.0), all_back n ps f.1 q.1)

pub reads-back : ReadsBack
reads-back r h a = reads_by (Repeats ReadsSeparator) repeat_back FormedRepeat r h (all_back step_allowance r.pieces h.fits (and_parts _ (within_by step_allowance (repeats step_allowance) r.pieces) a).1)
