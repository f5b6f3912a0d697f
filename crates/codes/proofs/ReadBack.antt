-- What is written back reads as the reading, where no `)$` stands in a repeat.
use Rattle.std.proofs.Common.{◌≡◌, ℕ, Bool, true, false, cond, not, ◌&&◌, ◌||◌, eqb, List, [], ◌∷◌, ◌++◌, sym, refl, ◌∙◌, subst, ap₂, append_assoc, append-nil, arith}
use Rattle.std.proofs.lemmas.Fmt.{decimal_digit}
use Rattle.std.proofs.lemmas.Bool.{eqb-true, eqb-false, and_parts, or_parts, not-false}
use Rattle.std.specs.List.{AllByRecursion as All}
use Rattle.grammar.specs.Grammar.{Path, last, step, two, ChildPowers, untyped, typed, Powers, Parted, Separators, Repeats, is_child, is_capture, is_repeat, Doubled, Body, over, control, words, Prefix, Suffix, ReadsBy, NoRepeat, ReadsSeparator}
use Rattle.grammar.specs.Marks.{begins, ends, closes}
use Rattle.grammar.specs.Numbers.{numeral}
use Rattle.grammar.specs.Readings.{Piece, text, child, capture, repeat, Reading, Separator, Repeat, Power, Index}
use Rattle.codes.specs.Formed.{Fits, Apart, Formed, Never, FormedSeparator, FormedRepeat}
use Rattle.codes.specs.Written.{twice, path, pair_back, body_back, empty, marked, prefixed, suffixed, none, write_by, write_separator, bare_body, bare, powers_back, parted, separators_back, repeat_back}

doubled_twice : (cs : List ℕ) → Doubled (twice 36 cs) cs
doubled_twice [] = Doubled.done
doubled_twice (c ∷ cs) = go (eqb c 36) refl (doubled_twice cs)
  where
    go : (b : Bool) → eqb c 36 ≡ b → Doubled (twice 36 cs) cs → Doubled (cond b (c ∷ c ∷ twice 36 cs) (c ∷ twice 36 cs)) (c ∷ cs)
    go true e ih = subst (λ (k : ℕ). Doubled (k ∷ k ∷ twice 36 cs) (k ∷ cs)) (sym (eqb-true c 36 e)) (Doubled.mark ih)
    go false e ih = Doubled.other (eqb-false c 36 e) ih

pub path-steps : (s : List ℕ) (i : ℕ) → All Index s → Index i → Path (path s i) s i
path-steps [] i h k = last k
path-steps (y ∷ s) i h k = step h.0 (path-steps s i h.1 k)

pub pair_back_lem : (l r : ℕ) → Power l → Power r → ChildPowers (pair_back l r) l r
pair_back_lem l r wl wr = go (eqb l 0 && eqb r 0) refl
  where
    go : (b : Bool) → (eqb l 0 && eqb r 0) ≡ b → ChildPowers (cond b [] (124 ∷ numeral l ++ 44 ∷ numeral r)) l r
    go true e =
        let z = and_parts (eqb l 0) (eqb r 0) e in
        rw (eqb-true l 0 z.0, eqb-true r 0 z.1) untyped
    go false e = typed (two wl wr)

-- what is written of the repeats among these pieces is read back
abbrev pub Back : {R : Type 0} → (List ℕ → List ℕ → R → Type 0) → (List ℕ → R → List ℕ) → Piece R → Type 0
Back Q f (text b bs) = Unit {0}
Back Q f (child s i l r) = Unit {0}
Back Q f (capture n) = Unit {0}
Back Q f (repeat s x) = Q (f s x) s x

body_back_lem : {R : Type 0} (Q : List ℕ → List ℕ → R → Type 0) (f : List ℕ → R → List ℕ) (F : R → Type 0) (ps : List (Piece R)) → All (Fits F) ps → Apart ps → All (Back Q f) ps → Body Q (body_back f ps) ps
body_back_lem Q f F [] h a g = over
body_back_lem Q f F (text b bs ∷ ps) h a g = words (doubled_twice (b ∷ bs)) a.0 (body_back_lem Q f F ps h.1 a.1 g.1)
body_back_lem Q f F (child s i l r ∷ ps) h a g = control (is_child (path-steps s i h.0.0 h.0.1) (pair_back_lem l r h.0.2 h.0.3)) (body_back_lem Q f F ps h.1 a g.1)
body_back_lem Q f F (capture n ∷ ps) h a g = control (is_capture h.0) (body_back_lem Q f F ps h.1 a g.1)
body_back_lem Q f F (repeat s x ∷ ps) h a g = control (is_repeat g.0) (body_back_lem Q f F ps h.1 a g.1)

zero-from : (n : ℕ) → not (eqb n 0) ≡ false → n ≡ 0
zero-from n e = eqb-true n 0 (not-false (eqb n 0) e)

suffix_back : (r : ℕ) (body : List ℕ) → Power r → Suffix (body ++ marked (suffixed r body) r) r body
suffix_back r body w = go (suffixed r body) refl
  where
    go : (b : Bool) → suffixed r body ≡ b → Suffix (body ++ marked b r) r body
    go true e = Suffix.stands w
    go false e =
        let p = or_parts (not (eqb r 0)) (ends 36 body) e in
        rw append-nil (subst (λ (m : ℕ). Suffix body m body) (sym (zero-from r p.0)) (Suffix.absent p.1))

-- where no prefix stands, no `$` is first
bare-first : (r : ℕ) (body : List ℕ) → begins 36 body ≡ false → (empty body && not (eqb r 0)) ≡ false → begins 36 (body ++ marked (suffixed r body) r) ≡ false
bare-first r [] e z = go (eqb r 0) z
  where
    go : (b : Bool) → not b ≡ false → begins 36 (marked (not b || false) r) ≡ false
    go true z = refl
    go false z = z
bare-first r (c ∷ cs) e z = e

prefix_back : (l r : ℕ) (body : List ℕ) → Power l → Prefix (marked (prefixed l r body) l ++ (body ++ marked (suffixed r body) r)) l (body ++ marked (suffixed r body) r)
prefix_back l r body w = go (prefixed l r body) refl
  where
    go : (b : Bool) → prefixed l r body ≡ b → Prefix (marked b l ++ (body ++ marked (suffixed r body) r)) l (body ++ marked (suffixed r body) r)
    go true e = rw (append_assoc (numeral l) (36 ∷ []) (body ++ marked (suffixed r body) r)) (Prefix.stands w)
    go false e =
        let p = or_parts (not (eqb l 0)) (begins 36 body || (empty body && not (eqb r 0))) e in
        let q = or_parts (begins 36 body) (empty body && not (eqb r 0)) p.1 in
        subst (λ (m : ℕ). Prefix (body ++ marked (suffixed r body) r) m (body ++ marked (suffixed r body) r)) (sym (zero-from l p.0)) (Prefix.absent (bare-first r body q.0 q.1))

pub reads_by : {R : Type 0} (Q : List ℕ → List ℕ → R → Type 0) (f : List ℕ → R → List ℕ) (F : R → Type 0) (r : Reading R) → Formed F r → All (Back Q f) r.pieces → ReadsBy Q (write_by f r) r
reads_by Q f F r h g = record {
  rest = body_back f r.pieces ++ marked (suffixed r.right (body_back f r.pieces)) r.right;
  body = body_back f r.pieces;
  prefix = prefix_back r.left r.right (body_back f r.pieces) h.left;
  suffix = suffix_back r.right (body_back f r.pieces) h.right;
  pieces = body_back_lem Q f F r.pieces h.fits h.apart g;
}

no_repeats : (ps : List (Piece ⊥)) → All (Back NoRepeat none) ps
no_repeats [] = tt
no_repeats (text b bs ∷ ps) = (tt, no_repeats ps)
no_repeats (child s i l r ∷ ps) = (tt, no_repeats ps)
no_repeats (capture n ∷ ps) = (tt, no_repeats ps)
no_repeats (repeat s x ∷ ps) = absurd x

pub separator_back : (r : Separator) → FormedSeparator r → ReadsSeparator (write_by none r) r
separator_back r h = reads_by NoRepeat none Never r h (no_repeats r.pieces)

-- ---- separators
parted-whole : (w : List ℕ) → Parted (twice 124 w) w []
parted-whole [] = Parted.end
parted-whole (c ∷ cs) = go (eqb c 124) refl (parted-whole cs)
  where
    go : (b : Bool) → eqb c 124 ≡ b → Parted (twice 124 cs) cs [] → Parted (cond b (c ∷ c ∷ twice 124 cs) (c ∷ twice 124 cs)) (c ∷ cs) []
    go true e ih = subst (λ (k : ℕ). Parted (k ∷ k ∷ twice 124 cs) (k ∷ cs) []) (sym (eqb-true c 124 e)) (Parted.pair ih)
    go false e ih = Parted.other (eqb-false c 124 e) ih

parted-then : (w t u : List ℕ) (us : List (List ℕ)) → begins 124 t ≡ false → Parted t u us → Parted (twice 124 w ++ 124 ∷ t) w (u ∷ us)
parted-then [] t u us h p = Parted.part h p
parted-then (c ∷ cs) t u us h p = go (eqb c 124) refl (parted-then cs t u us h p)
  where
    go : (b : Bool) → eqb c 124 ≡ b → Parted (twice 124 cs ++ 124 ∷ t) cs (u ∷ us) → Parted (cond b (c ∷ c ∷ twice 124 cs) (c ∷ twice 124 cs) ++ 124 ∷ t) (c ∷ cs) (u ∷ us)
    go true e ih = subst (λ (k : ℕ). Parted (k ∷ k ∷ (twice 124 cs ++ 124 ∷ t)) (k ∷ cs) (u ∷ us)) (sym (eqb-true c 124 e)) (Parted.pair ih)
    go false e ih = Parted.other (eqb-false c 124 e) ih

-- `$0$` may stand before a template that does not begin with `$`
prefix_more : (t rest : List ℕ) (l : ℕ) → begins 36 t ≡ false → Prefix t l rest → Prefix (36 ∷ 48 ∷ 36 ∷ t) l rest
prefix_more t rest l h (Prefix.absent {t = t'} e) = subst (λ (d : List ℕ). Prefix (36 ∷ d ++ 36 ∷ t') 0 t') (decimal_digit 0 (omega arith)) (Prefix.stands {n = 0} (omega arith))
prefix_more t rest l h (Prefix.stands {n} {t = t'} w) = let b : ◌≡◌ {A = ℕ} 0 1 = cc in absurd (omega arith)

parted-reads : (b : Bool) (t : List ℕ) (r : Separator) → (b ≡ true → begins 36 t ≡ false) → ReadsSeparator t r → ReadsSeparator (parted b t) r
parted-reads true t r h g = record { rest = g.rest; body = g.body; prefix = prefix_more t g.rest r.left (h refl) g.prefix; suffix = g.suffix; pieces = g.pieces }
parted-reads false t r h g = g

parted-twice : (b : Bool) (t : List ℕ) → parted b (twice 124 t) ≡ twice 124 (parted b t)
parted-twice true t = refl
parted-twice false t = refl

begins-twice : (t : List ℕ) → begins 124 (twice 124 t) ≡ begins 124 t
begins-twice [] = refl
begins-twice (c ∷ cs) = go (eqb c 124) refl
  where
    go : (b : Bool) → eqb c 124 ≡ b → begins 124 (cond b (c ∷ c ∷ twice 124 cs) (c ∷ twice 124 cs)) ≡ eqb c 124
    go true e = refl
    go false e = refl

empty-twice : (t : List ℕ) → empty (twice 124 t) ≡ empty t
empty-twice [] = refl
empty-twice (c ∷ cs) = go (eqb c 124)
  where
    go : (b : Bool) → empty (cond b (c ∷ c ∷ twice 124 cs) (c ∷ twice 124 cs)) ≡ false
    go true = refl
    go false = refl

parted-first : (t : List ℕ) → begins 124 (parted (begins 124 t) t) ≡ false
parted-first t = go (begins 124 t) refl
  where
    go : (b : Bool) → begins 124 t ≡ b → begins 124 (parted b t) ≡ false
    go true e = refl
    go false e = e

parted-begins : (t u : List ℕ) → begins 124 (parted (empty t || begins 124 t) t ++ u) ≡ false
parted-begins [] u = refl
parted-begins (c ∷ cs) u = go (eqb c 124) refl
  where
    go : (b : Bool) → eqb c 124 ≡ b → begins 124 (parted b (c ∷ cs) ++ u) ≡ false
    go true e = refl
    go false e = e

first-not_mark : (t : List ℕ) → (empty t || begins 124 t) ≡ true → begins 36 t ≡ false
first-not_mark [] e = refl
first-not_mark (c ∷ cs) e = rw (eqb-true c 124 e)

bar_not_mark : (t : List ℕ) → begins 124 t ≡ true → begins 36 t ≡ false
bar_not_mark [] e = refl
bar_not_mark (c ∷ cs) e = rw (eqb-true c 124 e)

triple_parted : (wl wm wr : List ℕ) (c e : Bool) → c ≡ (empty (twice 124 wm) || begins 124 (twice 124 wm)) → e ≡ begins 124 (twice 124 wr)
    → Parted (twice 124 wl ++ (124 ∷ parted c (twice 124 wm) ++ (124 ∷ parted e (twice 124 wr)))) wl (parted c wm ∷ parted e wr ∷ [])
triple_parted wl wm wr c e hc he =
    let last : Parted (parted e (twice 124 wr)) (parted e wr) [] = rw (parted-twice e wr) (parted-whole (parted e wr)) in
    let free : begins 124 (parted e (twice 124 wr)) ≡ false = rw he (parted-first (twice 124 wr)) in
    let mid : Parted (parted c (twice 124 wm) ++ (124 ∷ parted e (twice 124 wr))) (parted c wm) (parted e wr ∷ []) = rw (parted-twice c wm) (parted-then (parted c wm) (parted e (twice 124 wr)) (parted e wr) [] free last) in
    let clear : begins 124 (parted c (twice 124 wm) ++ (124 ∷ parted e (twice 124 wr))) ≡ false = rw hc (parted-begins (twice 124 wm) (124 ∷ parted e (twice 124 wr))) in
    parted-then wl (parted c (twice 124 wm) ++ (124 ∷ parted e (twice 124 wr))) (parted c wm) (parted e wr ∷ []) clear mid

-- a separator of nothing is not written
bare-reads : (r : Separator) → bare r ≡ true → ReadsSeparator [] r
bare-reads r h =
    let p = and_parts (eqb r.left 0) (eqb r.right 0 && bare_body r.pieces) h in
    let q = and_parts (eqb r.right 0) (bare_body r.pieces) p.1 in
    record {
      rest = [];
      body = [];
      prefix = subst (λ (n : ℕ). Prefix [] n []) (sym (eqb-true r.left 0 p.0)) (Prefix.absent refl);
      suffix = subst (λ (n : ℕ). Suffix [] n []) (sym (eqb-true r.right 0 q.0)) (Suffix.absent refl);
      pieces = none_left r.pieces q.1;
    }
  where
    none_left : (ps : List (Piece ⊥)) → bare_body ps ≡ true → Body NoRepeat [] ps
    none_left [] e = over
    none_left (p ∷ ps) e = let b : ◌≡◌ {A = ℕ} 0 1 = cc in absurd (omega arith)

separators_back_lem : (x : Repeat) → FormedRepeat x → Separators ReadsSeparator (separators_back x) x.before x.between x.behind
separators_back_lem x h = go (bare x.before && bare x.behind) refl (bare x.between) refl
  where
    go : (a : Bool) → (bare x.before && bare x.behind) ≡ a → (b : Bool) → bare x.between ≡ b
        → Separators ReadsSeparator (cond a (cond b [] (36 ∷ write_separator x.between)) (36 ∷ write_separator x.before
        ++ (124 ∷ parted (empty (write_separator x.between) || begins 124 (write_separator x.between)) (write_separator x.between)
        ++ (124 ∷ parted (begins 124 (write_separator x.behind)) (write_separator x.behind))))) x.before x.between x.behind
    go true e true f =
        let p = and_parts (bare x.before) (bare x.behind) e in
        Separators.unwritten (bare-reads x.before p.0) (bare-reads x.between f) (bare-reads x.behind p.1)
    go true e false f =
        let p = and_parts (bare x.before) (bare x.behind) e in
        Separators.single (parted-whole (write_by none x.between)) (bare-reads x.before p.0) (separator_back x.between h.between) (bare-reads x.behind p.1)
    go false e b f =
        let wm = write_by none x.between in
        let wr = write_by none x.behind in
        let c = empty (twice 124 wm) || begins 124 (twice 124 wm) in
        let k = begins 124 (twice 124 wr) in
        Separators.triple (triple_parted (write_by none x.before) wm wr c k refl refl)
        (separator_back x.before h.before)
        (parted-reads c wm x.between (λ z. first-not_mark wm (sym (ap₂ ◌||◌ (empty-twice wm) (begins-twice wm)) ∙ z)) (separator_back x.between h.between))
        (parted-reads k wr x.behind (λ z. bar_not_mark wr (sym (begins-twice wr) ∙ z)) (separator_back x.behind h.behind))

pub powers_back_lem : (x : Repeat) → FormedRepeat x → Powers (powers_back x) x.left x.middle_left x.middle_right x.right
powers_back_lem x h = go (eqb x.left 0 && (eqb x.middle_left 0 && (eqb x.middle_right 0 && eqb x.right 0))) refl
  where
    go : (b : Bool) → (eqb x.left 0 && (eqb x.middle_left 0 && (eqb x.middle_right 0 && eqb x.right 0))) ≡ b → Powers (cond b [] (124 ∷ numeral x.left ++ (124 ∷ numeral x.middle_left ++ (44 ∷ numeral x.middle_right ++ 124 ∷ numeral x.right)))) x.left x.middle_left x.middle_right x.right
    go true e =
        let p = and_parts (eqb x.left 0) (eqb x.middle_left 0 && (eqb x.middle_right 0 && eqb x.right 0)) e in
        let q = and_parts (eqb x.middle_left 0) (eqb x.middle_right 0 && eqb x.right 0) p.1 in
        let r = and_parts (eqb x.middle_right 0) (eqb x.right 0) q.1 in
        rw (eqb-true x.left 0 p.0, eqb-true x.middle_left 0 q.0, eqb-true x.middle_right 0 r.0, eqb-true x.right 0 r.1) Powers.none
    go false e = Powers.a_bc_d h.left h.middle_left h.middle_right h.right

-- where no `)$` stands in it, a repeat is read back
pub repeat_back_lem : (s : List ℕ) (x : Repeat) → All Index s → FormedRepeat x → closes (repeat_back s x) ≡ false → Repeats ReadsSeparator (repeat_back s x) s x
repeat_back_lem s x h k free = record {
  path = path s x.from;
  powers = powers_back x;
  separators = separators_back x;
  is = refl;
  first = free;
  steps = path-steps s x.from h k.from;
  index = k.to;
  given = powers_back_lem x k;
  three = separators_back_lem x k;
}
