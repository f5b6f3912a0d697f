-- The readers of powers accept just the powers of the grammar.
use Rattle.std.proofs.Common.{◌≡◌, ℕ, ◌+◌, ◌-◌, Bool, true, false, cond, ◌||◌, eqb, List, [], ◌∷◌, ◌++◌, length, Ok, Result, sym, refl, ap, ◌∙◌, subst, append_assoc, arith}
use Rattle.refusal.specs.declared.error.FormatterError.TheVariants.{TooManyControl, UnexpectedPair}
use Rattle.refusal.specs.declared.error.PartingMark.TheVariants.{Comma, Bar}
use Rattle.grammar.specs.declared.defns.BindPowerPair.{BindPowerPair}
use Rattle.grammar.specs.Grammar.{Pair, one, two, Powers, none, a as all, ab, a_b, ab_c, a_bc, a_b_c, a_bc_d}
use Rattle.grammar.specs.Numbers.{power_at, numeral}
use Rattle.grammar.specs.Powers.{asymmetric, symmetric, second_power, pair_at, last_field, Triple, behind_single, powers_at}
use Rattle.grammar.specs.Readings.{Power}
use Rattle.grammar.specs.Results.{on_ok, refusal, Fault}
use Rattle.grammar.proofs.Bytes.{Each, Without, each_append, each_weaken, each_without, orb_right}
use Rattle.grammar.proofs.Chains.{by_on_ok, same_ok, refused}
use Rattle.grammar.proofs.MarksFound.{Cut, whole, parted, cut, up_to_at, whole_test, whole_take, parted_test, parted-take, parted-drop}
use Rattle.grammar.proofs.Numerals.{power_forth, power-back, is_numeral, numeral-bytes, numeral-without}

-- ---- a pair, with whether two numbers stand there
pub data PairBy : List ℕ → Bool → BindPowerPair → Type 0 where
  single : {n : ℕ} → Power n → PairBy (numeral n) false (symmetric n)
  double : {l r : ℕ} → Power l → Power r → PairBy (numeral l ++ 44 ∷ numeral r) true (asymmetric l r)

pub unflagged : {cs : List ℕ} {b : Bool} {q : BindPowerPair} → PairBy cs b q → Pair cs q.left q.right
unflagged (single h) = one h
unflagged (double h k) = two h k

-- the definitions where there is no comma, and at the first comma
pair_whole : (place : ℕ) (cs : List ℕ) → Without 44 cs → pair_at place cs ≡ on_ok (power_at place cs) (λ n. Ok (false, symmetric n))
pair_whole place cs h = rw (whole_test 44 cs h)

pair_parted : (place : ℕ) (a b : List ℕ) → Without 44 a → pair_at place (a ++ 44 ∷ b) ≡ on_ok (power_at place a) (λ l. second_power l (place + (length a + 1)) b)
pair_parted place a b h = rw (parted_test 44 a b h, parted-take 44 a b h, parted-drop 44 a b h, up_to_at 44 a b h)

second_whole : (l place : ℕ) (cs : List ℕ) → Without 44 cs → second_power l place cs ≡ on_ok (power_at place cs) (λ r. Ok (true, asymmetric l r))
second_whole l place cs h = rw (whole_test 44 cs h, whole_take 44 cs h)

second_parted : (l place : ℕ) (a b : List ℕ) → Without 44 a → second_power l place (a ++ 44 ∷ b) ≡ on_ok (power_at place a) (λ r. refusal (TooManyControl Comma) (place + (length a + 1)) (length (a ++ 44 ∷ b) - (length a + 1)))
second_parted l place a b h = rw (parted_test 44 a b h, parted-take 44 a b h, up_to_at 44 a b h)

second_forth : (l place : ℕ) (cs : List ℕ) (p : Bool × BindPowerPair) → Cut 44 cs → second_power l place cs ≡ Ok p → (r : ℕ) × (cs ≡ numeral r) × Power r × ((true, asymmetric l r) ≡ p)
second_forth l place cs p (whole h) e =
    let b = by_on_ok (power_at place cs) (λ r. Ok (true, asymmetric l r)) p (sym (second_whole l place cs h) ∙ e) in
    let t = power_forth place cs b.0 b.1 in
    (b.0, t.0, t.1, same_ok _ _ b.2)
second_forth l place cs p (parted a c h) e =
    let b = by_on_ok (power_at place a) (λ r. refusal (TooManyControl Comma) (place + (length a + 1)) (length (a ++ 44 ∷ c) - (length a + 1))) p (sym (second_parted l place a c h) ∙ e) in
    refused _ _ b.2

abbrev Flagged : List ℕ → Bool × BindPowerPair → Type 0
Flagged cs p = PairBy cs p.0 p.1

two_numbers : (a b : List ℕ) (l r : ℕ) → a ≡ numeral l → b ≡ numeral r → Power l → Power r → PairBy (a ++ 44 ∷ b) true (asymmetric l r)
two_numbers a b l r e f h k = rw (e, f) (double h k)

pair_by : (place : ℕ) (cs : List ℕ) (p : Bool × BindPowerPair) → Cut 44 cs → pair_at place cs ≡ Ok p → Flagged cs p
pair_by place cs p (whole h) e =
    let b = by_on_ok (power_at place cs) (λ n. Ok (false, symmetric n)) p (sym (pair_whole place cs h) ∙ e) in
    let t = power_forth place cs b.0 b.1 in
    subst (λ (q : Bool × BindPowerPair). Flagged cs q) (same_ok _ _ b.2) (subst (λ (l : List ℕ). PairBy l false (symmetric b.0)) (sym t.0) (single t.1))
pair_by place cs p (parted a c h) e =
    let b = by_on_ok (power_at place a) (λ l. second_power l (place + (length a + 1)) c) p (sym (pair_parted place a c h) ∙ e) in
    let t = power_forth place a b.0 b.1 in
    let s = second_forth b.0 (place + (length a + 1)) c p (cut 44 c) b.2 in
    subst (λ (q : Bool × BindPowerPair). Flagged (a ++ 44 ∷ c) q) s.3 (two_numbers a c b.0 s.0 t.0 s.1 t.1 s.2)

pub pair_by_forth : (place : ℕ) (cs : List ℕ) (p : Bool × BindPowerPair) → pair_at place cs ≡ Ok p → PairBy cs p.0 p.1
pair_by_forth place cs p e = pair_by place cs p (cut 44 cs) e

pub pair_by_back : (place : ℕ) {cs : List ℕ} {b : Bool} {q : BindPowerPair} → PairBy cs b q → pair_at place cs ≡ Ok (b, q)
pair_by_back place (single {n} h) = pair_whole place (numeral n) (numeral-without 44 refl n h) ∙ rw (power-back place n h)
pair_by_back place (double {l} {r} h k) =
    pair_parted place (numeral l) (numeral r) (numeral-without 44 refl l h)
    ∙ rw (power-back place l h) (second_whole l (place + (length (numeral l) + 1)) (numeral r) (numeral-without 44 refl r k) ∙ rw (power-back (place + (length (numeral l) + 1)) r k))

pub pair_forth : (place : ℕ) (cs : List ℕ) (p : Bool × BindPowerPair) → pair_at place cs ≡ Ok p → Pair cs p.1.left p.1.right
pair_forth place cs p e = unflagged (pair_by_forth place cs p e)

pub pair_back_lem : (place : ℕ) {cs : List ℕ} {l r : ℕ} → Pair cs l r → (b : Bool) × (pair_at place cs ≡ Ok (b, asymmetric l r))
pair_back_lem place (one h) = (false, pair_by_back place (single h))
pair_back_lem place (two h k) = (true, pair_by_back place (double h k))

-- ---- the bytes of a pair
abbrev pub is_pair : ℕ → Bool
is_pair c = eqb c 44 || is_numeral c

each_power : (n : ℕ) → Power n → Each is_pair (numeral n)
each_power n h = each_weaken is_numeral is_pair (λ c. orb_right (eqb c 44) (is_numeral c)) (numeral n) (numeral-bytes n h)

pub pair_bytes : {cs : List ℕ} {l r : ℕ} → Pair cs l r → Each is_pair cs
pair_bytes (one {n} h) = each_power n h
pair_bytes (two {l} {r} h k) = each_append is_pair (numeral l) (44 ∷ numeral r) (each_power l h) (refl, each_power r k)

pub pair_without : (m : ℕ) → is_pair m ≡ false → {cs : List ℕ} {l r : ℕ} → Pair cs l r → Without m cs
pair_without m h {cs} p = each_without is_pair m h cs (pair_bytes p)

pair_by_without : {cs : List ℕ} {b : Bool} {q : BindPowerPair} → PairBy cs b q → Without 124 cs
pair_by_without p = pair_without 124 refl (unflagged p)

-- ---- the last field of a repeat's powers
last_whole : (place : ℕ) (cs : List ℕ) → Without 124 cs → last_field place cs ≡ on_ok (pair_at place cs) (λ p. cond p.0 (refusal UnexpectedPair place (length cs)) (Ok p.1.left))
last_whole place cs h = rw (whole_test 124 cs h)

last_parted : (place : ℕ) (x y : List ℕ) → Without 124 x → last_field place (x ++ 124 ∷ y) ≡ refusal (TooManyControl Bar) (place + (length x + 1)) (length (x ++ 124 ∷ y) - (length x + 1))
last_parted place x y h = rw (parted_test 124 x y h, up_to_at 124 x y h)

last_forth : (place : ℕ) (cs : List ℕ) (d : ℕ) → Cut 124 cs → last_field place cs ≡ Ok d → (cs ≡ numeral d) × Power d
last_forth place cs d (whole h) e =
    let b = by_on_ok (pair_at place cs) (λ p. cond p.0 (refusal UnexpectedPair place (length cs)) (Ok p.1.left)) d (sym (last_whole place cs h) ∙ e) in
    go (pair_by_forth place cs b.0 b.1) (length cs) b.2
  where
    go : {u : List ℕ} {k : Bool} {q : BindPowerPair} → PairBy u k q → (n : ℕ) → cond k (refusal UnexpectedPair place n) (Ok q.left) ≡ Ok d → (u ≡ numeral d) × Power d
    go (single {n} h) m e =
        let is : n ≡ d = same_ok _ _ e in
        (ap numeral is, subst (λ (x : ℕ). Power x) is h)
    go (double h k) m e = refused _ _ e
last_forth place cs d (parted x y h) e = refused _ _ (sym (last_parted place x y h) ∙ e)

last_back : (place d : ℕ) → Power d → last_field place (numeral d) ≡ Ok d
last_back place d h = last_whole place (numeral d) (numeral-without 124 refl d h) ∙ rw (pair_by_back place (single h))

-- ---- the definitions where there is no further bar, and at the first one
behind_whole : (n place : ℕ) (cs : List ℕ) → Without 124 cs → behind_single n place cs ≡ on_ok (pair_at place cs) (λ p. cond p.0 (Ok (n, p.1, 0)) (Ok (n, symmetric 0, p.1.left)))
behind_whole n place cs h = rw (whole_test 124 cs h, whole_take 124 cs h)

behind_parted : (n place : ℕ) (x y : List ℕ) → Without 124 x → behind_single n place (x ++ 124 ∷ y) ≡ on_ok (pair_at place x) (λ p. on_ok (last_field (place + (length x + 1)) y) (λ d. Ok (n, p.1, d)))
behind_parted n place x y h = rw (parted_test 124 x y h, parted-take 124 x y h, parted-drop 124 x y h, up_to_at 124 x y h)

powers_whole : (place : ℕ) (cs : List ℕ) → Without 124 cs → powers_at place cs ≡ on_ok (pair_at place cs) (λ p. cond p.0 (Ok (0, p.1, 0)) (Ok (p.1.left, p.1, p.1.left)))
powers_whole place cs h = rw (whole_test 124 cs h, whole_take 124 cs h)

abbrev behind_pair : ℕ → List ℕ → Bool × BindPowerPair → Result Triple Fault
behind_pair place cs p = cond p.0 (on_ok (last_field place cs) (λ c. Ok (0, p.1, c))) (behind_single p.1.left place cs)

powers_parted : (place : ℕ) (x y : List ℕ) → Without 124 x → powers_at place (x ++ 124 ∷ y) ≡ on_ok (pair_at place x) (behind_pair (place + (length x + 1)) y)
powers_parted place x y h = rw (parted_test 124 x y h, parted-take 124 x y h, parted-drop 124 x y h, up_to_at 124 x y h)

-- ---- what the reader accepts is in the grammar
abbrev Given : List ℕ → Triple → Type 0
Given cs t = Powers (124 ∷ cs) t.0 t.1.left t.1.right t.2

join : (x : List ℕ) (n : ℕ) {a b c d : ℕ} → (f : List ℕ → List ℕ) → Powers (f (x ++ (44 ∷ numeral n ++ 124 ∷ numeral d))) a b c d → Powers (f ((x ++ 44 ∷ numeral n) ++ 124 ∷ numeral d)) a b c d
join x n {a} {b} {c} {d} f p = subst (λ (l : List ℕ). Powers (f l) a b c d) (sym (append_assoc x (44 ∷ numeral n) (124 ∷ numeral d))) p

given_three : (n : ℕ) → Power n → {x : List ℕ} {k : Bool} {q : BindPowerPair} → PairBy x k q → (d : ℕ) → Power d → Given (numeral n ++ 124 ∷ (x ++ 124 ∷ numeral d)) (n, q, d)
given_three n h (single i) d j = a_b_c h i j
given_three n h (double {l} {r} i k) d j = join (numeral l) r (λ (u : List ℕ). 124 ∷ numeral n ++ 124 ∷ u) (a_bc_d h i k j)

given_two : (n : ℕ) → Power n → (t : Triple) → {x : List ℕ} {k : Bool} {q : BindPowerPair} → PairBy x k q → ◌≡◌ {A = Result Triple Fault} (cond k (Ok (n, q, 0)) (Ok (n, symmetric 0, q.left))) (Ok t) → Given (numeral n ++ 124 ∷ x) t
given_two n h t (single {n = m} i) e = subst (λ (u : Triple). Given (numeral n ++ 124 ∷ numeral m) u) (same_ok _ _ e) (a_b h i)
given_two n h t (double {l} {r} i j) e = subst (λ (u : Triple). Given (numeral n ++ 124 ∷ (numeral l ++ 44 ∷ numeral r)) u) (same_ok _ _ e) (a_bc h i j)

behind_forth : (n : ℕ) → Power n → (place : ℕ) (cs : List ℕ) (t : Triple) → Cut 124 cs → behind_single n place cs ≡ Ok t → Given (numeral n ++ 124 ∷ cs) t
behind_forth n h place cs t (whole w) e =
    let b = by_on_ok (pair_at place cs) (λ p. cond p.0 (Ok (n, p.1, 0)) (Ok (n, symmetric 0, p.1.left))) t (sym (behind_whole n place cs w) ∙ e) in
    given_two n h t (pair_by_forth place cs b.0 b.1) b.2
behind_forth n h place cs t (parted x y w) e =
    let b = by_on_ok (pair_at place x) (λ p. on_ok (last_field (place + (length x + 1)) y) (λ d. Ok (n, p.1, d))) t (sym (behind_parted n place x y w) ∙ e) in
    go b.0 (pair_by_forth place x b.0 b.1) b.2
  where
    go : (p : Bool × BindPowerPair) → PairBy x p.0 p.1 → on_ok (last_field (place + (length x + 1)) y) (λ d. Ok (n, p.1, d)) ≡ Ok t → Given (numeral n ++ 124 ∷ (x ++ 124 ∷ y)) t
    go p i f =
        let c = by_on_ok (last_field (place + (length x + 1)) y) (λ d. Ok (n, p.1, d)) t f in
        let l = last_forth (place + (length x + 1)) y c.0 (cut 124 y) c.1 in
        subst (λ (u : Triple). Given (numeral n ++ 124 ∷ (x ++ 124 ∷ y)) u) (same_ok _ _ c.2)
        (subst (λ (v : List ℕ). Given (numeral n ++ 124 ∷ (x ++ 124 ∷ v)) (n, p.1, c.0)) (sym l.0) (given_three n h i c.0 l.1))

given-one : (t : Triple) → {x : List ℕ} {k : Bool} {q : BindPowerPair} → PairBy x k q → ◌≡◌ {A = Result Triple Fault} (cond k (Ok (0, q, 0)) (Ok (q.left, q, q.left))) (Ok t) → Given x t
given-one t (single {n = m} i) e = subst (λ (u : Triple). Given (numeral m) u) (same_ok _ _ e) (all i)
given-one t (double {l} {r} i j) e = subst (λ (u : Triple). Given (numeral l ++ 44 ∷ numeral r) u) (same_ok _ _ e) (ab i j)

given-first : (place : ℕ) (y : List ℕ) (t : Triple) → {x : List ℕ} {k : Bool} {q : BindPowerPair} → PairBy x k q → behind_pair place y (k, q) ≡ Ok t → Given (x ++ 124 ∷ y) t
given-first place y t (single {n = m} i) e = behind_forth m i place y t (cut 124 y) e
given-first place y t (double {l} {r} i j) e =
    let c = by_on_ok (last_field place y) (λ c. Ok (0, asymmetric l r, c)) t e in
    let f = last_forth place y c.0 (cut 124 y) c.1 in
    subst (λ (u : Triple). Given ((numeral l ++ 44 ∷ numeral r) ++ 124 ∷ y) u) (same_ok _ _ c.2)
    (subst (λ (v : List ℕ). Given ((numeral l ++ 44 ∷ numeral r) ++ 124 ∷ v) (0, asymmetric l r, c.0)) (sym f.0)
    (join (numeral l) r (λ (u : List ℕ). 124 ∷ u) (ab_c i j f.1)))

forth : (place : ℕ) (cs : List ℕ) (t : Triple) → Cut 124 cs → powers_at place cs ≡ Ok t → Given cs t
forth place cs t (whole w) e =
    let b = by_on_ok (pair_at place cs) (λ p. cond p.0 (Ok (0, p.1, 0)) (Ok (p.1.left, p.1, p.1.left))) t (sym (powers_whole place cs w) ∙ e) in
    given-one t (pair_by_forth place cs b.0 b.1) b.2
forth place cs t (parted x y w) e =
    let b = by_on_ok (pair_at place x) (behind_pair (place + (length x + 1)) y) t (sym (powers_parted place x y w) ∙ e) in
    given-first (place + (length x + 1)) y t (pair_by_forth place x b.0 b.1) b.2

pub powers_forth : (place : ℕ) (cs : List ℕ) (t : Triple) → powers_at place cs ≡ Ok t → Powers (124 ∷ cs) t.0 t.1.left t.1.right t.2
powers_forth place cs t e = forth place cs t (cut 124 cs) e

-- ---- what is in the grammar is accepted
first_back : (place : ℕ) {x : List ℕ} {k : Bool} {q : BindPowerPair} → PairBy x k q → powers_at place x ≡ cond k (Ok (0, q, 0)) (Ok (q.left, q, q.left))
first_back place {x} p = powers_whole place x (pair_by_without p) ∙ rw (pair_by_back place p)

parted-back : (place : ℕ) {x : List ℕ} {k : Bool} {q : BindPowerPair} → PairBy x k q → (y : List ℕ) → powers_at place (x ++ 124 ∷ y) ≡ behind_pair (place + (length x + 1)) y (k, q)
parted-back place {x} p y = powers_parted place x y (pair_by_without p) ∙ rw (pair_by_back place p)

second_back : (n place : ℕ) {x : List ℕ} {k : Bool} {q : BindPowerPair} → PairBy x k q → behind_single n place x ≡ cond k (Ok (n, q, 0)) (Ok (n, symmetric 0, q.left))
second_back n place {x} p = behind_whole n place x (pair_by_without p) ∙ rw (pair_by_back place p)

third_back : (n place : ℕ) {x : List ℕ} {k : Bool} {q : BindPowerPair} → PairBy x k q → (d : ℕ) → Power d → behind_single n place (x ++ 124 ∷ numeral d) ≡ Ok (n, q, d)
third_back n place {x} p d h = behind_parted n place x (numeral d) (pair_by_without p) ∙ rw (pair_by_back place p, last_back (place + (length x + 1)) d h)

abbrev Accepted : ℕ → List ℕ → Triple → Type 0
Accepted place cs t = powers_at place cs ≡ Ok t

unjoin : (place : ℕ) (f : List ℕ → List ℕ) (x : List ℕ) (n d : ℕ) (t : Triple) → Accepted place (f ((x ++ 44 ∷ numeral n) ++ 124 ∷ numeral d)) t → Accepted place (f (x ++ (44 ∷ numeral n ++ 124 ∷ numeral d))) t
unjoin place f x n d t p = subst (λ (l : List ℕ). Accepted place (f l) t) (append_assoc x (44 ∷ numeral n) (124 ∷ numeral d)) p

bare : (place : ℕ) (x cs : List ℕ) (t : Triple) → 124 ∷ x ≡ 124 ∷ cs → Accepted place x t → Accepted place cs t
bare place x cs t e p = let same : x ≡ cs = cc in subst (λ (l : List ℕ). Accepted place l t) same p

-- the place behind a field and its bar
abbrev past : ℕ → List ℕ → ℕ
past place x = place + (length x + 1)

back : (place : ℕ) {u : List ℕ} {a b c d : ℕ} → Powers u a b c d → (cs : List ℕ) → u ≡ 124 ∷ cs → powers_at place cs ≡ Ok (a, asymmetric b c, d)
back place none cs e = let z : ◌≡◌ {A = ℕ} 0 1 = cc in absurd (omega arith)
back place (all {a} h) cs e = bare place (numeral a) cs (a, symmetric a, a) e (first_back place (single h))
back place (ab {a} {b} h i) cs e = bare place (numeral a ++ 44 ∷ numeral b) cs (0, asymmetric a b, 0) e (first_back place (double h i))
back place (a_b {a} {b} h i) cs e =
    bare place (numeral a ++ 124 ∷ numeral b) cs (a, symmetric 0, b) e
    (parted-back place (single h) (numeral b) ∙ second_back a (past place (numeral a)) (single i))
back place (ab_c {a} {b} {c} h i j) cs e =
    bare place (numeral a ++ (44 ∷ numeral b ++ 124 ∷ numeral c)) cs (0, asymmetric a b, c) e
    (unjoin place (λ (u : List ℕ). u) (numeral a) b c (0, asymmetric a b, c)
    (parted-back place (double h i) (numeral c) ∙ rw (last_back (past place (numeral a ++ 44 ∷ numeral b)) c j)))
back place (a_bc {a} {b} {c} h i j) cs e =
    bare place (numeral a ++ 124 ∷ (numeral b ++ 44 ∷ numeral c)) cs (a, asymmetric b c, 0) e
    (parted-back place (single h) (numeral b ++ 44 ∷ numeral c) ∙ second_back a (past place (numeral a)) (double i j))
back place (a_b_c {a} {b} {c} h i j) cs e =
    bare place (numeral a ++ 124 ∷ (numeral b ++ 124 ∷ numeral c)) cs (a, symmetric b, c) e
    (parted-back place (single h) (numeral b ++ 124 ∷ numeral c) ∙ third_back a (past place (numeral a)) (single i) c j)
back place (a_bc_d {a} {b} {c} {d} h i j k) cs e =
    bare place (numeral a ++ 124 ∷ (numeral b ++ (44 ∷ numeral c ++ 124 ∷ numeral d))) cs (a, asymmetric b c, d) e
    (unjoin place (λ (u : List ℕ). numeral a ++ 124 ∷ u) (numeral b) c d (a, asymmetric b c, d)
    (parted-back place (single h) ((numeral b ++ 44 ∷ numeral c) ++ 124 ∷ numeral d) ∙ third_back a (past place (numeral a)) (double i j) d k))

pub powers_back_lem : (place : ℕ) {cs : List ℕ} {a b c d : ℕ} → Powers (124 ∷ cs) a b c d → powers_at place cs ≡ Ok (a, asymmetric b c, d)
powers_back_lem place {cs} p = back place p cs refl

-- ---- the bytes of a repeat's powers
abbrev pub is_powers : ℕ → Bool
is_powers c = eqb c 124 || is_pair c

fielded : (n : ℕ) → Power n → Each is_powers (numeral n)
fielded n h = each_weaken is_pair is_powers (λ c. orb_right (eqb c 124) (is_pair c)) (numeral n) (each_power n h)

-- a number, a mark and what follows
field : (m : ℕ) → is_powers m ≡ true → (n : ℕ) → Power n → (u : List ℕ) → Each is_powers u → Each is_powers (numeral n ++ m ∷ u)
field m e n h u k = each_append is_powers (numeral n) (m ∷ u) (fielded n h) (e, k)

pub powers_bytes : {u : List ℕ} {a b c d : ℕ} → Powers u a b c d → Each is_powers u
powers_bytes none = tt
powers_bytes (all {a} h) = (refl, fielded a h)
powers_bytes (ab {a} {b} h i) = (refl, field 44 refl a h (numeral b) (fielded b i))
powers_bytes (a_b {a} {b} h i) = (refl, field 124 refl a h (numeral b) (fielded b i))
powers_bytes (ab_c {a} {b} {c} h i j) = (refl, field 44 refl a h _ (field 124 refl b i (numeral c) (fielded c j)))
powers_bytes (a_bc {a} {b} {c} h i j) = (refl, field 124 refl a h _ (field 44 refl b i (numeral c) (fielded c j)))
powers_bytes (a_b_c {a} {b} {c} h i j) = (refl, field 124 refl a h _ (field 124 refl b i (numeral c) (fielded c j)))
powers_bytes (a_bc_d {a} {b} {c} {d} h i j k) = (refl, field 124 refl a h _ (field 44 refl b i _ (field 124 refl c j (numeral d) (fielded d k))))

pub powers_without : (m : ℕ) → is_powers m ≡ false → {u : List ℕ} {a b c d : ℕ} → Powers u a b c d → Without m u
powers_without m h {u} p = each_without is_powers m h u (powers_bytes p)

-- unwritten powers, or a bar and what stands behind it
pub data PowersBegin : List ℕ → ℕ → ℕ → ℕ → ℕ → Type 0 where
  absent : PowersBegin [] 0 0 0 0
  barred : {cs : List ℕ} {a b c d : ℕ} → Powers (124 ∷ cs) a b c d → PowersBegin (124 ∷ cs) a b c d

pub powers_begin : {u : List ℕ} {a b c d : ℕ} → Powers u a b c d → PowersBegin u a b c d
powers_begin none = absent
powers_begin (all h) = barred (all h)
powers_begin (ab h i) = barred (ab h i)
powers_begin (a_b h i) = barred (a_b h i)
powers_begin (ab_c h i j) = barred (ab_c h i j)
powers_begin (a_bc h i j) = barred (a_bc h i j)
powers_begin (a_b_c h i j) = barred (a_b_c h i j)
powers_begin (a_bc_d h i j k) = barred (a_bc_d h i j k)
