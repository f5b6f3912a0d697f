-- The numbers of a template are the canonical decimals of 32 bits.
use Rattle.std.proofs.Common.{◌≡◌, ℕ, zero, suc, ◌+◌, ◌-◌, ◌*◌, ◌^◌, ◌<◌, ◌≤◌, Bool, true, false, cond, ◌||◌, eqb, leb, List, [], ◌∷◌, length, get_or, ℤ, pos, negsuc, neg_ℤ, Ok, Err, decimal, Result, sym, refl, ap, ◌∙◌, subst, arith, w32, SFits, rules}
use Rattle.std.proofs.lemmas.Bool.Decides.{nat_tests}
use Rattle.std.proofs.lemmas.Str.Parse.{IsNumeralModel, numerals_by_fold}
use Rattle.std.proofs.lemmas.Fmt.{digits_decimal, digits_value-decimal, first_decimal, decimal-digits_value, decimal_nonempty, decimal_digit}
use Rattle.std.specs.Str.{all_ascii_digits}
use Rattle.std.specs.Fmt.{signed_decimal}
use Rattle.refusal.specs.declared.error.FormatterError.TheVariants.{InvalidNumber, NumberOutOfRange}
use Rattle.grammar.specs.declared.defns.ChildIndex.{ChildIndex}
use Rattle.grammar.specs.Numbers.{is_digit, digits_from, signed_by, number_at, bits, int, numeral, power, power_at}
use Rattle.grammar.specs.Paths.{is_max, index_at}
use Rattle.grammar.specs.Readings.{Power, Index}
use Rattle.grammar.specs.Results.{refusal, Fault}
use Rattle.grammar.proofs.Bytes.{Each, Without, and_left, and_right, each_weaken, each_without}
use Rattle.grammar.proofs.Chains.{by_on_ok, same_ok, refused}

-- ---- the number that digits write
abbrev pub read_on : ℕ → List ℕ → ℕ
read_on n [] = n
read_on n (c ∷ cs) = read_on (n * 10 + (c - 48)) cs

pub own : IsNumeralModel (λ ds. all_ascii_digits ds ≡ true) (read_on 0)
own = numerals_by_fold _ (search rules) read_on (search rules)

read_on_ge : (cs : List ℕ) (n : ℕ) → n ≤ read_on n cs
read_on_ge [] n = omega arith
read_on_ge (c ∷ cs) n = omega (arith, read_on_ge cs (n * 10 + (c - 48)))

module _ (limit place whole : ℕ) where
  -- digits whose number does not pass the limit are accepted, with that number
  digits_ok : (cs : List ℕ) (n at : ℕ) → all_ascii_digits cs ≡ true → read_on n cs ≤ limit → digits_from limit place whole n at cs ≡ Ok (read_on n cs)
  digits_ok [] n at d h = refl
  digits_ok (c ∷ cs) n at d h =
      let a : is_digit c ≡ true = and_left (is_digit c) (all_ascii_digits cs) d in
      let k : leb (n * 10 + (c - 48)) limit ≡ true = grind (arith, nat_tests, read_on_ge cs (n * 10 + (c - 48))) in
      rw (a, k) (digits_ok cs (n * 10 + (c - 48)) (at + 1) (and_right (is_digit c) (all_ascii_digits cs) d) h)

  pub record Taken (cs : List ℕ) (n m : ℕ) : Type 0 where
    pub all : all_ascii_digits cs ≡ true
    pub number : read_on n cs ≡ m
    pub small : m ≤ limit

  ok_digits : (cs : List ℕ) (n at m : ℕ) → n ≤ limit → digits_from limit place whole n at cs ≡ Ok m → Taken cs n m
  ok_digits [] n at m h e = let same : n ≡ m = cc in record { all = refl; number = same; small = omega arith }
  ok_digits (c ∷ cs) n at m h e = go (is_digit c) (leb (n * 10 + (c - 48)) limit) refl refl (λ h'. ok_digits cs (n * 10 + (c - 48)) (at + 1) m h') e
    where
      go : (a k : Bool) → is_digit c ≡ a → leb (n * 10 + (c - 48)) limit ≡ k → (n * 10 + (c - 48) ≤ limit → digits_from limit place whole (n * 10 + (c - 48)) (at + 1) cs ≡ Ok m → Taken cs (n * 10 + (c - 48)) m) → cond a (cond k (digits_from limit place whole (n * 10 + (c - 48)) (at + 1) cs) (refusal NumberOutOfRange place whole)) (refusal InvalidNumber at (suc (length cs))) ≡ Ok m → Taken (c ∷ cs) n m
      go true true p q ih r =
          let small : n * 10 + (c - 48) ≤ limit = grind (arith, nat_tests) in
          let t = ih small r in
          record { all = rw (p, t.all); number = t.number; small = t.small }
      go true false p q ih r = let z : ◌≡◌ {A = ℕ} 0 1 = cc in absurd (omega arith)
      go false k p q ih r = let z : ◌≡◌ {A = ℕ} 0 1 = cc in absurd (omega arith)

-- the number behind a sign
by_sign : (f : ℕ → ℤ) (r : Result ℕ Fault) (z : ℤ) → signed_by f r ≡ Ok z → (m : ℕ) × (r ≡ Ok m) × (f m ≡ z)
by_sign f (Ok m) z e = (m, refl, cc)
by_sign f (Err x) z e = let b : ◌≡◌ {A = ℕ} 0 1 = cc in absurd (omega arith)

never : {P : Type 0} (e : Fault) (z : ℤ) → ◌≡◌ {A = Result ℤ Fault} (Err e) (Ok z) → P
never e z h = let b : ◌≡◌ {A = ℕ} 0 1 = cc in absurd (omega arith)

-- digits with no `0` in front
plain : (place whole at : ℕ) (cs : List ℕ) (m limit : ℕ) → 0 < length cs → (get_or cs 0 0 ≡ 48 → ⊥) → limit < 2 ^ 64 → digits_from limit place whole 0 at cs ≡ Ok m → (decimal m ≡ cs) × (m ≤ limit)
plain place whole at cs m limit some first small e =
    let t = ok_digits limit place whole cs 0 at m (omega arith) e in
    let fits : read_on 0 cs < 2 ^ 64 = omega (arith, t.number, t.small) in
    (rw (← t.number) (decimal-digits_value own cs t.all some (λ h. absurd (first h)) fits), t.small)

fits-pos : (m : ℕ) → m ≤ 2147483647 → SFits w32 (pos m)
fits-pos m h = record { sfits = omega arith }

fits_neg : (m : ℕ) → m ≤ 2147483648 → SFits w32 (neg_ℤ (pos m))
fits_neg zero h = record { sfits = omega arith }
fits_neg (suc m) h = record { sfits = omega arith }

-- an unsigned number, and one behind `-`
up : (place whole at : ℕ) (cs : List ℕ) (z : ℤ) → 0 < length cs → (get_or cs 0 0 ≡ 48 → ⊥) → signed_by pos (digits_from 2147483647 place whole 0 at cs) ≡ Ok z → (cs ≡ signed_decimal z) × SFits w32 z
up place whole at cs z some first e =
    let b = by_sign pos (digits_from 2147483647 place whole 0 at cs) z e in
    let t = plain place whole at cs b.0 2147483647 some first (omega arith) b.1 in
    (rw (← b.2) (sym t.0), rw (← b.2) (fits-pos b.0 t.1))

down : (place whole at : ℕ) (cs : List ℕ) (z : ℤ) → 0 < length cs → (get_or cs 0 0 ≡ 48 → ⊥) → signed_by (λ n. neg_ℤ (pos n)) (digits_from 2147483648 place whole 0 at cs) ≡ Ok z → (45 ∷ cs ≡ signed_decimal z) × SFits w32 z
down place whole at cs z some first e =
    let b = by_sign (λ n. neg_ℤ (pos n)) (digits_from 2147483648 place whole 0 at cs) z e in
    let t = plain place whole at cs b.0 2147483648 some first (omega arith) b.1 in
    (rw (← b.2) (minus b.0 t.0), rw (← b.2) (fits_neg b.0 t.1))
  where
    minus : (m : ℕ) → decimal m ≡ cs → 45 ∷ cs ≡ signed_decimal (neg_ℤ (pos m))
    minus zero h = absurd (first (ap (λ l. get_or l 0 0) (sym h ∙ decimal_digit 0 (omega arith))))
    minus (suc m) h = ap (λ l. 45 ∷ l) (sym h)

forth : (place : ℕ) (cs : List ℕ) (z : ℤ) → number_at place cs ≡ Ok z → (cs ≡ signed_decimal z) × SFits w32 z
forth place [] z e = never _ _ e
forth place (c ∷ []) z e = one (eqb c 48) (eqb c 45) refl refl e
  where
    one : (a b : Bool) → eqb c 48 ≡ a → eqb c 45 ≡ b → cond a (Ok (pos 0)) (cond b (refusal InvalidNumber place 1) (signed_by pos (digits_from 2147483647 place 1 0 place (c ∷ [])))) ≡ Ok z → (c ∷ [] ≡ signed_decimal z) × SFits w32 z
    one true b p q r =
        let zero-z : pos 0 ≡ z = cc in
        let zero-c : c ≡ 48 = grind (arith, nat_tests) in
        (rw (← zero-z, zero-c) (sym (decimal_digit 0 (omega arith))), rw (← zero-z) (fits-pos 0 (omega arith)))
    one false true p q r = never _ _ r
    one false false p q r = up place 1 place (c ∷ []) z (omega arith) (grind (arith, nat_tests)) r
forth place (c ∷ d ∷ cs) z e = two (eqb c 48) (eqb c 45) (eqb d 48) refl refl refl e
  where
    two : (a b k : Bool) → eqb c 48 ≡ a → eqb c 45 ≡ b → eqb d 48 ≡ k → cond a (refusal InvalidNumber place (length (c ∷ d ∷ cs))) (cond b (cond k (refusal InvalidNumber (place + 1) (length (d ∷ cs))) (signed_by (λ n. neg_ℤ (pos n)) (digits_from 2147483648 place (length (c ∷ d ∷ cs)) 0 (place + 1) (d ∷ cs)))) (signed_by pos (digits_from 2147483647 place (length (c ∷ d ∷ cs)) 0 place (c ∷ d ∷ cs)))) ≡ Ok z → (c ∷ d ∷ cs ≡ signed_decimal z) × SFits w32 z
    two true b k p q s r = never _ _ r
    two false true true p q s r = never _ _ r
    two false true false p q s r =
        let minus : c ≡ 45 = grind (arith, nat_tests) in
        rw minus (down place (length (c ∷ d ∷ cs)) (place + 1) (d ∷ cs) z (omega arith) (grind (arith, nat_tests)) r)
    two false false k p q s r = up place (length (c ∷ d ∷ cs)) place (c ∷ d ∷ cs) z (omega arith) (grind (arith, nat_tests)) r

up_ok : (place : ℕ) (cs : List ℕ) → 0 < length cs → 48 < get_or cs 0 0 → all_ascii_digits cs ≡ true → read_on 0 cs ≤ 2147483647 → number_at place cs ≡ Ok (pos (read_on 0 cs))
up_ok place [] some first all small = absurd (omega arith)
up_ok place (c ∷ []) some first all small =
    let a : eqb c 48 ≡ false = grind (arith, nat_tests) in
    let b : eqb c 45 ≡ false = grind (arith, nat_tests) in
    let t = digits_ok 2147483647 place 1 (c ∷ []) 0 place all small in
    rw (a, b) (ap (signed_by pos) t)
up_ok place (c ∷ d ∷ cs) some first all small =
    let a : eqb c 48 ≡ false = grind (arith, nat_tests) in
    let b : eqb c 45 ≡ false = grind (arith, nat_tests) in
    let t = digits_ok 2147483647 place (length (c ∷ d ∷ cs)) (c ∷ d ∷ cs) 0 place all small in
    rw (a, b) (ap (signed_by pos) t)

down_ok : (place : ℕ) (cs : List ℕ) → 0 < length cs → 48 < get_or cs 0 0 → all_ascii_digits cs ≡ true → read_on 0 cs ≤ 2147483648 → number_at place (45 ∷ cs) ≡ Ok (neg_ℤ (pos (read_on 0 cs)))
down_ok place [] some first all small = absurd (omega arith)
down_ok place (d ∷ cs) some first all small =
    let a : eqb d 48 ≡ false = grind (arith, nat_tests) in
    let t = digits_ok 2147483648 place (length (45 ∷ d ∷ cs)) (d ∷ cs) 0 (place + 1) all small in
    rw a (ap (signed_by (λ n. neg_ℤ (pos n))) t)

back : (place : ℕ) (cs : List ℕ) (z : ℤ) → cs ≡ signed_decimal z → SFits w32 z → number_at place cs ≡ Ok z
back place cs (pos zero) e f = rw (e, decimal_digit 0 (omega arith)) refl
back place cs (pos (suc m)) e f =
    let big : suc m < 2 ^ 64 = omega (arith, f.sfits) in
    let v = digits_value-decimal own (suc m) big in
    rw e (rw v at (up_ok place (decimal (suc m)) (decimal_nonempty (suc m) big) (first_decimal (suc m) (omega arith) big) (digits_decimal own (suc m) big) (omega (arith, f.sfits, v))))
back place cs (negsuc m) e f =
    let big : suc m < 2 ^ 64 = omega (arith, f.sfits) in
    let v = digits_value-decimal own (suc m) big in
    rw e (rw v at (down_ok place (decimal (suc m)) (decimal_nonempty (suc m) big) (first_decimal (suc m) (omega arith) big) (digits_decimal own (suc m) big) (omega (arith, f.sfits, v))))

-- ---- 32 bits
pub bits-int : (n : ℕ) → n < 4294967296 → bits (int n) ≡ n
bits-int n h = go (leb n 2147483647) refl
  where
    go : (b : Bool) → leb n 2147483647 ≡ b → bits (cond b (pos n) (negsuc (4294967295 - n))) ≡ n
    go true e = refl
    go false e = omega arith

pub int-bits : (z : ℤ) → SFits w32 z → int (bits z) ≡ z
int-bits (pos n) f =
    let small : leb n 2147483647 ≡ true = grind (arith, nat_tests, f.sfits) in
    rw small
int-bits (negsuc n) f =
    let fits : n < 2147483648 = omega (arith, f.sfits) in
    let large : leb (4294967295 - n) 2147483647 ≡ false = grind (arith, nat_tests) in
    let again : 4294967295 - (4294967295 - n) ≡ n = omega arith in
    rw (large, again)

pub signed_bits : (z : ℤ) → SFits w32 z → signed_decimal z ≡ numeral (bits z)
signed_bits (pos n) f =
    let small : leb n 2147483647 ≡ true = grind (arith, nat_tests, f.sfits) in
    rw small
signed_bits (negsuc n) f =
    let fits : n < 2147483648 = omega (arith, f.sfits) in
    let large : leb (4294967295 - n) 2147483647 ≡ false = grind (arith, nat_tests) in
    let again : 4294967296 - (4294967295 - n) ≡ suc n = omega arith in
    rw (large, again)

pub int-fits : (n : ℕ) → n < 4294967296 → SFits w32 (int n)
int-fits n h = go (leb n 2147483647) refl
  where
    go : (b : Bool) → leb n 2147483647 ≡ b → SFits w32 (cond b (pos n) (negsuc (4294967295 - n)))
    go true e = fits-pos n (grind (arith, nat_tests))
    go false e = let big : 2147483648 ≤ n = grind (arith, nat_tests) in record { sfits = omega arith }

bits_fit : (z : ℤ) → SFits w32 z → bits z < 4294967296
bits_fit (pos n) f = omega (arith, f.sfits)
bits_fit (negsuc n) f = omega arith

-- ---- a number
pub number_forth : (place : ℕ) (cs : List ℕ) (z : ℤ) → number_at place cs ≡ Ok z → (cs ≡ numeral (bits z)) × (bits z < 4294967296) × (z ≡ int (bits z))
number_forth place cs z e =
    let t = forth place cs z e in
    (t.0 ∙ signed_bits z t.1, bits_fit z t.1, sym (int-bits z t.1))

pub number_back : (place n : ℕ) → n < 4294967296 → number_at place (numeral n) ≡ Ok (int n)
number_back place n h =
    let same : numeral n ≡ signed_decimal (int n) = ap numeral (sym (bits-int n h)) ∙ sym (signed_bits (int n) (int-fits n h)) in
    back place (numeral n) (int n) same (int-fits n h)

-- ---- a power
pub power_forth : (place : ℕ) (cs : List ℕ) (n : ℕ) → power_at place cs ≡ Ok n → (cs ≡ numeral n) × Power n
power_forth place cs n e =
    let b = by_on_ok (number_at place cs) (λ z. Ok (power z)) n e in
    let t = number_forth place cs b.0 b.1 in
    let is : bits b.0 ≡ n = same_ok _ _ b.2 in
    (t.0 ∙ ap numeral is, subst (λ (m : ℕ). m < 4294967296) is t.1)

pub power-back : (place n : ℕ) → Power n → power_at place (numeral n) ≡ Ok n
power-back place n h = rw (number_back place n h) (ap (λ (m : ℕ). Ok m) (bits-int n h))

-- ---- an index
max_no : (z : ℤ) → is_max z ≡ false → z ≡ int (bits z) → bits z ≡ 2147483647 → ⊥
max_no z e i h =
    let is : z ≡ pos 2147483647 = i ∙ ap int h in
    let b : is_max (pos 2147483647) ≡ false = rw is at e in
    let c : ◌≡◌ {A = ℕ} 0 1 = cc in
    omega arith

no_max : (n : ℕ) → (n ≡ 2147483647 → ⊥) → is_max (int n) ≡ false
no_max n h = go (leb n 2147483647)
  where
    go : (b : Bool) → is_max (cond b (pos n) (negsuc (4294967295 - n))) ≡ false
    go true = grind (arith, nat_tests)
    go false = refl

pub index_forth : (place : ℕ) (cs : List ℕ) (i : ChildIndex) → index_at place cs ≡ Ok i → (cs ≡ numeral (bits i.0)) × Index (bits i.0)
index_forth place cs i e =
    let b = by_on_ok (number_at place cs) (λ z. cond (is_max z) (refusal InvalidNumber place (length cs)) (Ok (record { 0 = z }))) i e in
    go b.0 b.1 (is_max b.0) refl b.2
  where
    go : (z : ℤ) → number_at place cs ≡ Ok z → (k : Bool) → is_max z ≡ k → cond k (refusal InvalidNumber place (length cs)) (Ok (record { 0 = z })) ≡ Ok i → (cs ≡ numeral (bits i.0)) × Index (bits i.0)
    go z n true p q = refused _ _ q
    go z n false p q =
        let is : z ≡ i.0 = ap (λ (w : ChildIndex). w.0) (same_ok _ _ q) in
        let t = number_forth place cs z n in
        subst (λ (w : ℤ). (cs ≡ numeral (bits w)) × Index (bits w)) is (t.0, (t.1, max_no z p t.2))

pub index_back : (place n : ℕ) → Index n → index_at place (numeral n) ≡ Ok (record { 0 = int n })
index_back place n i = rw (number_back place n i.0, no_max n i.1)

-- ---- the bytes of a numeral
abbrev pub is_numeral : ℕ → Bool
is_numeral c = eqb c 45 || is_digit c

digit_numeral : (c : ℕ) → is_digit c ≡ true → is_numeral c ≡ true
digit_numeral c h = grind (arith, nat_tests)

each_digits : (cs : List ℕ) → all_ascii_digits cs ≡ true → Each is_digit cs
each_digits [] h = tt
each_digits (c ∷ cs) h = (and_left (is_digit c) (all_ascii_digits cs) h, each_digits cs (and_right (is_digit c) (all_ascii_digits cs) h))

each_decimal : (n : ℕ) → n < 2 ^ 64 → Each is_numeral (decimal n)
each_decimal n h = each_weaken is_digit is_numeral digit_numeral (decimal n) (each_digits (decimal n) (digits_decimal own n h))

pub numeral-bytes : (n : ℕ) → n < 4294967296 → Each is_numeral (numeral n)
numeral-bytes n h = go (leb n 2147483647)
  where
    go : (b : Bool) → Each is_numeral (cond b (decimal n) (45 ∷ decimal (4294967296 - n)))
    go true = each_decimal n (omega arith)
    go false = (refl, each_decimal (4294967296 - n) (omega arith))

-- no byte that is neither a digit nor 45 occurs in a numeral
pub numeral-without : (m : ℕ) → is_numeral m ≡ false → (n : ℕ) → n < 4294967296 → Without m (numeral n)
numeral-without m h n k = each_without is_numeral m h (numeral n) (numeral-bytes n k)
