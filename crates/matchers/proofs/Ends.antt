-- What stands at both ends of a text.
use Rattle.std.proofs.Common.{◌≡◌, ℕ, suc, ◌+◌, ◌-◌, ◌<◌, ◌≤◌, true, cond, ◌&&◌, eqb, ltb, List, [], ◌∷◌, ◌++◌, length, get_or, take, sym, refl, ap, ◌∙◌, ⊎_elim, arith}
use native.Mathlib.Numerals.{unary_clauses}
use Rattle.std.proofs.lemmas.Bool.Decides.{nat_tests}
use Rattle.std.proofs.str.Laws.{order}
use Rattle.std.proofs.lemmas.List.{append_assoc, reverse-append, take_more, take_all}
use Rattle.grammar.specs.Marks.{begins, ends}
use Rattle.grammar.specs.Matchers.{blanks}

last_byte : (m : ℕ) (cs : List ℕ) → 0 < length cs → ends m cs ≡ eqb (get_or cs (length cs - 1) 0) m
last_byte m [] h = absurd (omega arith)
last_byte m (c ∷ []) h = refl
last_byte m (c ∷ d ∷ cs) h = simp unary_clauses (simp unary_clauses at (last_byte m (d ∷ cs) (omega arith)))

-- the tests of both ends, by the bytes that stand there
pub begins_by : (m : ℕ) (cs : List ℕ) → begins m cs ≡ (ltb 0 (length cs) && eqb (get_or cs 0 0) m)
begins_by m [] = refl
begins_by m (c ∷ cs) = let some : ltb 0 (suc (length cs)) ≡ true = grind (arith, nat_tests) in rw some refl

pub ends_by : (m : ℕ) (cs : List ℕ) → ends m cs ≡ (ltb 0 (length cs) && eqb (get_or cs (length cs - 1) 0) m)
ends_by m [] = refl
ends_by m (c ∷ cs) = let some : ltb 0 (suc (length cs)) ≡ true = grind (arith, nat_tests) in rw some (last_byte m (c ∷ cs) (omega arith))

-- ---- ` _` at the end
two_more : (cs : List ℕ) (n : ℕ) → n + 2 ≤ length cs → take (n + 2) cs ≡ take n cs ++ get_or cs n 0 ∷ get_or cs (n + 1) 0 ∷ []
two_more cs n h =
    let e : n + 2 ≡ n + 1 + 1 = omega arith in
    rw (e, take_more cs (n + 1) 0 (omega arith), take_more cs n 0 (omega arith), append_assoc)

back_two : (xs : List ℕ) (a b : ℕ) → blanks (xs ++ a ∷ b ∷ []) ≡ cond (eqb b 95 && eqb a 32) (suc (blanks xs)) 0
back_two xs a b = rw (reverse-append xs (a ∷ b ∷ []))

step : (cs : List ℕ) (n : ℕ) → n + 2 ≡ length cs → blanks cs ≡ cond (eqb (get_or cs (n + 1) 0) 95 && eqb (get_or cs n 0) 32) (suc (blanks (take n cs))) 0
step cs n h =
    ap blanks (sym (take_all (n + 2) cs (omega arith)) ∙ two_more cs n (omega arith)) ∙ back_two (take n cs) (get_or cs n 0) (get_or cs (n + 1) 0)

pub blank_more : (cs : List ℕ) → 2 ≤ length cs → get_or cs (length cs - 2) 0 ≡ 32 → get_or cs (length cs - 1) 0 ≡ 95 → blanks cs ≡ suc (blanks (take (length cs - 2) cs))
blank_more cs h a b =
    let e : length cs - 2 + 1 ≡ length cs - 1 = omega arith in
    let s = rw e at (step cs (length cs - 2) (omega arith)) in
    grind (arith, nat_tests)

short : (xs : List ℕ) → length xs < 2 → blanks xs ≡ 0
short [] h = refl
short (a ∷ []) h = refl
short (a ∷ b ∷ xs) h = absurd (omega arith)

pub no_blank : (cs : List ℕ) → (2 ≤ length cs → get_or cs (length cs - 2) 0 ≡ 32 → get_or cs (length cs - 1) 0 ≡ 95 → ⊥) → blanks cs ≡ 0
no_blank cs h = ⊎_elim (λ less. short cs less) long (order (length cs) 2)
  where
    long : 2 ≤ length cs → blanks cs ≡ 0
    long l =
        let no = h l in
        let e : length cs - 2 + 1 ≡ length cs - 1 = omega arith in
        let s = rw e at (step cs (length cs - 2) (omega arith)) in
        grind (arith, nat_tests)
