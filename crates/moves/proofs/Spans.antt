-- Where a range of children begins and ends, and what a source answers.
use Rattle.std.proofs.Common.{◌≡◌, ℕ, zero, suc, ◌+◌, ◌-◌, ◌<◌, ◌≤◌, Bool, true, false, cond, ◌&&◌, ltb, leb, List, [], ◌∷◌, length, get_or, take, drop, unwrap_or, Some, None, Option, sym, refl, ap, ◌∙◌, arith}
use Rattle.std.proofs.lemmas.Bool.{lt-ltb, ltb-true, ltb-false, leb-true, leb-false}
use Rattle.std.proofs.lemmas.Bool.Decides.{nat_tests}
use Rattle.lines.specs.Children.{not_before, not_behind, between, selected}
use Rattle.moves.specs.Ends.{first_index, end_of}
use Rattle.terms.specs.Source.{Source, size, item}

take_nil : (n : ℕ) → take {A = ℕ} n [] ≡ []
take_nil zero = refl
take_nil (suc n) = refl

drop_nil : (n : ℕ) → drop {A = ℕ} n [] ≡ []
drop_nil zero = refl
drop_nil (suc n) = refl

-- ---- a range of children
begins : (n f c : ℕ) → not_before n f c ≡ leb (first_index n f) c
begins n f c = grind (arith, nat_tests)

ends : (n g c : ℕ) → c < n → not_behind n g c ≡ ltb c (end_of n g)
ends n g c l = grind (arith, nat_tests)

-- the children from the place c on, between two places
run-between : (n f g a e c : ℕ) (xs : List ℕ) → ((k : ℕ) → not_before n f k ≡ leb a k) → ((k : ℕ) → k < n → not_behind n g k ≡ ltb k e) → c + length xs ≡ n → between n f g c xs ≡ drop (a - c) (take (e - c) xs)
run-between n f g a e c [] p q h = sym (ap (drop (a - c)) (take_nil (e - c)) ∙ drop_nil (a - c))
run-between n f g a e c (x ∷ xs) p q h =
    ap (λ b. cond (b && not_behind n g c) (x ∷ between n f g (suc c) xs) (between n f g (suc c) xs)) (p c)
    ∙ ap (λ b. cond (leb a c && b) (x ∷ between n f g (suc c) xs) (between n f g (suc c) xs)) (q c (omega arith))
    ∙ by (leb a c) (ltb c e) refl refl (run-between n f g a e (suc c) xs p q (omega arith))
  where
    by : (s t : Bool) → leb a c ≡ s → ltb c e ≡ t → between n f g (suc c) xs ≡ drop (a - suc c) (take (e - suc c) xs) → cond (s && t) (x ∷ between n f g (suc c) xs) (between n f g (suc c) xs) ≡ drop (a - c) (take (e - c) (x ∷ xs))
    by true true i j r =
        let l = leb-true a c i in
        let k = ltb-true c e j in
        let u : a - c ≡ 0 = omega arith in
        let v : a - suc c ≡ 0 = omega arith in
        let w : e - c ≡ suc (e - suc c) = omega arith in
        ap (λ ys. x ∷ ys) (r ∙ ap (λ z. drop z (take (e - suc c) xs)) v) ∙ (λ z. drop (sym u z) (take (sym w z) (x ∷ xs)))
    by true false i j r =
        let k = ltb-false c e j in
        let w : e - c ≡ 0 = omega arith in
        let w' : e - suc c ≡ 0 = omega arith in
        r ∙ ap (λ z. drop (a - suc c) (take z xs)) w' ∙ drop_nil (a - suc c) ∙ sym (ap (λ z. drop (a - c) (take z (x ∷ xs))) w ∙ drop_nil (a - c))
    by false true i j r =
        let l = leb-false a c i in
        let k = ltb-true c e j in
        let u : a - c ≡ suc (a - suc c) = omega arith in
        let w : e - c ≡ suc (e - suc c) = omega arith in
        r ∙ (λ z. drop (sym u z) (take (sym w z) (x ∷ xs)))
    by false false i j r =
        let k = ltb-false c e j in
        let w : e - c ≡ 0 = omega arith in
        let w' : e - suc c ≡ 0 = omega arith in
        r ∙ ap (λ z. drop (a - suc c) (take z xs)) w' ∙ drop_nil (a - suc c) ∙ sym (ap (λ z. drop (a - c) (take z (x ∷ xs))) w ∙ drop_nil (a - c))

minus_zero : (n : ℕ) → n - 0 ≡ n
minus_zero n = omega arith

pub selected_part : (m : Source) (t f g : ℕ) → selected m t f g ≡ drop (first_index (length (m.children t)) f) (take (end_of (length (m.children t)) g) (m.children t))
selected_part m t f g =
    let n = length (m.children t) in
    run-between n f g (first_index n f) (end_of n g) 0 (m.children t) (begins n f) (ends n g) (omega arith)
    ∙ (λ i. drop (minus_zero (first_index n f) i) (take (minus_zero (end_of n g) i) (m.children t)))

-- ---- what is asked of a source
pub sized : (count t n : ℕ) (xs : List ℕ) (o : Option ℕ) → o ≡ size count t xs → n ≡ unwrap_or o 0 → (count ≤ t → xs ≡ []) → n ≡ length xs
sized count t n xs o e u h = by (ltb t count) refl
  where
    by : (b : Bool) → ltb t count ≡ b → n ≡ length xs
    by true k = u ∙ ap (λ p. unwrap_or p 0) (e ∙ ap (λ b. cond b (Some (length xs)) None) k)
    by false k = u ∙ ap (λ p. unwrap_or p 0) (e ∙ ap (λ b. cond b (Some (length xs)) None) k) ∙ sym (ap length (h (ltb-false t count k)))

pub itemed : (i b : ℕ) (xs : List ℕ) (o : Option ℕ) → i < length xs → o ≡ item xs i → b ≡ unwrap_or o 0 → b ≡ get_or xs i 0
itemed i b xs o l e u = u ∙ ap (λ p. unwrap_or p 0) (e ∙ ap (λ b. cond b (Some (get_or xs i 0)) None) (lt-ltb i (length xs) l))
