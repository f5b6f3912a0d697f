-- Where marks stand.
use Rattle.std.proofs.Common.{◌≡◌, ℕ, zero, suc, ◌+◌, ◌<◌, true, false, cond, eqb, ltb, List, [], ◌∷◌, length, get_or, drop, Some, None, Option, MatchOption, sym, refl, ap, arith}
use Rattle.std.specs.List.{position_or_len}
use Rattle.std.proofs.lemmas.Bool.{eq-eqb}
use Rattle.std.proofs.lemmas.Bool.Decides.{nat_tests}
use Rattle.std.proofs.lemmas.List.Recursion.{is_position_or_len}
use Rattle.grammar.specs.Marks.{up_to, first_byte, last_byte}

up_to_is : (m : ℕ) (xs : List ℕ) → up_to m xs ≡ position_or_len (λ b. eqb b m) xs
up_to_is m = is_position_or_len (up_to m) (λ b. eqb b m) refl (λ x xs. let one : suc (up_to m xs) ≡ 1 + up_to m xs = omega arith in ap (λ (n : ℕ). cond (eqb x m) 0 n) one)

pub found_first : (m : ℕ) (xs : List ℕ) → cond (ltb (position_or_len (λ b. eqb b m) xs) (length xs)) (Some (position_or_len (λ b. eqb b m) xs)) None ≡ first_byte m xs
found_first m xs = ap (λ k. cond (ltb k (length xs)) (Some k) None) (sym (up_to_is m xs))

abbrev NoneIn : ℕ → List ℕ → Type 0
NoneIn m xs = (k : ℕ) → k < length xs → get_or xs k 0 ≡ m → ⊥

behind : (m x : ℕ) (xs : List ℕ) → NoneIn m (x ∷ xs) → NoneIn m xs
behind m x xs h k l e = h (suc k) (omega arith) e

none_last : (m : ℕ) (xs : List ℕ) → NoneIn m xs → None ≡ last_byte m xs
none_last m [] h = refl
none_last m (x ∷ xs) h =
    let no = h 0 (omega arith) in
    let t : eqb x m ≡ false = grind (arith, nat_tests) in
    rw (t, ← none_last m xs (behind m x xs h)) refl

some_last : (m : ℕ) (xs : List ℕ) (i : ℕ) → i < length xs → get_or xs i 0 ≡ m → ((k : ℕ) → i < k → k < length xs → get_or xs k 0 ≡ m → ⊥) → Some i ≡ last_byte m xs
some_last m [] i h e n = absurd (omega arith)
some_last m (x ∷ xs) zero h e n =
    let t : eqb x m ≡ true = grind (arith, nat_tests) in
    rw (t, ← none_last m xs (λ k l e. n (suc k) (omega arith) (omega arith) e)) refl
some_last m (x ∷ xs) (suc i) h e n = rw (← some_last m xs i (omega arith) e (λ k l g. n (suc k) (omega arith) (omega arith))) refl

-- the last mark has none behind it
pub found_last : (m : ℕ) (xs : List ℕ) (o : Option ℕ)
    → MatchOption o ((k : ℕ) → k < length xs → get_or xs k 0 ≡ m → ⊥) (λ i. (i < length xs) × (get_or xs i 0 ≡ m) × ((k : ℕ) → i < k → k < length xs → get_or xs k 0 ≡ m → ⊥))
    → o ≡ last_byte m xs
found_last m xs None h = none_last m xs h
found_last m xs (Some i) h = some_last m xs i h.0 h.1 h.2

-- a mark is the last one where none stands in what is behind it
pub last_here : (m : ℕ) (cs : List ℕ) (i : ℕ) → i < length cs → get_or cs i 0 ≡ m → last_byte m (drop (i + 1) cs) ≡ None → last_byte m cs ≡ Some i
last_here m [] i h s e = absurd (omega arith)
last_here m (c ∷ cs) zero h s e = rw e (rw (eq-eqb c m s) refl)
last_here m (c ∷ cs) (suc i) h s e =
    let p : suc i + 1 ≡ suc (i + 1) = omega arith in
    let q : last_byte m (drop (i + 1) cs) ≡ None = rw p at e in
    rw (last_here m cs i (omega arith) s q) refl
