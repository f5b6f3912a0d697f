-- Where marks stand: what the searches of a text find, and one byte or one pair more of a text whose marks come in pairs.
use Rattle.std.proofs.Common.{◌≡◌, ℕ, suc, ◌+◌, ◌<◌, ◌≤◌, Bool, true, false, cond, ◌&&◌, eqb, ltb, List, [], ◌∷◌, length, take, drop, Some, None, Option, sym, refl, ap, ap₂, subst, ◌∙◌, ⊎_elim, arith}
use Rattle.std.specs.List.{position_from, position_or_len}
use Rattle.std.specs.Option.{unwrap_or}
use Rattle.std.proofs.lemmas.Bool.Decides.{nat_tests}
use Rattle.std.specs.Slice.Iter.{windows_rest, windows_size, windows_steps}
use Rattle.std.proofs.str.Laws.{order}
use Rattle.std.proofs.lemmas.Iterator.{YieldsList}
use Rattle.std.proofs.lemmas.Iterator.Splits.{YieldsList-from_shown_while}
use Rattle.std.proofs.lemmas.List.Recursion.{is_position_or_len}
use Rattle.grammar.specs.Marks.{first_mark, up_to}

-- ---- the first mark
up_to_le : (m : ℕ) (xs : List ℕ) → up_to m xs ≤ length xs
up_to_le m [] = omega arith
up_to_le m (c ∷ cs) = grind (arith, nat_tests, up_to_le m cs)

up_to_is : (m : ℕ) (xs : List ℕ) → up_to m xs ≡ position_or_len (λ b. eqb b m) xs
up_to_is m = is_position_or_len (up_to m) (λ b. eqb b m) refl (λ x xs. let one : suc (up_to m xs) ≡ 1 + up_to m xs = omega arith in ap (λ (n : ℕ). cond (eqb x m) 0 n) one)

pub found_up_to : (m : ℕ) (xs : List ℕ) (o : Option ℕ) (n : ℕ) → o ≡ cond (ltb (position_or_len (λ b. eqb b m) xs) (length xs)) (Some (position_or_len (λ b. eqb b m) xs)) None → n ≡ unwrap_or o (length xs) → n ≡ up_to m xs
found_up_to m xs o n e f =
    let is = up_to_is m xs in
    rw is (go (position_or_len (λ b. eqb b m) xs) (omega (arith, is, up_to_le m xs)) e)
  where
    go : (k : ℕ) → k ≤ length xs → o ≡ cond (ltb k (length xs)) (Some k) None → n ≡ k
    go k h e = ⊎_elim
        (λ less. let t : ltb k (length xs) ≡ true = grind (arith, nat_tests) in f ∙ ap (λ p. unwrap_or p (length xs)) (e ∙ ap (λ b. cond b (Some k) None) t))
        (λ all. let t : ltb k (length xs) ≡ false = grind (arith, nat_tests) in f ∙ ap (λ p. unwrap_or p (length xs)) (e ∙ ap (λ b. cond b (Some k) None) t) ∙ omega arith)
        (order k (length xs))

-- ---- a mark of two bytes
abbrev pub pairs_of : List ℕ → List (List ℕ)
pairs_of [] = []
pairs_of (c ∷ []) = []
pairs_of (c ∷ d ∷ cs) = (c ∷ d ∷ []) ∷ pairs_of (d ∷ cs)

abbrev pub is_pair : ℕ → ℕ → List ℕ → Bool
is_pair a b [] = false
is_pair a b (c ∷ []) = false
is_pair a b (c ∷ d ∷ []) = eqb c a && eqb d b
is_pair a b (c ∷ d ∷ e ∷ cs) = false

no_pair : (xs : List ℕ) → length xs < 2 → pairs_of xs ≡ []
no_pair [] h = refl
no_pair (c ∷ []) h = refl
no_pair (c ∷ d ∷ cs) h = absurd (omega arith)

one_pair : (xs : List ℕ) → 2 ≤ length xs → pairs_of xs ≡ take 2 xs ∷ pairs_of (drop 1 xs)
one_pair [] h = absurd (omega arith)
one_pair (c ∷ []) h = absurd (omega arith)
one_pair (c ∷ d ∷ cs) h = refl

pub windows_pairs : {s : _} (xs : List ℕ) → windows_size s ≡ 2 → windows_rest s ≡ xs → YieldsList windows_steps (λ w. w.now) s (pairs_of xs)
windows_pairs {s} xs two e =
    subst (λ l. YieldsList windows_steps (λ w. w.now) s (pairs_of l)) e
    (YieldsList-from_shown_while windows_steps (λ w. w.now) (λ t. pairs_of (windows_rest t)) (λ t. windows_size t ≡ 2)
    (λ t u h k. ap length (no_pair (windows_rest t) (omega arith)))
    (λ t x u h k. (k.0 ∙ h, one_pair (windows_rest t) (omega arith) ∙ ap₂ (λ (a : List ℕ) (b : List ℕ). a ∷ pairs_of b) (ap (λ n. take n (windows_rest t)) (sym h) ∙ sym k.1.1) (sym k.1.2)))
    s two)

none_first : (b : Bool) (n : ℕ) → None ≡ cond (b && false) (Some n) None
none_first true n = refl
none_first false n = refl

pub found_first : (a b n : ℕ) (xs : List ℕ) → position_from (is_pair a b) n (pairs_of xs) ≡ first_mark a b n xs
found_first a b n [] = refl
found_first a b n (c ∷ []) = none_first (eqb c a) n
found_first a b n (c ∷ d ∷ cs) = ap (λ o. cond (eqb c a && eqb d b) (Some n) o) (found_first a b (n + 1) (d ∷ cs))
