-- The bytes of a text whose pairs are halved, each written behind those before it.
use Rattle.std.proofs.Common.{◌≡◌, ℕ, suc, ◌+◌, ◌<◌, ◌≤◌, ◌&&◌, eqb, List, [], ◌∷◌, ◌++◌, length, take, drop, set, sym, ap, ◌∙◌, ap₂, append_assoc, arith}
use Rattle.std.proofs.lemmas.List.{append-nil, drop_all, drop-drop, drop-set-lt, take_more_set, length-take-le, take-append-drop}
use Rattle.std.proofs.lemmas.Bool.{cond_both}
use Rattle.grammar.specs.Marks.{halve}

-- what is written, with what is still to come
pub writes : (out : List ℕ) (n b : ℕ) (us vs ws : List ℕ) → n < length out → us ≡ b ∷ vs → take n out ++ us ≡ ws → take (n + 1) (set out n b) ++ vs ≡ ws
writes out n b us vs ws h e k =
    ap (λ l. l ++ vs) (take_more_set out n b h) ∙ append_assoc (take n out) (b ∷ []) vs ∙ ap (λ l. take n out ++ l) (sym e) ∙ k

-- what is not written yet stands as it was
pub stands : (out before : List ℕ) (n b : ℕ) → drop n out ≡ drop n before → drop (n + 1) (set out n b) ≡ drop (n + 1) before
stands out before n b e =
    let under : n < n + 1 = omega arith in
    drop-set-lt (n + 1) out n b under ∙ sym (drop-drop 1 n out) ∙ ap (drop 1) e ∙ drop-drop 1 n before

-- all is written, of a text whose halved bytes are counted
pub all_written : (m : ℕ) (xs out before : List ℕ) (n : ℕ) → take n out ++ [] ≡ halve m xs → n + 0 ≡ length (halve m xs) → drop n out ≡ drop n before → out ≡ halve m xs ++ drop (length (halve m xs)) before
all_written m xs out before n e l f =
    let all : take n out ≡ halve m xs = sym (append-nil (take n out)) ∙ e in
    let long : n ≡ length (halve m xs) = omega arith in
    sym (take-append-drop n out) ∙ ap₂ (λ a b. a ++ b) all (f ∙ ap (λ j. drop j before) long)

-- all is written, of a text that is read to its end: the count follows
pub written : (m : ℕ) (xs out before : List ℕ) (i n : ℕ) → length xs ≤ i → n ≤ length out → take n out ++ halve m (drop i xs) ≡ halve m xs → drop n out ≡ drop n before
    → (length (halve m xs) ≡ n) × (out ≡ halve m xs ++ drop (length (halve m xs)) before)
written m xs out before i n h k e f =
    let all : take n out ++ [] ≡ halve m xs = ap (λ l. take n out ++ halve m l) (sym (drop_all i xs h)) ∙ e in
    let long : length (halve m xs) ≡ n = ap length (sym all ∙ append-nil (take n out)) ∙ length-take-le n out k in
    (long, all_written m xs out before n all (omega (arith, long)) f)

-- halving makes no text longer
pub no_longer : (m : ℕ) (xs : List ℕ) → length (halve m xs) ≤ length xs
no_longer m [] = omega arith
no_longer m (c ∷ []) = omega arith
no_longer m (c ∷ d ∷ cs) =
    cond_both (eqb c m && eqb d m) (m ∷ halve m cs) (c ∷ halve m (d ∷ cs)) (λ l. length l ≤ suc (suc (length cs))) (λ _. omega (arith, no_longer m cs)) (λ _. omega (arith, no_longer m (d ∷ cs)))
