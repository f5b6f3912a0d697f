-- A part of a text that ends with the text at the latest.
use Rattle.std.proofs.Common.{◌≡◌, ℕ, ◌-◌, ◌<◌, ◌≤◌, min, List, [], length, take, drop, Some, None, Option, Bor, sym, ap, ◌∙◌, ⊎_elim, arith, length-drop}
use Rattle.std.specs.Option.{UnwrapsOrElse}
use Rattle.std.specs.Slice.{IsGetRangeResult}
use Rattle.std.proofs.lemmas.List.{take_all}
use Rattle.std.proofs.str.Laws.{order}

short : (xs : List ℕ) (n : ℕ) → take (min n (length xs)) xs ≡ take n xs
short xs n = ⊎_elim under over (order n (length xs))
  where
    under : n < length xs → take (min n (length xs)) xs ≡ take n xs
    under h = let m : min n (length xs) ≡ n = omega arith in rw m

    over : length xs ≤ n → take (min n (length xs)) xs ≡ take n xs
    over h =
        let m : length xs ≤ min n (length xs) = omega arith in
        take_all (min n (length xs)) xs m ∙ sym (take_all n xs h)

cut : (xs : List ℕ) (from to : ℕ) → take (min to (length xs) - from) (drop from xs) ≡ take (to - from) (drop from xs)
cut xs from to =
    let n : min (to - from) (length (drop from xs)) ≡ min to (length xs) - from = simp length-drop (omega arith) in
    sym (ap (λ k. take k (drop from xs)) n) ∙ short (drop from xs) (to - from)

-- what stands from a place up to another, and nothing where the first is not in front of the second
pub taken : (xs : List ℕ) (from to : ℕ) (r : Option (Bor (List ℕ))) (t : Bor (List ℕ)) → IsGetRangeResult xs from (min to (length xs)) r → UnwrapsOrElse r (λ x. x.now ≡ []) t → t.now ≡ take (to - from) (drop from xs)
taken xs from to None t g u =
    let none : min to (length xs) - from ≡ 0 = ⊎_elim (λ h. omega arith) (λ h. omega arith) g.0 in
    u ∙ ap (λ n. take n (drop from xs)) (sym none) ∙ cut xs from to
taken xs from to (Some x) t g u = ap (λ (y : Bor (List ℕ)). y.now) u ∙ g.0.2 ∙ cut xs from to
