-- The ways through prefix and suffix.
use Rattle.std.proofs.Common.{◌≡◌, ℕ, ◌+◌, ◌-◌, ◌<◌, true, false, List, [], ◌∷◌, length, get_or, take, drop, Some, None, Ok, Result, sym, refl, ap, ◌∙◌, arith}
use Rattle.std.proofs.lemmas.List.{take_rest, length-take, length-drop, drop-take, drop-drop}
use Rattle.std.proofs.lemmas.Bool.{eq-eqb}
use Rattle.std.proofs.lemmas.Bool.Decides.{nat_tests}
use Rattle.refusal.specs.declared.error.ClosingMark.TheVariants.{Dollar}
use Rattle.refusal.specs.declared.error.FormatterError.TheVariants.{MissingControl}
use Rattle.grammar.specs.Marks.{first_byte, last_byte, ends}
use Rattle.grammar.specs.Numbers.{power_at}
use Rattle.grammar.specs.Results.{on_ok, on_some, refusal, Fault}
use Rattle.grammar.specs.Templates.{prefix_at, suffix_before, suffix_at}
use Rattle.matchers.proofs.Ends.{ends_by}

prefix_is : (cs : List ℕ) → get_or cs 0 0 ≡ 36 → prefix_at cs ≡ on_some (first_byte 36 (drop 1 cs)) (refusal (MissingControl Dollar) 1 (length (drop 1 cs))) (λ at. on_ok (power_at 1 (take at (drop 1 cs))) (λ n. Ok (n, at + 2)))
prefix_is [] e = absurd (omega arith)
prefix_is (c ∷ cs) e = rw (eq-eqb c 36 e) refl

pub prefix_none : (cs : List ℕ) → get_or cs 0 0 ≡ 36 → None ≡ first_byte 36 (take (length cs - 1) (drop 1 cs)) → refusal (MissingControl Dollar) 1 (length (take (length cs - 1) (drop 1 cs))) ≡ prefix_at cs
prefix_none cs e n =
    let f : first_byte 36 (drop 1 cs) ≡ None = sym (rw (take_rest cs 1) at n) in
    rw (prefix_is cs e, take_rest cs 1, f) refl

pub prefix_some : (cs : List ℕ) (at : ℕ) (r : Result ℕ Fault) → get_or cs 0 0 ≡ 36 → Some at ≡ first_byte 36 (take (length cs - 1) (drop 1 cs)) → r ≡ power_at 1 (take (at + 1 - 1) (drop 1 cs)) → on_ok r (λ n. Ok (n, at + 2)) ≡ prefix_at cs
prefix_some cs at r e s p =
    let f : first_byte 36 (drop 1 cs) ≡ Some at = sym (rw (take_rest cs 1) at s) in
    let k : at + 1 - 1 ≡ at = omega arith in
    rw (prefix_is cs e, f, p, k) refl

-- ---- the suffix of ds, which stands from a place of cs on
module _ (cs : List ℕ) (from : ℕ) (ds : List ℕ) (is : ds ≡ drop from cs) where
  long : length ds ≡ length cs - from
  long = rw is (length-drop from cs)

  pub suffix_plain : (0 < length ds → get_or ds (length ds - 1) 0 ≡ 36 → ⊥) → Ok (0, length cs - from) ≡ suffix_at from (drop from cs)
  suffix_plain n =
      let e = ends_by 36 ds in
      let q : ends 36 ds ≡ false = grind (arith, nat_tests) in
      rw (← is) (rw q (ap (λ (k : ℕ). Ok (0, k)) (sym long)))

  module _ (some : 0 < length ds) (last : get_or ds (length ds - 1) 0 ≡ 36) where
    closed : suffix_at from (drop from cs) ≡ suffix_before from (take (length ds - 1) ds)
    closed =
        let e = ends_by 36 ds in
        let q : ends 36 ds ≡ true = grind (arith, nat_tests) in
        rw (← is) (rw q refl)

    pub suffix_none : (n : ℕ) → n ≡ length ds - 1 → None ≡ last_byte 36 (take (length ds - 1) ds) → refusal (MissingControl Dollar) from n ≡ suffix_at from (drop from cs)
    suffix_none n e k =
        let l : length (take (length ds - 1) ds) ≡ n = omega (arith, length-take (length ds - 1) ds) in
        sym (closed ∙ rw (← k, l) refl)

    pub suffix_some : (at to : ℕ) (r : Result ℕ Fault) → at < length ds - 1 → to ≡ from + (length ds - 1) → Some at ≡ last_byte 36 (take (length ds - 1) ds) → r ≡ power_at (from + (at + 1)) (take (to - (from + (at + 1))) (drop (from + (at + 1)) cs)) → on_ok r (λ n. Ok (n, at)) ≡ suffix_at from (drop from cs)
    suffix_some at to r l t k p =
        let z : length ds - 1 ≡ at + 1 + (to - (from + (at + 1))) = omega arith in
        let d : drop (at + 1) (take (length ds - 1) ds) ≡ take (to - (from + (at + 1))) (drop (from + (at + 1)) cs) =
        ap (λ (n : ℕ). drop (at + 1) (take n ds)) z ∙ drop-take (at + 1) (to - (from + (at + 1))) ds ∙ ap (λ (l : List ℕ). take (to - (from + (at + 1))) (drop (at + 1) l)) is ∙ ap (λ (l : List ℕ). take (to - (from + (at + 1))) l) (drop-drop (at + 1) from cs) in
        sym (closed ∙ rw (← k, d, ← p) refl)
