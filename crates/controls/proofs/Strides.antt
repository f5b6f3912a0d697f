-- The steps of a path that are left, one more being taken; and those of a path of the grammar.
use Rattle.std.proofs.Common.{◌≡◌, ℕ, suc, ◌+◌, ◌<◌, Bool, true, false, eqb, List, [], ◌∷◌, length, map, take, drop, Some, None, Ok, Err, Result, sym, refl, ap, ◌∙◌, arith}
use Rattle.std.proofs.lemmas.List.{drop-drop, length-take-le}
use Rattle.std.proofs.lemmas.Bool.{eqb-true, eqb-false}
use Rattle.grammar.specs.declared.defns.ChildIndex.{ChildIndex}
use Rattle.grammar.specs.Grammar.{Path, last, step}
use Rattle.grammar.specs.Marks.{up_to}
use Rattle.grammar.specs.Numbers.{bits, numeral}
use Rattle.grammar.specs.Paths.{index_at, split_on}
use Rattle.grammar.specs.Results.{Fault}
use Rattle.grammar.proofs.Chains.{same_some, nothing}
use Rattle.grammar.proofs.Numerals.{bits-int, index_back, numeral-without}
use Rattle.grammar.proofs.PathsRead.{some_part, split_without, split_at}
use Rattle.controls.specs.Steps.{step_at, and_then, steps_among, steps_from}
use Rattle.controls.proofs.PathSteps.{up_to_le, split_last, split_more}

module _ (place : ℕ) (cs : List ℕ) where
  abbrev u : ℕ
  u = up_to 58 cs

  abbrev here : List ChildIndex
  here = steps_among place (split_on 58 cs)

  abbrev behind : List ChildIndex
  behind = steps_among (place + (u + 1)) (split_on 58 (drop (u + 1) cs))

  at_last : eqb u (length cs) ≡ true → here ≡ []
  at_last e = rw (split_last 58 cs (eqb-true u (length cs) e)) refl

  further : eqb u (length cs) ≡ false → here ≡ and_then (index_at place (take u cs)) behind
  further e =
      let not = eqb-false u (length cs) e in
      let under : u < length cs = omega (arith, up_to_le 58 cs) in
      let long : length (take u cs) ≡ u = length-take-le u cs (omega arith) in
      let one : suc u ≡ u + 1 = omega arith in
      let p = some_part 58 (drop (u + 1) cs) in
      rw (split_more 58 cs under, one, p.2, long) refl

  pub no_step : None ≡ step_at place cs → here ≡ []
  no_step e = go (eqb u (length cs)) refl (index_at place (take u cs)) refl
    where
      go : (b : Bool) → eqb u (length cs) ≡ b → (r : Result ChildIndex Fault) → index_at place (take u cs) ≡ r → here ≡ []
      go true p r q = at_last p
      go false p (Ok i) q = nothing (i, place + (u + 1)) (rw (p, q) at e)
      go false p (Err x) q = further p ∙ rw q refl

  pub one-step : (x : ChildIndex) (n : ℕ) → Some (x, n) ≡ step_at place cs → (n ≡ place + (u + 1)) × (here ≡ x ∷ behind)
  one-step x n e = go (eqb u (length cs)) refl (index_at place (take u cs)) refl
    where
      go : (b : Bool) → eqb u (length cs) ≡ b → (r : Result ChildIndex Fault) → index_at place (take u cs) ≡ r → (n ≡ place + (u + 1)) × (here ≡ x ∷ behind)
      go true p r q = nothing (x, n) (sym (rw p at e))
      go false p (Ok i) q =
          let s = same_some (x, n) (i, place + (u + 1)) (rw (p, q) at e) in
          (ap (λ (o : ChildIndex × ℕ). o.1) s, further p ∙ rw q (ap (λ (o : ChildIndex × ℕ). o.0 ∷ behind) (sym s)))
      go false p (Err y) q = nothing (x, n) (sym (rw (p, q) at e))

pub steps_end : (path : List ℕ) (place : ℕ) → None ≡ step_at place (drop place path) → steps_from place path ≡ []
steps_end path place e = no_step place (drop place path) e

pub steps_go : (path : List ℕ) (place : ℕ) (x : ChildIndex) (n : ℕ) → Some (x, n) ≡ step_at place (drop place path) → steps_from place path ≡ x ∷ steps_from n path
steps_go path place x n e =
    let s = one-step place (drop place path) x n e in
    let d : drop (up_to 58 (drop place path) + 1) (drop place path) ≡ drop n path = drop-drop _ place path ∙ ap (λ (k : ℕ). drop k path) (sym s.0) in
    s.1 ∙ ap (λ (l : List ℕ). x ∷ steps_among (place + (up_to 58 (drop place path) + 1)) (split_on 58 l)) d ∙ ap (λ (k : ℕ). x ∷ steps_among k (split_on 58 (drop n path))) (sym s.0)

-- of a path of the grammar, the steps are its steps
pub steps_bits : {cs s : List ℕ} {i : ℕ} → Path cs s i → (place : ℕ) → map (λ (x : ChildIndex). bits x.0) (steps_among place (split_on 58 cs)) ≡ s
steps_bits (last {i} x) place = rw (split_without 58 (numeral i) (numeral-without 58 refl i x.0)) refl
steps_bits (step {y} {i} {rest} {s} x p) place =
    let q = some_part 58 rest in
    let ih = steps_bits p (place + (length (numeral y) + 1)) in
    rw (split_at 58 (numeral y) rest (numeral-without 58 refl y x.0), q.2, index_back place y x, bits-int y x.0) (ap (λ (l : List ℕ). y ∷ l) (rw q.2 at ih))
