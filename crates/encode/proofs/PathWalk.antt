-- What stands behind a step of a path, as the grammar has it: a path again, of the steps that are left.
use Rattle.std.proofs.Common.{◌≡◌, ℕ, ◌+◌, List, ◌∷◌, ◌++◌, drop, Some, None, sym, refl, ap, ◌∙◌, subst}
use Rattle.grammar.specs.declared.defns.ChildIndex.{ChildIndex}
use Rattle.grammar.specs.Grammar.{Path, last, step}
use Rattle.grammar.specs.Marks.{up_to}
use Rattle.grammar.specs.Numbers.{bits, int, numeral}
use Rattle.grammar.specs.Readings.{Index}
use Rattle.grammar.proofs.Chains.{nothing, same_some}
use Rattle.grammar.proofs.MarksFound.{whole_test, parted_test, parted-take, parted-drop}
use Rattle.grammar.proofs.Numerals.{bits-int, index_back, numeral-without}
use Rattle.controls.specs.Steps.{step_at}

at_index : (i place : ℕ) → Index i → step_at place (numeral i) ≡ None
at_index i place x = rw (whole_test 58 (numeral i) (numeral-without 58 refl i x.0))

at_step : (y place : ℕ) (rest : List ℕ) → Index y → step_at place (numeral y ++ 58 ∷ rest) ≡ Some (record { 0 = int y }, place + (up_to 58 (numeral y ++ 58 ∷ rest) + 1))
at_step y place rest x =
    let w = numeral-without 58 refl y x.0 in
    rw (parted_test 58 (numeral y) rest w, parted-take 58 (numeral y) rest w, index_back place y x)

-- the step that is read, and the path behind it
pub record Behind (cs s : List ℕ) (i place : ℕ) (x : ChildIndex) (next : ℕ) : Type 0 where
  pub size : ℕ
  pub steps : List ℕ
  pub first : s ≡ bits x.0 ∷ steps
  pub place_is : next ≡ place + size
  pub path : Path (drop size cs) steps i

pub one-step : {cs s : List ℕ} {i : ℕ} → Path cs s i → (place : ℕ) (x : ChildIndex) (next : ℕ) → step_at place cs ≡ Some (x, next) → Behind cs s i place x next
one-step (last {i} h) place x next e = nothing _ (sym (at_index i place h) ∙ e)
one-step (step {y} {i} {rest} {s} h p) place x next e =
    let f = same_some _ (x, next) (sym (at_step y place rest h) ∙ e) in
    let index = ap (λ (q : ChildIndex × ℕ). bits q.0.0) f in
    record {
      size = up_to 58 (numeral y ++ 58 ∷ rest) + 1;
      steps = s;
      first = ap (λ (n : ℕ). n ∷ s) (sym (bits-int y h.0) ∙ index);
      place_is = sym (ap (λ (q : ChildIndex × ℕ). q.1) f);
      path = subst (λ (l : List ℕ). Path l s i) (sym (parted-drop 58 (numeral y) rest (numeral-without 58 refl y h.0))) p;
    }
