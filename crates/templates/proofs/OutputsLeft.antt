-- The pieces that are left, one more being taken; and those of a body that is read.
use Rattle.std.proofs.Common.{◌≡◌, ℕ, zero, suc, ◌+◌, ◌<◌, ◌≤◌, Bool, true, false, cond, eqb, List, [], ◌∷◌, length, take, drop, is_ok, Some, None, Ok, Err, Option, Result, sym, refl, ap, ◌∙◌, arith, length-drop}
use Rattle.std.proofs.lemmas.Bool.{eqb-false}
use Rattle.std.proofs.lemmas.List.{drop-drop}
use Rattle.grammar.specs.Controls.{control_at}
use Rattle.grammar.specs.Marks.{unpaired}
use Rattle.grammar.specs.Results.{on_some, Fault}
use Rattle.grammar.specs.Shapes.{Shape, typed_text}
use Rattle.grammar.specs.Templates.{body_at}
use Rattle.grammar.proofs.Chains.{by_on_ok, same_ok, same_some, nothing}
use Rattle.templates.specs.Outputs.{first_outputs, outputs_from}
use Rattle.templates.specs.Views.{okay, control_first, output_at}
use Rattle.templates.proofs.ReadBodies.{body_over, body_goes, body_full}

-- ---- a piece has a byte at least
sized_okay : (r : Result (Shape × ℕ) Fault) (s : Shape) (u : ℕ) → okay r ≡ Some (s, u) → 0 < u
sized_okay (Ok p) s u e =
    let h = ap (λ (q : Shape × ℕ). q.1) (same_some (p.0, suc p.1) (s, u) e) in
    omega arith
sized_okay (Err x) s u e = nothing (s, u) e

sized_control : (place : ℕ) (cs : List ℕ) (s : Shape) (u : ℕ) → control_first place cs ≡ Some (s, u) → 0 < u
sized_control place [] s u e = nothing (s, u) e
sized_control place (c ∷ cs) s u e = sized_okay (control_at (place + 1) cs) s u e

pub sized : (place : ℕ) (cs : List ℕ) (s : Shape) (u : ℕ) → output_at place cs ≡ Some (s, u) → 0 < u
sized place cs s u e = go (take (unpaired 36 cs) cs) (unpaired 36 cs) (eqb (unpaired 36 cs) 0) refl e
  where
    go : (t : List ℕ) (k : ℕ) (b : Bool) → eqb k 0 ≡ b → cond b (control_first place cs) (Some (typed_text t, k)) ≡ Some (s, u) → 0 < u
    go t k true p q = sized_control place cs s u q
    go t k false p q =
        let h = ap (λ (o : Shape × ℕ). o.1) (same_some (typed_text t, k) (s, u) q) in
        let some = eqb-false k 0 p in
        omega arith

-- ---- more than enough is as good
enough : (n m place : ℕ) (cs : List ℕ) → length cs ≤ n → length cs ≤ m → first_outputs n place cs ≡ first_outputs m place cs
enough zero zero place cs h k = refl
enough zero (suc m) place [] h k = refl
enough zero (suc m) place (c ∷ cs) h k = absurd (omega arith)
enough (suc n) zero place [] h k = refl
enough (suc n) zero place (c ∷ cs) h k = absurd (omega arith)
enough (suc n) (suc m) place cs h k = go (λ p some. enough n m (place + p.1) (drop p.1 cs) (omega (arith, length-drop p.1 cs)) (omega (arith, length-drop p.1 cs))) (output_at place cs) refl
  where
    go : ((p : Shape × ℕ) → 0 < p.1 → first_outputs n (place + p.1) (drop p.1 cs) ≡ first_outputs m (place + p.1) (drop p.1 cs)) → (o : Option (Shape × ℕ)) → output_at place cs ≡ o → on_some o [] (λ p. p.0 ∷ first_outputs n (place + p.1) (drop p.1 cs)) ≡ on_some o [] (λ p. p.0 ∷ first_outputs m (place + p.1) (drop p.1 cs))
    go further None e = refl
    go further (Some p) e = ap (λ (l : List Shape). p.0 ∷ l) (further p (sized place cs p.0 p.1 e))

-- ---- a text
over : (n place : ℕ) (cs : List ℕ) → output_at place cs ≡ None → first_outputs n place cs ≡ []
over zero place cs e = refl
over (suc n) place cs e = rw e refl

goes : (n place : ℕ) (cs : List ℕ) (s : Shape) (u : ℕ) → length cs ≤ n → output_at place cs ≡ Some (s, u) → first_outputs n place cs ≡ s ∷ first_outputs n (place + u) (drop u cs)
goes zero place [] s u h e = nothing (s, u) e
goes zero place (c ∷ cs) s u h e = absurd (omega arith)
goes (suc n) place cs s u h e =
    let some = sized place cs s u e in
    rw e (ap (λ (l : List Shape). s ∷ l) (enough n (suc n) (place + u) (drop u cs) (omega (arith, length-drop u cs)) (omega (arith, length-drop u cs))))

pub outputs_end : (text : List ℕ) (place : ℕ) → None ≡ output_at place (drop place text) → outputs_from place text ≡ []
outputs_end text place e = over (length text) place (drop place text) (sym e)

pub outputs_go : (text : List ℕ) (place : ℕ) (s : Shape) (u : ℕ) → Some (s, u) ≡ output_at place (drop place text) → outputs_from place text ≡ s ∷ outputs_from (place + u) text
outputs_go text place s u e =
    goes (length text) place (drop place text) s u (omega (arith, length-drop place text)) (sym e)
    ∙ ap (λ (l : List ℕ). s ∷ first_outputs (length text) (place + u) l) (drop-drop u place text)

-- ---- a body that is read
read_by : (left n place : ℕ) (cs : List ℕ) (ss : List Shape) (o : Option (Shape × ℕ)) → output_at place cs ≡ o → length cs ≤ n → body_at left place cs ≡ Ok ss → first_outputs n place cs ≡ ss
read_by left n place cs ss None o h e = over n place cs o ∙ same_ok [] ss (sym (body_over left place cs (ap is_ok e) o) ∙ e)
read_by zero n place cs ss (Some p) o h e = absurd (body_full place cs p.0 p.1 (ap is_ok e) o)
read_by (suc left) n place cs ss (Some p) o h e =
    let r = by_on_ok (body_at left (place + p.1) (drop p.1 cs)) (λ ss. Ok (p.0 ∷ ss)) ss (sym (body_goes left place cs p.0 p.1 (ap is_ok e) o) ∙ e) in
    let rest = read_by left n (place + p.1) (drop p.1 cs) r.0 (output_at (place + p.1) (drop p.1 cs)) refl (omega (arith, length-drop p.1 cs)) r.1 in
    goes n place cs p.0 p.1 h o ∙ ap (λ (l : List Shape). p.0 ∷ l) rest ∙ same_ok (p.0 ∷ r.0) ss r.2

-- the pieces that are read are those that stand there
pub outputs_read : (left : ℕ) (text : List ℕ) (place : ℕ) (ss : List Shape) → body_at left place (drop place text) ≡ Ok ss → outputs_from place text ≡ ss
outputs_read left text place ss e =
    read_by left (length text) place (drop place text) ss (output_at place (drop place text)) refl (omega (arith, length-drop place text)) e
