-- A walk over a body that is read meets its pieces.
use Rattle.std.proofs.Common.{◌≡◌, ℕ, zero, suc, ◌+◌, List, [], ◌∷◌, drop, true, is_ok, Some, None, Ok, Option, Result, sym, refl, ap, ◌∙◌}
use Rattle.grammar.specs.Shapes.{Shape}
use Rattle.grammar.specs.Templates.{body_at}
use Rattle.grammar.proofs.Chains.{by_on_ok, same_ok}
use Rattle.formatter.specs.Reading.{Walked, over, goes, OutputsWalk}
use Rattle.templates.specs.Views.{output_at}
use Rattle.templates.proofs.ReadBodies.{body_over, body_goes, body_full}

ok : {A E : Type 0} (m : Result A E) (x : A) → m ≡ Ok x → is_ok m ≡ true
ok m x e = ap is_ok e

none_left : (place : ℕ) (cs : List ℕ) (ss : List Shape) → output_at place cs ≡ None → [] ≡ ss → Walked place cs ss
none_left place cs ss o e = rw (← e) (over o)

walks_by : (left : ℕ) → ((place : ℕ) (cs : List ℕ) (ss : List Shape) → body_at left place cs ≡ Ok ss → Walked place cs ss) → (place : ℕ) (cs : List ℕ) (ss : List Shape) → body_at (suc left) place cs ≡ Ok ss → Walked place cs ss
walks_by left ih place cs ss e = go (output_at place cs) refl
  where
    go : (o : Option (Shape × ℕ)) → output_at place cs ≡ o → Walked place cs ss
    go None h = none_left place cs ss h (same_ok [] ss (sym (body_over (suc left) place cs (ok (body_at (suc left) place cs) ss e) h) ∙ e))
    go (Some p) h =
        let b = body_goes left place cs p.0 p.1 (ok (body_at (suc left) place cs) ss e) h in
        let t = by_on_ok (body_at left (place + p.1) (drop p.1 cs)) (λ ss. Ok (p.0 ∷ ss)) ss (sym b ∙ e) in
        let same = same_ok (p.0 ∷ t.0) ss t.2 in
        rw (← same) (goes h (ih (place + p.1) (drop p.1 cs) t.0 t.1))

pub outputs_walk : OutputsWalk
outputs_walk zero place cs ss e = go (output_at place cs) refl
  where
    go : (o : Option (Shape × ℕ)) → output_at place cs ≡ o → Walked place cs ss
    go None h = none_left place cs ss h (same_ok [] ss (sym (body_over zero place cs (ok (body_at zero place cs) ss e) h) ∙ e))
    go (Some p) h = absurd (body_full place cs p.0 p.1 (ok (body_at zero place cs) ss e) h)
outputs_walk (suc left) place cs ss e = walks_by left (outputs_walk left) place cs ss e
