-- A code is decoded exactly where it is one: whatever number of steps is allowed, as the same reading or not at all.
use Rattle.std.proofs.Common.{◌≡◌, ℕ, Bool, true, false, cond, ◌&&◌, leb, List, [], ◌∷◌, ◌++◌, length, Some, None, sym, refl, ap, ◌∙◌, subst, append-nil, arith}
use Rattle.std.proofs.lemmas.Bool.{and_parts, leb-true, le-leb}
use Rattle.grammar.proofs.Chains.{nothing as none, same_some}
use Rattle.grammar.specs.Readings.{Template}
use Rattle.codes.specs.Acceptable.{code_limit, acceptable, decode_by, Coded}
use Rattle.codes.specs.Code.{code}
use Rattle.codes.specs.Decode.{template_at}
use Rattle.codes.specs.Laws.{Decodes, FewerSteps}
use Rattle.codes.specs.Written.{empty}
use Rattle.codes.proofs.Words.{by_on_some}
use Rattle.codes.proofs.Templates.{template_told}

pub is_empty_lem : (cs : List ℕ) → empty cs ≡ true → cs ≡ []
is_empty_lem [] e = refl
is_empty_lem (c ∷ cs) e = let b : ◌≡◌ {A = ℕ} 0 1 = cc in absurd (omega arith)

pub coded : (n : ℕ) (c : List ℕ) (r : Template) → decode_by n c ≡ Some r → Coded n c r
coded n c r e = let b = by_on_some (template_at c) _ r e in go b.0 b.1 (empty b.0.1 && (leb (length c) code_limit && acceptable n b.0.0)) refl b.2
  where
    go : (p : Template × List ℕ) → template_at c ≡ Some p → (t : Bool) → (empty p.1 && (leb (length c) code_limit && acceptable n p.0)) ≡ t → cond t (Some p.0) None ≡ Some r → Coded n c r
    go p m false q f = none _ f
    go p m true q f =
        let x = and_parts (empty p.1) (leb (length c) code_limit && acceptable n p.0) q in
        let y = and_parts (leb (length c) code_limit) (acceptable n p.0) x.1 in
        let d = (template_told c p.0 p.1).0 m in
        subst (Coded n c) (same_some _ _ f) (record {
          is = d.0 ∙ ap (λ l. code p.0 ++ l) (is_empty_lem p.1 x.0) ∙ append-nil (code p.0);
          formed = d.1;
          allowed = y.1;
          short = leb-true _ _ y.0;
        })

-- what is formed and short enough is decoded by its steps alone
pub by_steps : (n m : ℕ) (c : List ℕ) (r : Template) → Coded m c r → decode_by n c ≡ cond (acceptable n r) (Some r) None
by_steps n m c r h =
    let d = (template_told c r []).1 (h.is ∙ sym (append-nil (code r)), h.formed) in
    rw (d, le-leb (length c) code_limit h.short)

pub decodes : Decodes
decodes n c r = (coded n c r, λ h. by_steps n n c r h ∙ ap (λ b. cond b (Some r) None) h.allowed)

is_false : (b : Bool) → (b ≡ true → ⊥) → b ≡ false
is_false true h = absurd (h refl)
is_false false h = refl

pub fewer_steps : FewerSteps
fewer_steps n m c r e =
    let d = by_steps n m c r (coded m c r e) in
    ((λ a. d ∙ ap (λ b. cond b (Some r) None) a), λ a. d ∙ ap (λ b. cond b (Some r) None) (is_false _ a))
