-- An engine that starts empty holds only texts that have a count.
use Rattle.std.proofs.Common.{◌≡◌, ℕ, true, List, is_some, Some, None, Option, sym, refl, ap, ◌∙◌, subst, ⊎_elim}
use Rattle.std.proofs.lemmas.Bool.{cases_eq}
use Rattle.engine.specs.Rules.{Rule}
use Rattle.engine.specs.Holdings.{View, Fixed, Took, Freed, Kept, unprepared, refusal_of, load, Counted}

-- a text that is not refused has a count
prepared_counted : (r : Option ℕ) (n size : ℕ) → unprepared r n size ≡ None → is_some r ≡ true
prepared_counted None n size e = cc
prepared_counted (Some k) n size e = refl

by_rule : (v w : View) → Fixed v w → (text : List ℕ) → is_some (v.rule.count text) ≡ true → is_some (w.rule.count text) ≡ true
by_rule v w f text e = ap (λ (r : Rule). is_some (r.count text)) f.rules ∙ e

pub counted-empty : (v : View) → ((k : ℕ) → v.held k ≡ None) → Counted v
counted-empty v h k text e = let a = h k in cc

pub counted-kept : (v w : View) → Fixed v w → Kept v.held w.held → Counted v → Counted w
counted-kept v w f h c k text e = by_rule v w f text (c k text (sym (h k) ∙ e))

pub counted_took : (v w : View) (n : ℕ) (text : List ℕ) → Fixed v w → refusal_of v text ≡ None → Took v.held w.held n text → Counted v → Counted w
counted_took v w n text f r h c k t e = ⊎_elim here elsewhere (cases_eq k n)
  where
    here : k ≡ n → is_some (w.rule.count t) ≡ true
    here q =
        let a : w.held n ≡ Some t = sym (ap (λ (j : ℕ). w.held j) q) ∙ e in
        let b = h.holds in
        let s : text ≡ t = cc in
        let P : List ℕ → Type 0 = λ t. is_some (w.rule.count t) ≡ true in
        subst P s (by_rule v w f text (prepared_counted (v.rule.count text) (load v) v.size r))

    elsewhere : (k ≡ n → ⊥) → is_some (w.rule.count t) ≡ true
    elsewhere ne = by_rule v w f t (c k t (sym (h.others k ne) ∙ e))

pub counted_freed : (v w : View) (n : ℕ) → Fixed v w → Freed v.held w.held n → Counted v → Counted w
counted_freed v w n f h c k t e = ⊎_elim here elsewhere (cases_eq k n)
  where
    here : k ≡ n → is_some (w.rule.count t) ≡ true
    here q =
        let a : w.held n ≡ Some t = sym (ap (λ (j : ℕ). w.held j) q) ∙ e in
        let b = h.free in
        cc

    elsewhere : (k ≡ n → ⊥) → is_some (w.rule.count t) ≡ true
    elsewhere ne = by_rule v w f t (c k t (sym (h.others k ne) ∙ e))
