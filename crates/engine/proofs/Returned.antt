-- A pattern that is prepared and given back leaves the holding as it was.
use Rattle.std.proofs.Common.{◌≡◌, ℕ, List, sym, ap, ◌∙◌, ⊎_elim}
use Rattle.std.proofs.lemmas.Bool.{cases_eq}
use Rattle.engine.specs.Holdings.{View, Held, Fixed, Took, Freed, Kept}

pub returned : (before between after : Held) (n : ℕ) (text : List ℕ) → Took before between n text → Freed between after n → Kept before after
returned before between after n text t f k = ⊎_elim here elsewhere (cases_eq k n)
  where
    here : k ≡ n → after k ≡ before k
    here e = ap after e ∙ f.free ∙ sym t.free ∙ sym (ap before e)

    elsewhere : (k ≡ n → ⊥) → after k ≡ before k
    elsewhere ne = f.others k ne ∙ t.others k ne

pub fixed_both : (u v w : View) → Fixed u v → Fixed v w → Fixed u w
fixed_both u v w f g = record { rules = g.rules ∙ f.rules; sizes = g.sizes ∙ f.sizes }
