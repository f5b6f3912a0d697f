-- A definition from its matcher and its template.
use Rattle.std.proofs.Common.{◌≡◌, ℕ, ◌<◌, ◌≤◌, Bool, true, false, cond, leb, ◌⊎◌, List, length, None, Ok, Err, Result, sym, refl, ap, ◌∙◌, inl, inr}
use Rattle.std.proofs.lemmas.Bool.{le-leb, lt-leb}
use Rattle.refusal.specs.Refusals.{joint_formatter, joint_matcher}
use Rattle.refusal.specs.declared.error.EitherError.{EitherError}
use Rattle.refusal.specs.declared.error.FormatterError.TheVariants.{TemplateTooLong}
use Rattle.refusal.specs.declared.error.MatcherError.{MatcherError}
use Rattle.refusal.specs.declared.error.MatcherError.TheVariants.{MatcherTooLong}
use Rattle.refusal.specs.declared.error.ParseError.{ParseError}
use Rattle.grammar.proofs.Chains.{by_on_ok, same_ok}
use Rattle.grammar.specs.Limits.{matcher_limit, template_limit}
use Rattle.grammar.specs.Matchers.{Matched, matcher_read, matcher_at, joined, definition_at}
use Rattle.grammar.specs.Results.{on_ok, on_err, located, Fault}
use Rattle.grammar.specs.Templates.{Typed, template_at, most_typed}
use Rattle.templates.specs.Views.{Summary, summary, summed, defined}

-- the template, closed so that it is not unrolled
unfoldable template : List ℕ → Result Typed Fault
template t = template_at t

inner : List ℕ → List ℕ → Result (Matched × Typed) (ParseError EitherError)
inner m t = on_ok (on_err joint_matcher (matcher_read m)) (λ a. on_ok (on_err joint_formatter (template t)) (λ b. joined (length m) a b))

definition_is : (m t : List ℕ) → definition_at m t ≡ cond (leb (length m) matcher_limit) (cond (leb (length t) template_limit) (inner m t) (Err (joint_formatter (located TemplateTooLong 0 0)))) (Err (joint_matcher (located MatcherTooLong 0 0)))
unfolding template inner
definition_is m t = refl

pub template_long : (m t : List ℕ) → length m ≤ matcher_limit → template_limit < length t → Err (joint_formatter (located TemplateTooLong 0 0)) ≡ on_ok (definition_at m t) (defined t)
template_long m t h l = rw (definition_is m t, le-leb (length m) matcher_limit h, lt-leb (length t) template_limit l) refl

module _ (m t : List ℕ) (h : length m ≤ matcher_limit) (l : length t ≤ template_limit) where
  short_is : definition_at m t ≡ inner m t
  short_is = rw (definition_is m t, le-leb (length m) matcher_limit h, le-leb (length t) template_limit l) refl

  matcher_is : matcher_at m ≡ matcher_read m
  matcher_is = rw (le-leb (length m) matcher_limit h) refl

  pub matcher_refused : (e : ParseError MatcherError) → Err e ≡ matcher_at m → Err (joint_matcher e) ≡ on_ok (definition_at m t) (defined t)
  unfolding inner
  matcher_refused e q =
      let r : matcher_read m ≡ Err e = sym (q ∙ matcher_is) in
      rw (short_is, r) refl

  both_read : (a : Matched) (b : Typed) → matcher_read m ≡ Ok a → template t ≡ Ok b → definition_at m t ≡ joined (length m) a b
  unfolding inner
  both_read a b p q = rw (short_is, p, q) refl

  allowed : (a : Matched) (b : Typed) → (a.pattern ≡ true) ⊎ (most_typed None b.shapes ≡ None) → joined (length m) a b ≡ Ok (a, b)
  allowed a b (inl p) = rw p refl
  allowed a b (inr p) = go a.pattern refl where
    go : (x : Bool) → a.pattern ≡ x → joined (length m) a b ≡ Ok (a, b)
    go true e = rw e refl
    go false e = rw e (rw p refl)

  read_template_lem : (s : Summary) → Ok s ≡ on_ok (template_at t) (summed t) → (b : Typed) × (template t ≡ Ok b) × (summary t b ≡ s)
  unfolding template
  read_template_lem s e =
      let (b, p, q) = by_on_ok (template_at t) (summed t) s (sym e) in
      (b, p, same_ok (summary t b) s q)

  pub both_accepted : (a : Matched) (s : Summary) → Ok a ≡ matcher_at m → Ok s ≡ on_ok (template_at t) (summed t) → (a.pattern ≡ true) ⊎ (s.most ≡ None) → Ok (a, s) ≡ on_ok (definition_at m t) (defined t)
  both_accepted a s p e w =
      let (b, q, r) = read_template_lem s e in
      let k : most_typed None b.shapes ≡ s.most = ap (λ (x : Summary). x.most) r in
      let v : (a.pattern ≡ true) ⊎ (most_typed None b.shapes ≡ None) = elim w [ inl x ↦ inl x | inr x ↦ inr (k ∙ x) ] in
      let d = both_read a b (sym (p ∙ matcher_is)) q ∙ allowed a b v in
      ap (λ (x : Summary). Ok (a, x)) (sym r) ∙ ap (λ (x : Result (Matched × Typed) (ParseError EitherError)). on_ok x (defined t)) (sym d)
