-- Where the pieces of a template stand, by what is answered of it.
use Rattle.std.proofs.Common.{◌≡◌, ℕ, zero, suc, ◌+◌, ◌≤◌, Bool, true, false, cond, leb, List, [], ◌∷◌, length, take, drop, Ok, Result, sym, refl, ap, ◌∙◌, subst, ap₂, arith, length-take}
use Rattle.std.proofs.lemmas.List.{drop-take}
use Rattle.std.proofs.lemmas.Bool.{leb-true}
use Rattle.refusal.specs.declared.error.FormatterError.TheVariants.{TemplateTooLong}
use Rattle.grammar.specs.Limits.{piece_allowance, template_limit}
use Rattle.grammar.specs.Results.{on_ok, refusal, Fault}
use Rattle.grammar.specs.Shapes.{Shape}
use Rattle.grammar.specs.Templates.{Typed, prefix_at, suffix_at, body_at, template_at, formatter_at}
use Rattle.grammar.proofs.Chains.{by_on_ok, same_ok, refused}
use Rattle.templates.specs.Outputs.{outputs_of}
use Rattle.templates.specs.Views.{Summary, summary, summed, seen}
use Rattle.templates.specs.declared.defns_const.FormatterConst.{FormatterConst}
use Rattle.templates.proofs.OutputsLeft.{outputs_read}

-- the pieces of a body, closed so that they are not unrolled
unfoldable pieces : ℕ → List ℕ → Result (List Shape) Fault
pieces place cs = body_at piece_allowance place cs

abbrev typed : ℕ → ℕ → ℕ → List ℕ → List Shape → Typed
typed l r place body ss = record { left = l; right = r; place = place; body = body; shapes = ss }

template_is : (cs : List ℕ) → template_at cs ≡ on_ok (prefix_at cs) (λ p. on_ok (suffix_at p.1 (drop p.1 cs)) (λ s. on_ok (pieces p.1 (take s.1 (drop p.1 cs))) (λ ss. Ok (typed p.0 s.0 p.1 (take s.1 (drop p.1 cs)) ss))))
unfolding pieces
template_is cs = refl

record Framed (cs : List ℕ) (t : Typed) : Type 0 where
  body : drop t.place (take (t.place + length t.body) cs) ≡ t.body
  shapes : pieces t.place t.body ≡ Ok t.shapes

again : (n : ℕ) (xs : List ℕ) → take (length (take n xs)) xs ≡ take n xs
again zero xs = refl
again (suc n) [] = refl
again (suc n) (x ∷ xs) = ap (λ l. x ∷ l) (again n xs)

framed : (cs : List ℕ) (t : Typed) → template_at cs ≡ Ok t → Framed cs t
framed cs t e =
    let p = by_on_ok (prefix_at cs) _ t (sym (template_is cs) ∙ e) in
    let s = by_on_ok (suffix_at p.0.1 (drop p.0.1 cs)) _ t p.2 in
    let b = by_on_ok (pieces p.0.1 (take s.0.1 (drop p.0.1 cs))) _ t s.2 in
    subst (Framed cs) (same_ok (typed p.0.0 s.0.0 p.0.1 (take s.0.1 (drop p.0.1 cs)) b.0) t b.2)
    (record { body = drop-take p.0.1 (length (take s.0.1 (drop p.0.1 cs))) cs ∙ again s.0.1 (drop p.0.1 cs); shapes = b.1 })

-- a template of any length that is read is short
pub record Taken (cs : List ℕ) (t : Typed) : Type 0 where
  pub short : length cs ≤ template_limit
  pub reads : template_at cs ≡ Ok t

pub taken : (cs : List ℕ) (t : Typed) → formatter_at cs ≡ Ok t → Taken cs t
taken cs t e = go (leb (length cs) template_limit) refl e
  where
    go : (b : Bool) → leb (length cs) template_limit ≡ b → cond b (template_at cs) (refusal TemplateTooLong 0 0) ≡ Ok t → Taken cs t
    go true h e = record { short = leb-true _ _ h; reads = e }
    go false h e = refused _ t e

-- the pieces are those that stand in the answer's text
stands : (cs : List ℕ) (t : Typed) (parts : FormatterConst) → summary cs t ≡ seen parts → Framed cs t → pieces parts.start (drop parts.start parts.text.now) ≡ Ok t.shapes
stands cs t parts e f =
    let place : parts.start ≡ t.place = sym (ap (λ (s : Summary). s.start) e) in
    let text : parts.text.now ≡ take (t.place + length t.body) cs = sym (ap (λ (s : Summary). s.front) e) in
    ap₂ (λ n l. pieces n (drop n l)) place text ∙ ap (pieces t.place) f.body ∙ f.shapes

-- what is known of a template that is read
pub record Known (cs : List ℕ) (parts : FormatterConst) : Type 0 where
  pub typed : Typed
  pub found : formatter_at cs ≡ Ok typed
  pub same : summary cs typed ≡ seen parts
  pub short : length parts.text.now ≤ template_limit
  pub shapes : body_at piece_allowance parts.start (drop parts.start parts.text.now) ≡ Ok typed.shapes

pub shapes_are : (cs : List ℕ) (parts : FormatterConst) (t : Typed) → formatter_at cs ≡ Ok t → summary cs t ≡ seen parts → body_at piece_allowance parts.start (drop parts.start parts.text.now) ≡ Ok t.shapes
unfolding pieces
shapes_are cs parts t e h = stands cs t parts h (framed cs t (taken cs t e).reads)

text_short : (cs : List ℕ) (parts : FormatterConst) (t : Typed) → formatter_at cs ≡ Ok t → summary cs t ≡ seen parts → length parts.text.now ≤ template_limit
text_short cs parts t e h =
    let text : parts.text.now ≡ take (t.place + length t.body) cs = sym (ap (λ (s : Summary). s.front) h) in
    omega (arith, ap length text, length-take (t.place + length t.body) cs, (taken cs t e).short)

pub known : (cs : List ℕ) (parts : FormatterConst) → Ok (seen parts) ≡ on_ok (formatter_at cs) (summed cs) → Known cs parts
known cs parts e =
    let t = by_on_ok (formatter_at cs) (summed cs) (seen parts) (sym e) in
    let same = same_ok (summary cs t.0) (seen parts) t.2 in
    record {
      typed = t.0;
      found = t.1;
      same = same;
      short = text_short cs parts t.0 t.1 same;
      shapes = shapes_are cs parts t.0 t.1 same;
    }

pub outputs_are : (cs : List ℕ) (parts : FormatterConst) (k : Known cs parts) → outputs_of parts ≡ k.typed.shapes
outputs_are cs parts k = outputs_read piece_allowance parts.text.now parts.start k.typed.shapes k.shapes
