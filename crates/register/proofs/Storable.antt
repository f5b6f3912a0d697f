-- Templates that a register may have: accepted, with a code that is short enough. Their codes tell their readings.
use Rattle.std.proofs.Common.{◌≡◌, ℕ, ◌≤◌, Bool, true, false, cond, leb, List, [], ◌++◌, length, Some, Ok, Err, sym, refl, ap, ◌∙◌, append-nil}
use Rattle.std.specs.List.{AllByRecursion as All}
use Rattle.std.proofs.lemmas.Bool.{leb-true, le-leb, cond-true}
use Rattle.codes.specs.Acceptable.{code_limit, AcceptedAs, decode}
use Rattle.codes.specs.Calls.{written_back, some_or}
use Rattle.codes.specs.Code.{code}
use Rattle.codes.specs.Formed.{FormedTemplate}
use Rattle.codes.specs.Written.{write}
use Rattle.codes.specs.declared.error.CodeError.TheVariants.{NoCode}
use Rattle.codes.proofs.Accepted.{accepted_formed}
use Rattle.codes.proofs.Templates.{prefix_free_lem}
use Rattle.codes.proofs.Trips.{decodes_accepted, round_trip}
use Rattle.codes.proofs.Whole.{decodes}
use Rattle.grammar.specs.Deep.{deep_at, reading_at}
use Rattle.grammar.specs.Limits.{template_limit}
use Rattle.grammar.specs.Readings.{Template, Byte}
use Rattle.grammar.specs.Results.{on_ok, located}
use Rattle.refusal.specs.Refusals.{of_template}
use Rattle.refusal.specs.declared.error.FormatterError.TheVariants.{TemplateTooLong}
use Rattle.grammar.proofs.Chains.{refused}
use Rattle.grammar.proofs.Readers.{read_as_the_grammar_lem, one_reading}
use Rattle.register.specs.Contents.{decoded}
use Rattle.register.specs.Laws.{Shared, Again}
use Rattle.register.specs.Register.{reading_of, code_of, ok_or, bare}
use Rattle.register.specs.Standing.{or_else}

pub record Storable (t : List ℕ) : Type 0 where
  pub reading : Template
  pub typed : All Byte t
  pub read : deep_at t ≡ Ok reading
  pub short : length (code reading) ≤ code_limit

pub deep_accepted : (t : List ℕ) (r : Template) → All Byte t → deep_at t ≡ Ok r → AcceptedAs t r
deep_accepted t r h = go (leb (length t) template_limit) refl
  where
    go : (b : Bool) → leb (length t) template_limit ≡ b → cond b (reading_at t) (Err (of_template (located TemplateTooLong 0 0))) ≡ Ok r → AcceptedAs t r
    go true l e = let k = (read_as_the_grammar_lem t r).0 e in record { typed = h; short = leb-true _ _ l; reads = k.0; within = k.1 }
    go false l e = refused _ r e

pub accepted_deep : (t : List ℕ) (r : Template) → AcceptedAs t r → deep_at t ≡ Ok r
accepted_deep t r a = cond-true _ _ _ (le-leb _ _ a.short) ∙ (read_as_the_grammar_lem t r).1 (a.reads, a.within)

pub accepted-one : (t : List ℕ) (r q : Template) → AcceptedAs t r → AcceptedAs t q → r ≡ q
accepted-one t r q a b = one_reading t r q a.reads b.reads a.within b.within

pub reading_is : (t : List ℕ) (r : Template) → deep_at t ≡ Ok r → reading_of t ≡ r
reading_is t r e = ap (ok_or bare) e

module _ (t : List ℕ) (s : Storable t) where
  pub reads : reading_of t ≡ s.reading
  reads = reading_is t s.reading s.read

  pub accepted : AcceptedAs t s.reading
  accepted = deep_accepted t s.reading s.typed s.read

  pub code_is : code_of t ≡ code s.reading
  code_is = ap code reads

  pub decodes_to : decode (code s.reading) ≡ Some s.reading
  decodes_to = (decodes_accepted decodes (code s.reading) s.reading).1 (record { template = t; accepted = accepted; is = refl; fits = s.short })

  -- a stored code tells the reading of its template
  pub decoded_is : decoded (code_of t) ≡ reading_of t
  decoded_is = ap decoded code_is ∙ ap (λ o. or_else o bare) decodes_to ∙ sym reads

  pub formed : FormedTemplate s.reading
  formed = (accepted_formed t s.reading accepted).0

  pub again : Again t
  again = record {
    written = write s.reading;
    back = ap written_back code_is ∙ ap (λ o. on_ok (some_or NoCode o) (λ r. Ok (write r))) decodes_to;
    accepted = rw reads (round_trip decodes (code s.reading) s.reading decodes_to).0;
    same = ap code (reading_is (write s.reading) s.reading (accepted_deep _ _ (round_trip decodes (code s.reading) s.reading decodes_to).0)) ∙ sym code_is;
  }

module _ (s t : List ℕ) (a : Storable s) (b : Storable t) where
  -- a code that stands in front of something is told by what is there
  pub begun : (x : List ℕ) → code_of s ++ x ≡ code_of t → (a.reading ≡ b.reading) × (x ≡ [])
  begun x e =
      prefix_free_lem a.reading b.reading x [] (formed s a) (formed t b)
      (ap (λ c. c ++ x) (sym (code_is s a)) ∙ e ∙ code_is t b ∙ sym (append-nil (code b.reading)))

  pub shared : code_of s ≡ code_of t → Shared s t
  shared e =
      let q = (begun [] (append-nil (code_of s) ∙ e)).0 in
      (a.reading, accepted s a, rw q (accepted t b))

  pub equal : Shared s t → code_of s ≡ code_of t
  equal p =
      let q = accepted-one s a.reading p.0 (accepted s a) p.1 in
      let r = accepted-one t b.reading p.0 (accepted t b) p.2 in
      code_is s a ∙ ap code (q ∙ sym r) ∙ sym (code_is t b)
