-- What a call on codes has written, and which templates have a code that is answered.
use Rattle.std.proofs.Common.{◌≡◌, ℕ, ◌≤◌, Bool, true, false, cond, leb, List, ◌++◌, length, take, drop, is_ok, IfOk, Ok, Err, Decides, Result, sym, refl, ap, ◌∙◌, subst, arith}
use Rattle.std.proofs.lemmas.List.{take-append-le, take_all}
use Rattle.std.proofs.lemmas.Bool.{leb-true, le-leb, false≢true}
use Rattle.std.specs.List.{AllByRecursion as All}
use Rattle.grammar.proofs.Chains.{by_on_ok, by_on_err, same_ok, refused}
use Rattle.grammar.proofs.Readers.{read_as_the_grammar_lem}
use Rattle.grammar.specs.Deep.{reading_at, deep_at}
use Rattle.grammar.specs.Limits.{template_limit}
use Rattle.grammar.specs.Readings.{Template, Byte}
use Rattle.grammar.specs.Results.{on_ok, on_err, located}
use Rattle.refusal.specs.Refusals.{of_template}
use Rattle.refusal.specs.declared.error.FormatterError.TheVariants.{TemplateTooLong}
use Rattle.codes.specs.Acceptable.{code_limit, AcceptedAs, Coding, Codable}
use Rattle.codes.specs.Calls.{filled, after, short_code, encoded}
use Rattle.codes.specs.Code.{code}
use Rattle.codes.specs.Faults.{of_formatter}
use Rattle.codes.specs.declared.error.CodeError.TheVariants.{CodeTooLong, BufferTooShort}
use Rattle.codes.specs.declared.error.EncodeError.{EncodeError}
use Rattle.codes.specs.declared.error.EncodeError.TheVariants.{Code}

-- ---- the bytes that an answered number counts are those that were to be written
pub filled_with : {E : Type 0} (short : E) (m : Result (List ℕ) E) (b b' : List ℕ) (r : Result ℕ E) (P : List ℕ → Type 0) → r ≡ filled short m b → b' ≡ after m b → ((w : List ℕ) → m ≡ Ok w → P w) → IfOk r (λ n. P (take n b'))
filled_with {E} short (Err e) b b' r P f g h = subst (λ (r : Result ℕ E). IfOk r (λ n. P (take n b'))) (sym f) tt
filled_with {E} short (Ok w) b b' r P f g h = go (leb (length w) (length b)) f g
  where
    go : (t : Bool) → r ≡ cond t (Ok (length w)) (Err short) → b' ≡ cond t (w ++ drop (length w) b) b → IfOk r (λ n. P (take n b'))
    go false f g = subst (λ (r : Result ℕ E). IfOk r (λ n. P (take n b'))) (sym f) tt
    go true f g =
        let e : take (length w) b' ≡ w = ap (take (length w)) g ∙ take-append-le (length w) w (drop (length w) b) (omega arith) ∙ take_all (length w) w (omega arith) in
        subst (λ (r : Result ℕ E). IfOk r (λ n. P (take n b'))) (sym f) (subst P (sym e) (h w refl))

-- ---- a template is read exactly where it is accepted
read_accepted : (cs : List ℕ) (r : Template) → All Byte cs → deep_at cs ≡ Ok r → AcceptedAs cs r
read_accepted cs r b e = go (leb (length cs) template_limit) refl e
  where
    go : (t : Bool) → leb (length cs) template_limit ≡ t → cond t (reading_at cs) (Err (of_template (located TemplateTooLong 0 0))) ≡ Ok r → AcceptedAs cs r
    go true p q = let g = (read_as_the_grammar_lem cs r).0 q in record { typed = b; short = leb-true _ _ p; reads = g.0; within = g.1 }
    go false p q = refused _ _ q

accepted_read : (cs : List ℕ) (r : Template) → AcceptedAs cs r → deep_at cs ≡ Ok r
accepted_read cs r a = rw (le-leb (length cs) template_limit a.short) ((read_as_the_grammar_lem cs r).1 (a.reads, a.within))

-- ---- and its code is answered where it is short enough
short-code : (r : Template) (w : List ℕ) → short_code r ≡ Ok w → (code r ≡ w) × (length (code r) ≤ code_limit)
short-code r w e = go (leb (length (code r)) code_limit) refl e
  where
    go : (t : Bool) → leb (length (code r)) code_limit ≡ t → cond t (Ok (code r)) (Err (Code CodeTooLong)) ≡ Ok w → (code r ≡ w) × (length (code r) ≤ code_limit)
    go true p q = (same_ok _ _ q, leb-true _ _ p)
    go false p q = refused _ _ q

record Found (cs w : List ℕ) : Type 0 where
  reading : Template
  accepted : AcceptedAs cs reading
  same : code reading ≡ w
  short : length (code reading) ≤ code_limit

found : (cs w : List ℕ) → All Byte cs → encoded cs ≡ Ok w → Found cs w
found cs w b e =
    let p = by_on_ok (on_err of_formatter (deep_at cs)) short_code w e in
    let s = short-code p.0 w p.2 in
    record { reading = p.0; accepted = read_accepted cs p.0 b (by_on_err of_formatter (deep_at cs) p.0 p.1); same = s.0; short = s.1 }

pub encoded_coding : (cs w : List ℕ) → All Byte cs → encoded cs ≡ Ok w → Coding cs w
encoded_coding cs w b e = let f = found cs w b e in record { reading = f.reading; accepted = f.accepted; same = f.same }

codable : (cs b : List ℕ) → All Byte cs → (m : Result (List ℕ) EncodeError) → encoded cs ≡ m → is_ok (filled (Code BufferTooShort) m b) ≡ true → Codable cs (length b)
codable cs b h (Err x) e k = absurd (false≢true k)
codable cs b h (Ok w) e k = go (leb (length w) (length b)) refl k
  where
    go : (t : Bool) → leb (length w) (length b) ≡ t → is_ok (cond t (Ok (length w)) (Err (Code BufferTooShort))) ≡ true → Codable cs (length b)
    go false p q = absurd (false≢true q)
    go true p q =
        let f = found cs w h e in
        record { reading = f.reading; accepted = f.accepted; short = f.short; fits = subst (λ (l : List ℕ). length l ≤ length b) (sym f.same) (leb-true _ _ p) }

answered : (cs b : List ℕ) → Codable cs (length b) → is_ok (filled (Code BufferTooShort) (encoded cs) b) ≡ true
answered cs b c =
    let r = c.reading in
    let e : encoded cs ≡ Ok (code r) = ap (λ d. on_ok (on_err of_formatter d) short_code) (accepted_read cs r c.accepted) ∙ ap (λ t. cond t (Ok (code r)) (Err (Code CodeTooLong))) (le-leb _ _ c.short) in
    ap (λ m. is_ok (filled (Code BufferTooShort) m b)) e ∙ ap (λ t. is_ok (cond t (Ok (length (code r))) (Err (Code BufferTooShort)))) (le-leb _ _ c.fits)

-- a number is answered exactly for an accepted template whose code is short enough and has room
pub encodes_exactly : (cs b : List ℕ) (r : Result ℕ EncodeError) → All Byte cs → r ≡ filled (Code BufferTooShort) (encoded cs) b → Decides (is_ok r) (Codable cs (length b))
encodes_exactly cs b r h e = ((λ k. codable cs b h (encoded cs) refl (sym (ap is_ok e) ∙ k)), λ c. ap is_ok e ∙ answered cs b c)
