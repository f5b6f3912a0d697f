-- What is answered is the reading that the grammar and the limits give.
use Rattle.std.proofs.Common.{◌≡◌, ℕ, Bool, true, false, cond, leb, List, [], length, drop, Ok, Err, Option, Result, sym, ap, ◌∙◌, subst, arith}
use Rattle.std.proofs.lemmas.Bool.Decides.{nat_tests}
use Rattle.refusal.specs.Refusals.{of_template}
use Rattle.grammar.specs.Deep.{DeepFault, deep_from, deepened, reading_at, deep_at, greatest}
use Rattle.grammar.specs.Limits.{piece_allowance, template_limit}
use Rattle.grammar.specs.Readings.{Piece, Repeat, Template}
use Rattle.grammar.specs.Results.{on_ok, on_err, located, refusal}
use Rattle.refusal.specs.declared.error.FormatterError.TheVariants.{TemplateTooLong}
use Rattle.grammar.specs.Templates.{Typed, body_at, template_at, formatter_at}
use Rattle.grammar.proofs.Chains.{by_on_ok, by_on_err, same_ok, refused}
use Rattle.grammar.proofs.Readers.{read_as_the_grammar_lem}
use Rattle.templates.specs.Views.{Summary, summary, seen}
use Rattle.formatter.specs.Reading.{Accepted, ok_or, pieces_from, reading_of, Answered, ReadAs, whole_reading}
use Rattle.formatter.specs.Views.{deep_summary, formatter_read, answered, seen_formatter}
use Rattle.formatter.specs.declared.defns.Formatter.{Formatter}
use Rattle.formatter.proofs.Counting.{as_many}
use Rattle.formatter.proofs.Framed.{taken, shapes_are}
use Rattle.formatter.proofs.Separators.{short_read}
use Rattle.formatter.proofs.Whole.{reading}

-- a reading that the grammar and the limits give is the reader's
only_reading : (cs : List ℕ) (r : Template) → Accepted cs r → reading_at cs ≡ Ok r
only_reading cs r a = (read_as_the_grammar_lem cs r).1 (a.reads, a.within)

-- what a template that is read as a whole answers
record Answers (cs : List ℕ) (f : Formatter) : Type 0 where
  typed : Typed
  pieces : List (Piece Repeat)
  found : formatter_at cs ≡ Ok typed
  deep : deep_from 0 typed.shapes ≡ Ok pieces
  same : summary cs typed ≡ seen f.parts
  most : greatest (reading typed pieces) ≡ f.max_capture

answers : (cs : List ℕ) (f : Formatter) → formatter_read cs ≡ Ok (answered f) → Answers cs f
answers cs f e =
    let t = by_on_ok (on_err of_template (formatter_at cs)) (deep_summary cs) (answered f) e in
    let r = by_on_ok (deepened t.0) (λ r. Ok (summary cs t.0, greatest r)) (answered f) t.2 in
    let p = by_on_ok (deep_from 0 t.0.shapes) (λ ps. Ok (reading t.0 ps)) r.0 r.1 in
    let both = same_ok (summary cs t.0, greatest r.0) (answered f) r.2 in
    record {
      typed = t.0;
      pieces = p.0;
      found = by_on_err of_template (formatter_at cs) t.0 t.1;
      deep = p.1;
      same = ap (λ (x : Summary × Option ℕ). x.0) both;
      most = ap greatest (same_ok (reading t.0 p.0) r.0 p.2) ∙ ap (λ (x : Summary × Option ℕ). x.1) both;
    }

same_reading : (l m r s : ℕ) (ps qs : List (Piece Repeat)) → l ≡ m → r ≡ s → ps ≡ qs → ◌≡◌ {A = Template} (record { left = l; right = r; pieces = ps }) (record { left = m; right = s; pieces = qs })
same_reading l m r s ps qs e f g = rw (e, f, g)

module _ (cs : List ℕ) (f : Formatter) (a : Answers cs f) where
  shapes : body_at piece_allowance f.parts.start (drop f.parts.start f.parts.text.now) ≡ Ok a.typed.shapes
  shapes = shapes_are cs f.parts a.typed a.found a.same

  pieces_are : pieces_from f.parts.start f.parts.text.now ≡ a.pieces
  pieces_are = ap (λ b. ok_or [] (deep_from 0 (ok_or [] b))) shapes ∙ ap (ok_or []) a.deep

  reading_is : reading a.typed a.pieces ≡ reading_of f
  reading_is =
      same_reading _ _ _ _ _ _ (ap (λ (s : Summary). s.left) a.same) (ap (λ (s : Summary). s.right) a.same) (sym pieces_are)

  read : reading_at cs ≡ Ok (reading a.typed a.pieces)
  read =
      ap (λ t. on_ok (on_err of_template t) deepened) (taken cs a.typed a.found).reads ∙ ap (λ d. on_ok d (λ ps. Ok (reading a.typed ps))) a.deep

  accepts : Accepted cs (reading a.typed a.pieces)
  accepts =
      let g = (read_as_the_grammar_lem cs (reading a.typed a.pieces)).0 read in
      record { short = (taken cs a.typed a.found).short; reads = g.0; within = g.1 }

  answered_by : Answered cs f
  answered_by = record {
    accepted = subst (Accepted cs) reading_is accepts;
    outputs = sym (ap (λ (s : Summary). s.outputs) a.same) ∙ sym (as_many piece_allowance f.parts.start (drop f.parts.start f.parts.text.now) a.typed.shapes a.pieces shapes a.deep) ∙ ap length (sym pieces_are);
    most = sym a.most ∙ ap greatest reading_is;
    only = λ r h. same_ok r (reading_of f) (sym (only_reading cs r h) ∙ read ∙ ap (λ (r : Template). Ok r) reading_is);
  }

-- where nothing is answered there is no reading
none-accepted : (cs : List ℕ) (e : DeepFault) (r : Template) → formatter_read cs ≡ Err e → Accepted cs r → ⊥
none-accepted cs e r h a =
    let t = by_on_ok (on_err of_template (template_at cs)) deepened r (only_reading cs r a) in
    let g : formatter_read cs ≡ deep_summary cs t.0 = ap (λ u. on_ok (on_err of_template u) (deep_summary cs)) (short_read cs a.short) ∙ ap (λ u. on_ok u (deep_summary cs)) t.1 in
    let k : deep_summary cs t.0 ≡ Ok (summary cs t.0, greatest r) = ap (λ d. on_ok d (λ r. Ok (summary cs t.0, greatest r))) t.2 in
    refused e _ (sym h ∙ g ∙ k)

pub read_as : (cs : List ℕ) (r : Result Formatter DeepFault) → seen_formatter r ≡ formatter_read cs → ReadAs cs r
read_as cs r e = record {
  accepted = λ f h. answered_by cs f (answers cs f (sym e ∙ ap seen_formatter h));
  refused = λ x h t a. none-accepted cs x t (sym e ∙ ap seen_formatter h) a;
}

-- ---- the answer is that of the whole reading
fails_then : {B C E : Type 0} (m : Result B E) (s : B → C) (x : E) → on_ok m (λ r. Ok (s r)) ≡ Err x → m ≡ Err x
fails_then (Ok r) s x e = refused x (s r) (sym e)
fails_then (Err y) s x e = let h : y ≡ x = cc in ap (λ z. Err z) h

fails_first : {A B C E : Type 0} (m : Result A E) (d : A → Result B E) (s : A → B → C) (x : E) → on_ok m (λ t. on_ok (d t) (λ r. Ok (s t r))) ≡ Err x → on_ok m d ≡ Err x
fails_first (Err y) d s x e = let h : y ≡ x = cc in ap (λ z. Err z) h
fails_first (Ok t) d s x e = fails_then (d t) (s t) x e

-- the two definitions, by whether the template is short enough
abbrev read_by : Bool → List ℕ → Result (Summary × Option ℕ) DeepFault
read_by b cs = on_ok (on_err of_template (cond b (template_at cs) (refusal TemplateTooLong 0 0))) (deep_summary cs)

abbrev deep_by : Bool → List ℕ → Result Template DeepFault
deep_by b cs = cond b (reading_at cs) (Err (of_template (located TemplateTooLong 0 0)))

fails_by : (b : Bool) (cs : List ℕ) (x : DeepFault) → read_by b cs ≡ Err x → deep_by b cs ≡ Err x
fails_by true cs x h = fails_first (on_err of_template (template_at cs)) deepened (λ t r. (summary cs t, greatest r)) x h
fails_by false cs x h = let s : of_template (located TemplateTooLong 0 0) ≡ x = cc in ap (λ z. Err z) s

pub whole_reading_lem : (cs : List ℕ) (r : Result Formatter DeepFault) → seen_formatter r ≡ formatter_read cs → whole_reading r ≡ deep_at cs
whole_reading_lem cs (Err x) e = sym (fails_by (leb (length cs) template_limit) cs x (sym e))
whole_reading_lem cs (Ok f) e =
    let a = answers cs f (sym e) in
    let short = (taken cs a.typed a.found).short in
    let yes-it : leb (length cs) template_limit ≡ true = grind (arith, nat_tests) in
    sym (ap (λ b. deep_by b cs) yes-it ∙ read cs f a ∙ ap (λ (r : Template). Ok r) (reading_is cs f a))
