-- What a search through the rows finds.
use Rattle.std.proofs.Common.{◌≡◌, ℕ, zero, suc, Bool, true, false, cond, List, [], ◌∷◌, map, get_or, replicate, Some, None, Option, Bor, MatchOption, sym, refl, ap, ◌∙◌, subst}
use Rattle.std.specs.List.{find}
use Rattle.std.specs.Option.{option_copied}
use Rattle.std.specs.Str.{bytes_eq}
use Rattle.std.proofs.lemmas.Bool.{and_parts}
use Rattle.std.proofs.lemmas.Slice.Eq.{bytes_eq-Decides}
use Rattle.listed.specs.declared.rows.AnswerRow.{AnswerRow}
use Rattle.listed.specs.Facts.{Fact, lawful_row, kept, count_in, spans_in}
use Rattle.listed.specs.Firsts.{tells, first_count, hits, spans_for, spans_with}
use Rattle.listed.specs.Keeping.{kept-count, kept_spans}
use Rattle.listed.specs.Seen.{fact}

-- whether a row tells the count of a text
abbrev pub telling : List ℕ → AnswerRow → Bool
telling t r = tells t (fact r)

-- whether a row tells the spans of a text with that count and a name
abbrev pub hitting : ℕ → List ℕ → List ℕ → AnswerRow → Bool
hitting n t name r = hits n t name (fact r)

module _ (t : List ℕ) where
  lost : (rows : List AnswerRow) → find (telling t) rows ≡ None → first_count (map fact rows) t ≡ None
  lost [] e = refl
  lost (x ∷ rows) e = go (telling t x) e (lost rows)
    where
      go : (b : Bool) → cond b (Some x) (find (telling t) rows) ≡ None → (find (telling t) rows ≡ None → first_count (map fact rows) t ≡ None) → cond b (Some x.count) (first_count (map fact rows) t) ≡ None
      go true e rest = cc
      go false e rest = rest e

  found : (rows : List AnswerRow) (r : AnswerRow) → find (telling t) rows ≡ Some r → (telling t r ≡ true) × (first_count (map fact rows) t ≡ Some r.count)
  found [] r e = cc
  found (x ∷ rows) r e = go (telling t x) refl e (found rows r)
    where
      go : (b : Bool) → telling t x ≡ b → cond b (Some x) (find (telling t) rows) ≡ Some r → (find (telling t) rows ≡ Some r → (telling t r ≡ true) × (first_count (map fact rows) t ≡ Some r.count)) → (telling t r ≡ true) × (cond b (Some x.count) (first_count (map fact rows) t) ≡ Some r.count)
      go true w e rest =
          let same : x ≡ r = cc in
          let P : AnswerRow → Type 0 = λ y. telling t y ≡ true in
          (subst P same w, ap (λ (y : AnswerRow). Some y.count) same)
      go false w e rest = rest e

  -- a row that is found has the text, and tells its count; where none is, the text has no count
  pub told : (rows : List AnswerRow) (o : Option (Bor AnswerRow)) → option_copied o ≡ find (telling t) rows → MatchOption o (count_in (kept (map fact rows)) t ≡ None) (λ r. (r.now.text.now ≡ t) × (count_in (kept (map fact rows)) t ≡ Some r.now.count))
  told rows None e = kept-count (map fact rows) t ∙ lost rows (sym e)
  told rows (Some r) e =
      let f = found rows r.now (sym e) in
      ((bytes_eq-Decides _ _).0 (and_parts (bytes_eq r.now.text.now t) (lawful_row (fact r.now)) f.0).0, kept-count (map fact rows) t ∙ f.1)

  module _ (n : ℕ) (name : List ℕ) where
    spans_lost : (rows : List AnswerRow) → find (hitting n t name) rows ≡ None → spans_for n (map fact rows) t name ≡ None
    spans_lost [] e = refl
    spans_lost (x ∷ rows) e = go (hitting n t name x) e (spans_lost rows)
      where
        go : (b : Bool) → cond b (Some x) (find (hitting n t name) rows) ≡ None → (find (hitting n t name) rows ≡ None → spans_for n (map fact rows) t name ≡ None) → cond b (Some x.spans.now) (spans_for n (map fact rows) t name) ≡ None
        go true e rest = cc
        go false e rest = rest e

    spans_found : (rows : List AnswerRow) (r : AnswerRow) → find (hitting n t name) rows ≡ Some r → spans_for n (map fact rows) t name ≡ Some r.spans.now
    spans_found [] r e = cc
    spans_found (x ∷ rows) r e = go (hitting n t name x) e (spans_found rows r)
      where
        go : (b : Bool) → cond b (Some x) (find (hitting n t name) rows) ≡ Some r → (find (hitting n t name) rows ≡ Some r → spans_for n (map fact rows) t name ≡ Some r.spans.now) → cond b (Some x.spans.now) (spans_for n (map fact rows) t name) ≡ Some r.spans.now
        go true e rest = let same : x ≡ r = cc in ap (λ (y : AnswerRow). Some y.spans.now) same
        go false e rest = rest e

    -- the spans of the row that is found, where one is
    pub spans_told : (rows : List AnswerRow) (o : Option (Bor AnswerRow)) → option_copied o ≡ find (hitting n t name) rows → MatchOption o (spans_for n (map fact rows) t name ≡ None) (λ r. spans_for n (map fact rows) t name ≡ Some r.now.spans.now)
    spans_told rows None e = spans_lost rows (sym e)
    spans_told rows (Some r) e = spans_found rows r.now (sym e)

-- the spans of a text by its count
pub by_count : (fs : List Fact) (t name : List ℕ) (o : Option ℕ) → count_in (kept fs) t ≡ o → spans_in (kept fs) t name ≡ spans_with o fs t name
by_count fs t name o e = kept_spans fs t name ∙ ap (λ (o : Option ℕ). spans_with o fs t name) (sym (kept-count fs t) ∙ e)

pub nothing : {A : Type 0} (n k : ℕ) → get_or {A = Option A} (replicate n None) k None ≡ None
nothing zero k = refl
nothing (suc n) zero = refl
nothing (suc n) (suc k) = nothing n k
