-- The rule that rows give is lawful.
use Rattle.std.specs.Prelude.{◌≡◌, ℕ, zero, suc, ◌≤◌, Bool, true, false, cond, ◌&&◌, List, [], ◌∷◌, length, Some, None, Option, ◌==◌, nat_le, refl}
use Rattle.std.proofs.Common.{sym, ap, ◌∙◌, subst, arith}
use borrow.Author.Tests.{clash, leb-true, eqb-true}
use Rattle.std.specs.Str.{bytes_eq}
use Rattle.std.proofs.lemmas.Bool.{and_parts}
use Rattle.std.proofs.lemmas.Slice.Eq.{bytes_eq-Decides}
use Rattle.engine.specs.declared.span.Span.{Span}
use Rattle.engine.specs.Rules.{Lawful, Marks, Inside, span_at}
use Rattle.std.proofs.lemmas.List.{get_or_past}
use Rattle.listed.specs.declared.rows.AnswerList.{AnswerList}
use Rattle.listed.specs.Seen.{facts_of, slot_text, held_at}
use Rattle.engine.specs.Holdings.{View}
use Rattle.listed.specs.Facts.{Fact, lies, all_lie, is_whole, lawful_row, rule_of}
use Rattle.listed.specs.Firsts.{tells, first_count, hits, spans_for, spans_with}
use Rattle.listed.specs.Keeping.{kept-count, kept_spans}

no : {A : Type 0} (P : Type 0) (x : A) → None ≡ Some x → P
no P x e = cc

the : {A : Type 0} (x y : A) → Some x ≡ Some y → x ≡ y
the x y e = cc

lies_inside : (size : ℕ) (s : Span) → lies size (Some s) ≡ true → Inside s size
lies_inside size s h = let p = and_parts _ _ h in record { order = leb-true _ _ p.0; bound = leb-true _ _ p.1 }

all_inside : (size : ℕ) (l : List (Option Span)) (k : ℕ) (s : Span) → all_lie size l ≡ true → span_at l k ≡ Some s → Inside s size
all_inside size [] k s h e = no _ s e
all_inside size (o ∷ l) zero s h e = lies_inside size s (ap (lies size) (sym e) ∙ (and_parts _ _ h).0)
all_inside size (o ∷ l) (suc k) s h e = all_inside size l k s (and_parts _ _ h).1 e

whole-first : (size : ℕ) (l : List (Option Span)) → is_whole size l ≡ true → (span_at l 0 ≡ Some (record { from = 0; to = size })) × (1 ≤ length l)
whole-first size [] h = absurd (clash h)
whole-first size (None ∷ l) h = absurd (clash h)
whole-first size (Some s ∷ l) h =
    let p = and_parts _ _ h in
    (ap (λ (n : ℕ). Some (record { from = n; to = s.to })) (eqb-true _ _ p.0) ∙ ap (λ (n : ℕ). Some (record { from = 0; to = n })) (eqb-true _ _ p.1), omega arith)

-- what a lawful row says
record Good (f : Fact) : Type 0 where
  full : length f.spans ≡ f.count
  some : 1 ≤ f.count
  marks : Marks (length f.name) f.spans

good : (f : Fact) → lawful_row f ≡ true → Good f
good f h =
    let size = length f.name in
    let p = and_parts (length f.spans == f.count) (nat_le size 255 && (is_whole size f.spans && all_lie size f.spans)) h in
    let q = and_parts (nat_le size 255) (is_whole size f.spans && all_lie size f.spans) p.1 in
    let r = and_parts (is_whole size f.spans) (all_lie size f.spans) q.1 in
    let w = whole-first (length f.name) f.spans r.0 in
    let e : length f.spans ≡ f.count = eqb-true _ _ p.0 in
    record {
      full = e;
      some = omega (arith, w.1);
      marks = record { short = leb-true _ _ q.0; whole = w.0; inside = λ k s g. all_inside (length f.name) f.spans k s r.1 g };
    }

count_some : (fs : List Fact) (t : List ℕ) (n : ℕ) → first_count fs t ≡ Some n → 1 ≤ n
count_some [] t n e = no _ n e
count_some (f ∷ fs) t n e = go (tells t f) refl e (count_some fs t n)
  where
    go : (b : Bool) → tells t f ≡ b → cond b (Some f.count) (first_count fs t) ≡ Some n → (first_count fs t ≡ Some n → 1 ≤ n) → 1 ≤ n
    go false w e rest = rest e
    go true w e rest = omega (arith, (good f (and_parts _ _ w).1).some, the _ n e)

-- spans of a text with the count n
record Fit (n : ℕ) (name : List ℕ) (l : List (Option Span)) : Type 0 where
  size : length l ≡ n
  marks : Marks (length name) l

spans_fit : (n : ℕ) (fs : List Fact) (t name : List ℕ) (l : List (Option Span)) → spans_for n fs t name ≡ Some l → Fit n name l
spans_fit n [] t name l e = no _ l e
spans_fit n (f ∷ fs) t name l e = go (hits n t name f) refl e (spans_fit n fs t name l)
  where
    go : (b : Bool) → hits n t name f ≡ b → cond b (Some f.spans) (spans_for n fs t name) ≡ Some l → (spans_for n fs t name ≡ Some l → Fit n name l) → Fit n name l
    go false w e rest = rest e
    go true w e rest =
        let p = and_parts (tells t f) (f.count == n && bytes_eq f.name name) w in
        let q = and_parts (f.count == n) (bytes_eq f.name name) p.1 in
        let g = good f (and_parts (bytes_eq f.text t) (lawful_row f) p.0).1 in
        let same : f.name ≡ name = (bytes_eq-Decides f.name name).0 q.1 in
        let P : List (Option Span) → Type 0 = λ l. Fit n name l in
        let Q : List ℕ → Type 0 = λ m. Marks (length m) f.spans in
        subst P (the _ l e) (record { size = g.full ∙ eqb-true _ _ q.0; marks = subst Q same g.marks })

with_fit : (o : Option ℕ) (fs : List Fact) (t name : List ℕ) (l : List (Option Span)) → spans_with o fs t name ≡ Some l → (o ≡ Some (length l)) × Marks (length name) l
with_fit None fs t name l e = no _ l e
with_fit (Some n) fs t name l e = let f = spans_fit n fs t name l e in (ap Some (sym f.size), f.marks)

pub rule_lawful : (fs : List Fact) → Lawful (rule_of fs)
rule_lawful fs = record {
  counts = λ t n e. count_some fs t n (sym (kept-count fs t) ∙ e);
  numbers = λ t name l e. kept-count fs t ∙ (with_fit (first_count fs t) fs t name l (sym (kept_spans fs t name) ∙ e)).0;
  marks = λ t name l e. (with_fit (first_count fs t) fs t name l (sym (kept_spans fs t name) ∙ e)).1;
}

pub held-within : (a : AnswerList) (k : ℕ) → 32 ≤ k → held_at a k ≡ None
held-within a k h = ap slot_text (get_or_past a.slots k None (omega (arith, a.full)))

abbrev pub list_view : AnswerList → View
list_view a = record { rule = rule_of (facts_of a); size = 32; held = held_at a; lawful = rule_lawful (facts_of a); within = held-within a }
