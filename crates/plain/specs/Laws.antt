-- The rule of the plain engine is lawful.
use Rattle.std.specs.Prelude.{◌≡◌, ℕ, zero, suc, ◌≤◌, Bool, true, false, cond, ◌&&◌, leb, List, [], ◌∷◌, map, length, Some, None, Option, nat_le, slice_index_or, refl}
use Rattle.std.proofs.Common.{sym, ap, subst, ◌∙◌, arith, leb-true}
use Rattle.std.proofs.lemmas.List.{length-map, get_or_past}
use Rattle.engine.specs.declared.span.Span.{Span}
use Rattle.engine.specs.Rules.{Lawful, Marks, Inside, span_at}
use Rattle.engine.specs.Holdings.{View}
use Rattle.matching.specs.Reader.{Got, items_of}
use Rattle.matching.specs.Places.{Places, Spanning, count_in, match_by}
use Rattle.matching.proofs.Grammatical.{reads-patterns}
use Rattle.matching.proofs.Placing.{matches_span, few_groups}
use Rattle.plain.specs.declared.slots.PlainEngine.{PlainEngine}
use Rattle.plain.specs.Rules.{as_span, as_spans, plain_count, plain_spans, plain_rule}
use Rattle.plain.specs.Texts.{text_in}
use Rattle.plain.specs.Slots.{held_in}

no : {A : Type 0} (P : Type 0) (x : A) → None ≡ Some x → P
no P x e = cc

the : {A : Type 0} (x y : A) → Some x ≡ Some y → x ≡ y
the x y e = cc

pub span_at_lem : (l : Places) (k : ℕ) → span_at (map as_span l) k ≡ as_span (slice_index_or l k None)
span_at_lem [] k = refl
span_at_lem (o ∷ l) zero = refl
span_at_lem (o ∷ l) (suc k) = span_at_lem l k

-- the places of a match, as spans
record Fit (text name : List ℕ) (l : List (Option Span)) : Type 0 where
  count : plain_count text ≡ Some (length l)
  marks : Marks (length name) l

spanned : (m n : ℕ) (l : Places) → n ≤ 255 → Spanning m n l → Marks n (map as_span l)
spanned m n l short s = record { short = short; whole = span_at_lem l 0 ∙ ap as_span s.whole; inside = λ k r e. inside k r (slice_index_or l k None) refl (sym (span_at_lem l k) ∙ e) }
  where
    inside : (k : ℕ) (r : Span) (o : Option (ℕ × ℕ)) → slice_index_or l k None ≡ o → as_span o ≡ Some r → Inside r n
    inside k r None g e = no (Inside r n) r e
    inside k r (Some p) g e =
        let q = s.inside k p.0 p.1 g in
        let P : Span → Type 0 = λ r. Inside r n in
        subst P (the _ r e) (record { order = q.0; bound = q.1 })

module _ (text name : List ℕ) (short : length name ≤ 255) (counted : leb (length text) 96 ≡ true) where
  found : (p : List _ × ℕ) → items_of text ≡ Some p → (o : Option Places) → match_by (Some p) name ≡ o → (l : List (Option Span)) → as_spans o ≡ Some l → Fit text name l
  found p g None e l h = no (Fit text name l) l h
  found p g (Some places) e l h =
      let s = matches_span text name p.0 p.1 places ((reads-patterns text p.0 p.1).0 g) e in
      let P : List (Option Span) → Type 0 = λ l. Fit text name l in
      let c : plain_count text ≡ Some p.1 = ap (λ (b : Bool). cond b (count_in (items_of text)) None) counted ∙ ap count_in g in
      subst P (the _ l h)
      (record { count = c ∙ ap Some (sym (length-map places as_span ∙ s.numbers)); marks = spanned p.1 (length name) places short s })

fits : (text name : List ℕ) (l : List (Option Span)) → plain_spans text name ≡ Some l → Fit text name l
fits text name l = go (nat_le (length text) 96) (nat_le (length name) 255) (items_of text) refl refl refl
  where
    go : (a b : Bool) (g : Got) → nat_le (length text) 96 ≡ a → nat_le (length name) 255 ≡ b → items_of text ≡ g → cond (a && b) (as_spans (match_by g name)) None ≡ Some l → Fit text name l
    go false b g p q r e = no (Fit text name l) l e
    go true false g p q r e = no (Fit text name l) l e
    go true true None p q r e = no (Fit text name l) l e
    go true true (Some x) p q r e = found text name (leb-true (length name) 255 q) p x r (match_by (Some x) name) refl l e

counts : (text : List ℕ) (n : ℕ) → plain_count text ≡ Some n → 1 ≤ n
counts text n = go (nat_le (length text) 96) (items_of text) refl refl
  where
    go : (a : Bool) (g : Got) → nat_le (length text) 96 ≡ a → items_of text ≡ g → cond a (count_in g) None ≡ Some n → 1 ≤ n
    go false g p r e = no (1 ≤ n) n e
    go true None p r e = no (1 ≤ n) n e
    go true (Some x) p r e = omega (arith, (few_groups text x.0 x.1 r (leb-true (length text) 96 p)).0, the x.1 n e)

pub plain_lawful : Lawful plain_rule
plain_lawful = record {
  counts = counts;
  numbers = λ text name l e. (fits text name l e).count;
  marks = λ text name l e. (fits text name l e).marks;
}

pub plain-within : (e : PlainEngine) (k : ℕ) → 16 ≤ k → held_in e.slots k ≡ None
plain-within e k h = ap text_in (get_or_past e.slots k None (omega (arith, e.sixteen)))

abbrev pub plain_view : PlainEngine → View
plain_view e = record { rule = plain_rule; size = 16; held = held_in e.slots; lawful = plain_lawful; within = plain-within e }
