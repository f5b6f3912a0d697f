-- The first lawful row of a text is kept, and so is the first that has its count and a name.
use Rattle.std.specs.Prelude.{◌≡◌, ℕ, Bool, true, false, cond, not, ◌&&◌, ◌||◌, ◌⊎◌, List, [], ◌∷◌, Some, None, Option, ◌==◌, nat_eq, refl}
use Rattle.std.proofs.Common.{sym, ap, ◌∙◌, inl, inr}
use borrow.Author.Tests.{clash, eqb-true, eq-eqb}
use Rattle.std.specs.Str.{bytes_eq}
use Rattle.std.proofs.lemmas.Slice.Eq.{bytes_eq-Decides}
use Rattle.listed.specs.Facts.{Fact, lawful_row, same_spans, against, agrees, kept_from, kept, count_in, spans_in}
use Rattle.listed.specs.Firsts.{tells, first_count, spans_for, spans_with}

-- ---- equal bytes
same : (a b : List ℕ) → bytes_eq a b ≡ true → a ≡ b
same a b e = (bytes_eq-Decides a b).0 e

-- what is not equal to t is not equal to what is
apart : (a b t : List ℕ) → bytes_eq a t ≡ true → bytes_eq b t ≡ false → bytes_eq a b ≡ false
apart a b t e f = go (bytes_eq a b) refl
  where
    go : (x : Bool) → bytes_eq a b ≡ x → x ≡ false
    go false p = refl
    go true p = absurd (clash (sym f ∙ (bytes_eq-Decides b t).1 (sym (same a b p) ∙ same a t e)))

alike : (a b t : List ℕ) → bytes_eq a t ≡ true → bytes_eq b t ≡ true → bytes_eq a b ≡ true
alike a b t e f = (bytes_eq-Decides a b).1 (same a t e ∙ sym (same b t f))

same_count : (a b n : ℕ) → (a == n) ≡ true → b ≡ n → (a == b) ≡ true
same_count a b n e f = eq-eqb a b (eqb-true a n e ∙ sym f)

other_count : (a b n : ℕ) → (a == n) ≡ false → b ≡ n → (a == b) ≡ false
other_count a b n e f = ap (nat_eq a) f ∙ e

-- ---- rows that do not stand against each other
not-against : (f g : Fact) → (bytes_eq f.text g.text ≡ false) ⊎ (((f.count == g.count) ≡ true) × (bytes_eq f.name g.name ≡ false)) → not (against f g) ≡ true
not-against f g (inl e) = ap (λ (b : Bool). not (b && (not (f.count == g.count) || (bytes_eq f.name g.name && not (same_spans f.spans g.spans))))) e
not-against f g (inr e) = go (bytes_eq f.text g.text) (f.count == g.count) (bytes_eq f.name g.name) e.0 e.1
  where
    go : (x y z : Bool) → y ≡ true → z ≡ false → not (x && (not y || (z && not (same_spans f.spans g.spans)))) ≡ true
    go false y z p q = refl
    go true true false p q = refl
    go true false z p q = absurd (clash p)
    go true true true p q = absurd (clash (sym q))

is_against : (f g : Fact) → bytes_eq f.text g.text ≡ true → (f.count == g.count) ≡ false → not (against f g) ≡ false
is_against f g e h = go (bytes_eq f.text g.text) (f.count == g.count) e h
  where
    go : (x y : Bool) → x ≡ true → y ≡ false → not (x && (not y || (bytes_eq f.name g.name && not (same_spans f.spans g.spans)))) ≡ false
    go true false p q = refl
    go false y p q = absurd (clash p)
    go true true p q = absurd (clash (sym q))

agrees-more : (f g : Fact) (gs : List Fact) → not (against f g) ≡ true → agrees f gs ≡ true → agrees f (g ∷ gs) ≡ true
agrees-more f g gs e h = ap (λ (b : Bool). b && agrees f gs) e ∙ h

agrees_less : (f g : Fact) (gs : List Fact) → (not (against f g) ≡ false) ⊎ (agrees f gs ≡ false) → agrees f (g ∷ gs) ≡ false
agrees_less f g gs (inl e) = ap (λ (b : Bool). b && agrees f gs) e
agrees_less f g gs (inr e) = go (not (against f g)) (agrees f gs) e
  where
    go : (x y : Bool) → y ≡ false → (x && y) ≡ false
    go true y p = p
    go false y p = refl

-- ---- the rows that are kept already
-- none has the text
abbrev NoText : List ℕ → List Fact → Type 0
NoText t [] = Unit {0}
NoText t (g ∷ gs) = (bytes_eq g.text t ≡ false) × NoText t gs

-- one has the text
abbrev Has : List ℕ → List Fact → Type 0
Has t [] = ⊥
Has t (g ∷ gs) = (bytes_eq g.text t ≡ true) ⊎ Has t gs

-- those that have the text have the count n and another name
abbrev Only : ℕ → List ℕ → List ℕ → List Fact → Type 0
Only n t name [] = Unit {0}
Only n t name (g ∷ gs) = (bytes_eq g.text t ≡ true → (g.count ≡ n) × (bytes_eq g.name name ≡ false)) × Only n t name gs

only_none : (n : ℕ) (t name : List ℕ) (gs : List Fact) → NoText t gs → Only n t name gs
only_none n t name [] h = tt
only_none n t name (g ∷ gs) h = ((λ e. absurd (clash (sym h.0 ∙ e))), only_none n t name gs h.1)

first-agrees : (f : Fact) (t : List ℕ) (gs : List Fact) → bytes_eq f.text t ≡ true → NoText t gs → agrees f gs ≡ true
first-agrees f t [] e h = refl
first-agrees f t (g ∷ gs) e h = agrees-more f g gs (not-against f g (inl (apart f.text g.text t e h.0))) (first-agrees f t gs e h.1)

new_agrees : (f : Fact) (n : ℕ) (t name : List ℕ) (gs : List Fact) → bytes_eq f.text t ≡ true → (f.count == n) ≡ true → bytes_eq f.name name ≡ true → Only n t name gs → agrees f gs ≡ true
new_agrees f n t name [] e c m h = refl
new_agrees f n t name (g ∷ gs) e c m h = agrees-more f g gs (go (bytes_eq g.text t) refl) (new_agrees f n t name gs e c m h.1)
  where
    go : (x : Bool) → bytes_eq g.text t ≡ x → not (against f g) ≡ true
    go false p = not-against f g (inl (apart f.text g.text t e p))
    go true p = let r = h.0 p in not-against f g (inr (same_count f.count g.count n c r.0, apart f.name g.name name m r.1))

other_disagrees : (f : Fact) (n : ℕ) (t name : List ℕ) (gs : List Fact) → bytes_eq f.text t ≡ true → (f.count == n) ≡ false → Only n t name gs → Has t gs → agrees f gs ≡ false
other_disagrees f n t name [] e c h k = absurd k
other_disagrees f n t name (g ∷ gs) e c h (inl p) = agrees_less f g gs (inl (is_against f g (alike f.text g.text t e p) (other_count f.count g.count n c (h.0 p).0)))
other_disagrees f n t name (g ∷ gs) e c h (inr k) = agrees_less f g gs (inr (other_disagrees f n t name gs e c h.1 k))

-- ---- counts
counts : (fs earlier : List Fact) (t : List ℕ) → NoText t earlier → count_in (kept_from earlier fs) t ≡ first_count fs t
counts [] E t h = refl
counts (f ∷ fs) E t h = go (bytes_eq f.text t) (lawful_row f) (agrees f E) refl refl refl (counts fs E t h) (λ p. counts fs (f ∷ E) t (p, h))
  where
    go : (x y z : Bool) → bytes_eq f.text t ≡ x → lawful_row f ≡ y → agrees f E ≡ z → count_in (kept_from E fs) t ≡ first_count fs t → (bytes_eq f.text t ≡ false → count_in (kept_from (f ∷ E) fs) t ≡ first_count fs t) → count_in (cond (y && z) (f ∷ kept_from (f ∷ E) fs) (kept_from E fs)) t ≡ cond (x && y) (Some f.count) (first_count fs t)
    go true true true p q r a b = ap (λ (x : Bool). cond x (Some f.count) (count_in (kept_from (f ∷ E) fs) t)) p
    go true true false p q r a b = absurd (clash (sym r ∙ first-agrees f t E p h))
    go true false z p q r a b = a
    go false true true p q r a b = ap (λ (x : Bool). cond x (Some f.count) (count_in (kept_from (f ∷ E) fs) t)) p ∙ b p
    go false true false p q r a b = a
    go false false z p q r a b = a

-- ---- spans, where a row of the text is kept
module _ (n : ℕ) (t name : List ℕ) where
  behind : (fs earlier : List Fact) → Only n t name earlier → Has t earlier → spans_in (kept_from earlier fs) t name ≡ spans_for n fs t name
  behind [] E h k = refl
  behind (f ∷ fs) E h k = go (bytes_eq f.text t) (lawful_row f) (agrees f E) (f.count == n) (bytes_eq f.name name) refl refl refl refl refl (behind fs E h k) (λ o. behind fs (f ∷ E) (o, h) (inr k))
    where
      skip : (x m : Bool) → bytes_eq f.text t ≡ x → bytes_eq f.name name ≡ m → (x && m) ≡ false → spans_in (f ∷ kept_from (f ∷ E) fs) t name ≡ spans_in (kept_from (f ∷ E) fs) t name
      skip x m p s e = ap (λ (b : Bool). cond (b && bytes_eq f.name name) (Some f.spans) (spans_in (kept_from (f ∷ E) fs) t name)) p ∙ ap (λ (b : Bool). cond (x && b) (Some f.spans) (spans_in (kept_from (f ∷ E) fs) t name)) s ∙ ap (λ (b : Bool). cond b (Some f.spans) (spans_in (kept_from (f ∷ E) fs) t name)) e

      go : (x y z c m : Bool) → bytes_eq f.text t ≡ x → lawful_row f ≡ y → agrees f E ≡ z → (f.count == n) ≡ c → bytes_eq f.name name ≡ m → spans_in (kept_from E fs) t name ≡ spans_for n fs t name → ((bytes_eq f.text t ≡ true → (f.count ≡ n) × (bytes_eq f.name name ≡ false)) → spans_in (kept_from (f ∷ E) fs) t name ≡ spans_for n fs t name) → spans_in (cond (y && z) (f ∷ kept_from (f ∷ E) fs) (kept_from E fs)) t name ≡ cond ((x && y) && (c && m)) (Some f.spans) (spans_for n fs t name)
      go false false z c m p q r s u a b = a
      go true false z c m p q r s u a b = a
      go false true false c m p q r s u a b = a
      go false true true c m p q r s u a b = skip false m p u refl ∙ b (λ e. absurd (clash (sym p ∙ e)))
      go true true true false m p q r s u a b = absurd (clash (sym (other_disagrees f n t name E p s h k) ∙ r))
      go true true false false m p q r s u a b = a
      go true true false true true p q r s u a b = absurd (clash (sym r ∙ new_agrees f n t name E p s u h))
      go true true true true true p q r s u a b = ap (λ (b : Bool). cond (b && bytes_eq f.name name) (Some f.spans) (spans_in (kept_from (f ∷ E) fs) t name)) p ∙ ap (λ (b : Bool). cond b (Some f.spans) (spans_in (kept_from (f ∷ E) fs) t name)) u
      go true true false true false p q r s u a b = a
      go true true true true false p q r s u a b = skip true false p u refl ∙ b (λ e. (eqb-true f.count n s, u))

-- ---- spans, from the start
untold : (o : Option ℕ) (f : Fact) (fs : List Fact) (t name : List ℕ) → tells t f ≡ false → spans_with o (f ∷ fs) t name ≡ spans_with o fs t name
untold None f fs t name e = refl
untold (Some n) f fs t name e = ap (λ (b : Bool). cond (b && (f.count == n && bytes_eq f.name name)) (Some f.spans) (spans_for n fs t name)) e

-- the first row of the text gives the count, and its own spans to its own name
told : (f : Fact) (fs : List Fact) (t name : List ℕ) (m : Bool) → tells t f ≡ true → bytes_eq f.name name ≡ m → spans_for f.count (f ∷ fs) t name ≡ cond m (Some f.spans) (spans_for f.count fs t name)
told f fs t name m e u =
    ap (λ (b : Bool). cond (b && (f.count == f.count && bytes_eq f.name name)) (Some f.spans) (spans_for f.count fs t name)) e
    ∙ ap (λ (b : Bool). cond (b && bytes_eq f.name name) (Some f.spans) (spans_for f.count fs t name)) (eq-eqb f.count f.count refl)
    ∙ ap (λ (b : Bool). cond b (Some f.spans) (spans_for f.count fs t name)) u

spans : (fs earlier : List Fact) (t name : List ℕ) → NoText t earlier → spans_in (kept_from earlier fs) t name ≡ spans_with (first_count fs t) fs t name
spans [] E t name h = refl
spans (f ∷ fs) E t name h = go (bytes_eq f.text t) (lawful_row f) (agrees f E) (bytes_eq f.name name) refl refl refl refl (spans fs E t name h) (λ p. spans fs (f ∷ E) t name (p, h))
  where
    tell : (x y : Bool) → bytes_eq f.text t ≡ x → lawful_row f ≡ y → tells t f ≡ (x && y)
    tell x y p q = ap (λ (b : Bool). b && lawful_row f) p ∙ ap (λ (b : Bool). x && b) q

    go : (x y z m : Bool) → bytes_eq f.text t ≡ x → lawful_row f ≡ y → agrees f E ≡ z → bytes_eq f.name name ≡ m → spans_in (kept_from E fs) t name ≡ spans_with (first_count fs t) fs t name → (bytes_eq f.text t ≡ false → spans_in (kept_from (f ∷ E) fs) t name ≡ spans_with (first_count fs t) fs t name) → spans_in (cond (y && z) (f ∷ kept_from (f ∷ E) fs) (kept_from E fs)) t name ≡ spans_with (cond (x && y) (Some f.count) (first_count fs t)) (f ∷ fs) t name
    go true true false m p q r u a b = absurd (clash (sym r ∙ first-agrees f t E p h))
    go true true true true p q r u a b =
        ap (λ (b : Bool). cond (b && bytes_eq f.name name) (Some f.spans) (spans_in (kept_from (f ∷ E) fs) t name)) p
        ∙ ap (λ (b : Bool). cond b (Some f.spans) (spans_in (kept_from (f ∷ E) fs) t name)) u
        ∙ sym (told f fs t name true (tell true true p q) u)
    go true true true false p q r u a b =
        ap (λ (b : Bool). cond (b && bytes_eq f.name name) (Some f.spans) (spans_in (kept_from (f ∷ E) fs) t name)) p
        ∙ ap (λ (b : Bool). cond b (Some f.spans) (spans_in (kept_from (f ∷ E) fs) t name)) u
        ∙ behind f.count t name fs (f ∷ E) ((λ e. (refl, u)), only_none f.count t name E h) (inl p)
        ∙ sym (told f fs t name false (tell true true p q) u)
    go true false z m p q r u a b = a ∙ sym (untold (first_count fs t) f fs t name (tell true false p q))
    go false true true m p q r u a b =
        ap (λ (b : Bool). cond (b && bytes_eq f.name name) (Some f.spans) (spans_in (kept_from (f ∷ E) fs) t name)) p
        ∙ b p ∙ sym (untold (first_count fs t) f fs t name (tell false true p q))
    go false true false m p q r u a b = a ∙ sym (untold (first_count fs t) f fs t name (tell false true p q))
    go false false z m p q r u a b = a ∙ sym (untold (first_count fs t) f fs t name (tell false false p q))

pub kept-count : (fs : List Fact) (t : List ℕ) → count_in (kept fs) t ≡ first_count fs t
kept-count fs t = counts fs [] t tt

pub kept_spans : (fs : List Fact) (t name : List ℕ) → spans_in (kept fs) t name ≡ spans_with (first_count fs t) fs t name
kept_spans fs t name = spans fs [] t name tt
