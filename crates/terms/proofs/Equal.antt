-- Equal sources agree, and an opening gives one source.
use Rattle.std.proofs.Common.{◌≡◌, ℕ, ◌<◌, ◌≤◌, List, [], length, get_or, Some, sym, refl, ap, ◌∙◌, ⊎_elim, arith}
use Rattle.std.proofs.lemmas.Bool.{cond-true, lt-ltb, cases_lt}
use Rattle.std.proofs.lemmas.List.{ext_get_or}
use Rattle.terms.specs.Source.{Source, Same, item, size, source_of}
use Rattle.terms.specs.Opening.{Beginning, Opens}
use Rattle.terms.specs.Laws.{Agree, Agreement}
use Rattle.terms.proofs.Asked.{item_in, up_to_in}

some_inj : (x y : ℕ) → Some x ≡ Some y → x ≡ y
some_inj x y e = cc

-- lists of the same length with the same items are equal
items_same : (xs ys : List ℕ) → length xs ≡ length ys → ((i : ℕ) → item xs i ≡ item ys i) → xs ≡ ys
items_same xs ys n h = ext_get_or 0 xs ys n (λ i l. some_inj _ _ (sym (item_in xs i l) ∙ h i ∙ item_in ys i (omega arith)))

-- what two sources have of a term is equal where its size and its items are
sized_same : (m n t : ℕ) (xs ys : List ℕ) → m ≡ n → (m ≤ t → xs ≡ []) → (n ≤ t → ys ≡ []) → size m t xs ≡ size n t ys → ((i : ℕ) → item xs i ≡ item ys i) → xs ≡ ys
sized_same m n t xs ys e p q s h =
    ⊎_elim
    (λ l. items_same xs ys (some_inj _ _ (sym (cond-true _ _ _ (lt-ltb t m l)) ∙ s ∙ cond-true _ _ _ (lt-ltb t n (omega arith)))) h)
    (λ l. p l ∙ sym (q (omega arith)))
    (cases_lt t m)

agree_same : (a b : Source) → Agree a b → Same a b
agree_same a b h = record {
  counts = h.counts;
  names = λ t. sized_same a.count b.count t (a.name t) (b.name t) h.counts (a.nameless t) (b.nameless t) (h.lengths t) (h.bytes t);
  children = λ t. sized_same a.count b.count t (a.children t) (b.children t) h.counts (a.childless t) (b.childless t) (h.numbers t) (h.children t);
}

same_agree : (a b : Source) → Same a b → Agree a b
same_agree a b h = record {
  counts = h.counts;
  lengths = λ t. ap (λ n. size n t (a.name t)) h.counts ∙ ap (size b.count t) (h.names t);
  bytes = λ t i. ap (λ l. item l i) (h.names t);
  numbers = λ t. ap (λ n. size n t (a.children t)) h.counts ∙ ap (size b.count t) (h.children t);
  children = λ t i. ap (λ l. item l i) (h.children t);
}

pub agreement_holds : Agreement
agreement_holds = record { same = agree_same; agree = same_agree }

pub same_refl : (a : Source) → Same a a
same_refl a = record { counts = refl; names = λ t. refl; children = λ t. refl }

pub same_sym : (a b : Source) → Same a b → Same b a
same_sym a b h = record { counts = sym h.counts; names = λ t. sym (h.names t); children = λ t. sym (h.children t) }

pub same_trans : (a b c : Source) → Same a b → Same b c → Same a c
same_trans a b c h k = record { counts = h.counts ∙ k.counts; names = λ t. h.names t ∙ k.names t; children = λ t. h.children t ∙ k.children t }

-- the longest lawful beginning is one
pub beginning_one : (P : ℕ → Type 0) (size m n : ℕ) → Beginning P size m → Beginning P size n → m ≡ n
beginning_one P size m n h k =
    ⊎_elim
    (λ l. absurd (h.longest (omega (arith, k.within)) (k.before m l)))
    (λ l. ⊎_elim (λ g. absurd (k.longest (omega (arith, h.within)) (h.before n g))) (λ g. omega arith) (cases_lt n m))
    (cases_lt m n)

-- terms that have the same names and children as far as they are lawful open as equal sources
pub opens_alike : (P Q : ℕ → Type 0) (m n : ℕ) (name name' family family' : ℕ → List ℕ) (a b : Source) → Opens P m name family a → Opens Q n name' family' b → a.count ≡ b.count → ((t : ℕ) → t < a.count → (name t ≡ name' t) × (family t ≡ family' t)) → Same a b
opens_alike P Q m n name name' family family' a b h k e s = record {
  counts = e;
  names = λ t. ⊎_elim
      (λ l. h.names t l ∙ (s t l).0 ∙ sym (k.names t (omega arith)))
      (λ l. a.nameless t l ∙ sym (b.nameless t (omega arith)))
      (cases_lt t a.count);
  children = λ t. ⊎_elim
      (λ l. h.children t l ∙ (s t l).1 ∙ sym (k.children t (omega arith)))
      (λ l. a.childless t l ∙ sym (b.childless t (omega arith)))
      (cases_lt t a.count);
}

-- an opening gives one source
pub opens_once : (P : ℕ → Type 0) (size : ℕ) (name family : ℕ → List ℕ) (a b : Source) → Opens P size name family a → Opens P size name family b → Same a b
opens_once P size name family a b h k =
    opens_alike P P size size name name family family a b h k (beginning_one P size a.count b.count h.beginning k.beginning) (λ t l. (refl, refl))

-- the source of the first n terms is what they open as
pub opens_source : (P : ℕ → Type 0) (size n : ℕ) (name family : ℕ → List ℕ) (short : (t : ℕ) → t < n → length (name t) ≤ 255) (below : (t : ℕ) → t < n → (i : ℕ) → i < length (family t) → get_or (family t) i 0 < t) → Beginning P size n → Opens P size name family (source_of n name family short below)
opens_source P size n name family short below b = record { beginning = b; names = λ t l. up_to_in n name t l; children = λ t l. up_to_in n family t l }
