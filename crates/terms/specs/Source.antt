-- What a source of terms means, what it answers, and when two sources are equal.
use Rattle.std.specs.Prelude.{◌≡◌, ℕ, ◌<◌, ◌≤◌, Bool, true, false, cond, List, [], length, Some, None, Option, nat_lt, slice_index, refl}
use Rattle.std.proofs.Common.{arith, ltb-true}

-- how many terms there are, and of each the bytes of its name and the numbers of its children;
-- a name has at most 255 bytes, a child has a smaller number than its parent, and beyond the count there is nothing
pub record Source : Type 0 where
  pub count : ℕ
  pub name : ℕ → List ℕ
  pub children : ℕ → List ℕ
  pub short : (t : ℕ) → length (name t) ≤ 255
  pub below : (t i : ℕ) → i < length (children t) → slice_index (children t) i < t
  pub nameless : (t : ℕ) → count ≤ t → name t ≡ []
  pub childless : (t : ℕ) → count ≤ t → children t ≡ []

-- two sources are equal when they agree in how many terms there are and in each term's name and children
pub record Same (a b : Source) : Type 0 where
  pub counts : a.count ≡ b.count
  pub names : (t : ℕ) → a.name t ≡ b.name t
  pub children : (t : ℕ) → a.children t ≡ b.children t

-- what stands at a place, if anything does
abbrev pub item : List ℕ → ℕ → Option ℕ
item xs i = cond (nat_lt i (length xs)) (Some (slice_index xs i)) None

-- how much a term has, if there is such a term
abbrev pub size : ℕ → ℕ → List ℕ → Option ℕ
size count t xs = cond (nat_lt t count) (Some (length xs)) None

abbrev pub name_length : Source → ℕ → Option ℕ
name_length s t = size s.count t (s.name t)

abbrev pub name_byte : Source → ℕ → ℕ → Option ℕ
name_byte s t i = item (s.name t) i

abbrev pub child_count : Source → ℕ → Option ℕ
child_count s t = size s.count t (s.children t)

abbrev pub child_at : Source → ℕ → ℕ → Option ℕ
child_at s t i = item (s.children t) i

-- what each term below n has, and nothing beyond
abbrev pub up_to : ℕ → (ℕ → List ℕ) → ℕ → List ℕ
up_to n f t = cond (nat_lt t n) (f t) []

pub up_to_all : (P : ℕ → List ℕ → Type 0) (n : ℕ) (f : ℕ → List ℕ) → ((t : ℕ) → t < n → P t (f t)) → ((t : ℕ) → P t []) → (t : ℕ) → P t (up_to n f t)
up_to_all P n f within beyond t = go (nat_lt t n) (λ e. ltb-true t n e)
  where
    go : (b : Bool) → (b ≡ true → t < n) → P t (cond b (f t) [])
    go true h = within t (h refl)
    go false h = beyond t

pub up_to-past : (n : ℕ) (f : ℕ → List ℕ) (t : ℕ) → n ≤ t → up_to n f t ≡ []
up_to-past n f t le = go (nat_lt t n) (λ e. ltb-true t n e)
  where
    go : (b : Bool) → (b ≡ true → t < n) → cond b (f t) [] ≡ []
    go true h = absurd (let l = h refl in omega arith)
    go false h = refl

-- the source of the terms below n
abbrev pub source_of : (n : ℕ) (name children : ℕ → List ℕ) → ((t : ℕ) → t < n → length (name t) ≤ 255) → ((t : ℕ) → t < n → (i : ℕ) → i < length (children t) → slice_index (children t) i < t) → Source
source_of n name children short below = record {
  count = n;
  name = up_to n name;
  children = up_to n children;
  short = up_to_all (λ t l. length l ≤ 255) n name short (λ t. omega arith);
  below = up_to_all (λ t l. (i : ℕ) → i < length l → slice_index l i < t) n children below (λ t i h. absurd (omega arith));
  nameless = up_to-past n name;
  childless = up_to-past n children;
}
