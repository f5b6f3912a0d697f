-- What an engine's rule is, and its law.
use Rattle.std.specs.Prelude.{◌≡◌, ℕ, ◌≤◌, List, length, Some, None, Option, slice_index_or}
use Rattle.engine.specs.declared.span.Span.{Span}

-- a text has no group count or one; a text and a name have no match or one, as its spans by number, each absent or there
pub record Rule : Type 0 where
  pub count : List ℕ → Option ℕ
  pub spans : List ℕ → List ℕ → Option (List (Option Span))

abbrev pub span_at : List (Option Span) → ℕ → Option Span
span_at l k = slice_index_or l k None

-- the span lies in a name of that many bytes
pub record Inside (s : Span) (size : ℕ) : Type 0 where
  pub order : s.from ≤ s.to
  pub bound : s.to ≤ size

-- what the law says of a match with a name of that many bytes
pub record Marks (size : ℕ) (l : List (Option Span)) : Type 0 where
  pub short : size ≤ 255
  pub whole : span_at l 0 ≡ Some (record { from = 0; to = size })
  pub inside : (k : ℕ) (s : Span) → span_at l k ≡ Some s → Inside s size

-- a count is at least 1, a match has as many spans as its text counts, and they are in the name
pub record Lawful (r : Rule) : Type 0 where
  pub counts : (text : List ℕ) (n : ℕ) → r.count text ≡ Some n → 1 ≤ n
  pub numbers : (text name : List ℕ) (l : List (Option Span)) → r.spans text name ≡ Some l → r.count text ≡ Some (length l)
  pub marks : (text name : List ℕ) (l : List (Option Span)) → r.spans text name ≡ Some l → Marks (length name) l
