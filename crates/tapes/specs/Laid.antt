-- The children of all terms in one list, one term after the other.
use Rattle.std.specs.Prelude.{◌≡◌, ℕ, zero, suc, ◌<◌, List, [], ◌++◌, length, slice_index}
use Rattle.tapes.specs.Roots.{children_of}

-- the children of the terms before t
abbrev pub kids_before : (ℕ → ℕ) → ℕ → List ℕ
kids_before count zero = []
kids_before count (suc t) = kids_before count t ++ children_of count t

-- where the children of each term below n start
abbrev pub Starts : (ℕ → ℕ) → ℕ → List ℕ → Type 0
Starts count n starts = (t : ℕ) → t < n → slice_index starts t ≡ length (kids_before count t)
