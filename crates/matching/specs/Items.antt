-- The items of a pattern without alternatives, and the pattern that they make.
use Rattle.std.specs.Prelude.{ℕ, Bool, not, List, [], ◌∷◌, ◌==◌}
use Rattle.matching.specs.declared.items.Item.{Item}
use Rattle.matching.specs.declared.items.Item.TheVariants.{Take, Open, Close}
use Rattle.matching.specs.declared.items.Set.{Set}
use Rattle.matching.specs.declared.items.Set.TheVariants.{Dot, Byte}
use Rattle.matching.specs.Ways.{Seq, end, bytes, opens, closes}

-- the bytes of a set
abbrev pub has : Set → ℕ → Bool
has Dot c = not (c == 10)
has (Byte b) c = c == b

abbrev pub as_seq : List Item → Seq
as_seq [] = end
as_seq (Take s q ∷ is) = bytes (has s) q (as_seq is)
as_seq (Open k ∷ is) = opens k (as_seq is)
as_seq (Close k ∷ is) = closes k (as_seq is)
