-- The index that 32 bits mean.
use Rattle.std.specs.Prelude.{◌≡◌, ℕ, ◌≢◌, Result, MatchResult}
use Rattle.grammar.specs.Numbers.{bits}
use Rattle.grammar.specs.declared.defns.ChildIndex.{ChildIndex}
use Rattle.grammar.specs.declared.defns.NoIndex.{NoIndex}

-- the index with these bits in two's complement; of all bits only those of 2147483647 mean none
abbrev pub IndexOf : ℕ → Result ChildIndex NoIndex → Type 0
IndexOf n r = MatchResult r (λ i. (bits i.0 ≡ n) × (n ≢ 2147483647)) (λ _. n ≡ 2147483647)
