use Rattle.std.proofs.Common.{ℕ, ◌≤◌, length}
use Rattle.matching.specs.Cells.{Row}
use Rattle.plain.proofs.search.Search.fill.Given as goal

abbrev pub invariant-loop-i : goal.invariant-loop-i
invariant-loop-i l = (j : ℕ) → l.i ≤ j → j ≤ length l.self.items.now → Row l.self.items.now l.self.name.now l.table j
