use Rattle.std.proofs.Common.{ℕ, ◌<◌}
use Rattle.tables.specs.Rows.{Lawful}
use Rattle.tables.proofs.check.beginning.Given as goal

abbrev pub invariant-loop-t : goal.invariant-loop-t
invariant-loop-t l = (k : ℕ) → k < l.t → Lawful l.rows k
