use Rattle.std.proofs.Common.{◌≡◌, ℕ, ◌<◌, ◌≤◌, length}
use Rattle.tapes.specs.Roots.{roots}
use Rattle.tapes.specs.Nodes.{Lawful, count_at}
use Rattle.tapes.proofs.check.beginning.Given as goal

abbrev pub invariant-loop-t : goal.invariant-loop-t
invariant-loop-t l = (l.roots ≡ length (roots (count_at l.nodes) l.t)) × (l.roots ≤ l.t) × ((k : ℕ) → k < l.t → Lawful l.nodes k)
