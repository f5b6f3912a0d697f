use Rattle.std.proofs.Common.{◌≡◌, vec_items, vec_len}
use Rattle.tapes.specs.Laid.{kids_before, Starts}
use Rattle.tapes.specs.Nodes.{count_at}
use Rattle.tapes.specs.Roots.{roots}
use Rattle.tapes.proofs.lay.lay.Given as goal

abbrev pub invariant-loop-t : goal.invariant-loop-t
invariant-loop-t l =
    (vec_items l.roots ≡ roots (count_at l.nodes) l.t)
    × (vec_len l.starts ≡ l.t)
    × Starts (count_at l.nodes) l.t (vec_items l.starts)
    × (vec_items l.kids ≡ kids_before (count_at l.nodes) l.t)
