use Rattle.std.proofs.Common.{◌≡◌, ℕ, ◌<◌, vec_items, vec_len}
use Rattle.tables.specs.Rows.{name_at, children_at}
use Rattle.tapes.specs.Tape.{tape_view}
use Rattle.tapes.proofs.tape.Tape.rows.Given as goal

abbrev pub invariant-loop-t : goal.invariant-loop-t
invariant-loop-t l =
    (vec_len l.rows ≡ l.t)
    × ((u : ℕ) → u < l.t → name_at (vec_items l.rows) u ≡ (tape_view l.self).name u)
    × ((u : ℕ) → u < l.t → children_at (vec_items l.rows) u ≡ (tape_view l.self).children u)
