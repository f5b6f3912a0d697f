use Rattle.std.proofs.Common.{◌≡◌, ◌+◌, ◌-◌, ◌*◌, true, eqb, length, take, drop}
use Rattle.moves.specs.Run.{state, run}
use Rattle.wire.specs.Ahead.{ahead}
use Rattle.wire.specs.Cursor.{ahead_of}
use Rattle.print.specs.Jobs.{children_of, inside_at, outside_at, row_at}
use Rattle.print.proofs.show.+enclosed_one_part_pieces_plain_range_row_separator_show.Given as goal

-- a visit lies nine levels above its children's
abbrev pub decreases-show : goal.decreases-show
decreases-show g l = 9 * (129 - l.depth)

abbrev pub decreases-plain : goal.decreases-plain
decreases-plain g l = 9 * (128 - l.job.now.depth) + 1

abbrev pub decreases-separator : goal.decreases-separator
decreases-separator g l = 9 * (128 - l.job.now.depth) + 2

abbrev pub decreases-one : goal.decreases-one
decreases-one g l = 9 * (128 - l.job.now.depth) + 3

abbrev pub decreases-row : goal.decreases-row
decreases-row g l = 9 * (128 - l.job.now.depth) + 4

abbrev pub decreases-range : goal.decreases-range
decreases-range g l = 9 * (128 - l.job.now.depth) + 5

abbrev pub decreases-part : goal.decreases-part
decreases-part g l = 9 * (128 - l.job.now.depth) + 6

abbrev pub decreases-pieces : goal.decreases-pieces
decreases-pieces g l = 9 * (128 - l.job.now.depth) + 7

abbrev pub decreases-enclosed : goal.decreases-enclosed
decreases-enclosed g l = 9 * (128 - l.job.now.depth) + 8

-- what is left does what the whole does
abbrev pub invariant-separator-walking : goal.invariant-separator-walking
invariant-separator-walking g l =
    let inside = inside_at (g.C.Chooser.choices l.job.chooser.now).chosen (g.S.TermSource.view l.job.source.now) g.C.Match.Spans.listed l.job in
    run (inside l.here (ahead_of l.commands)) (state l.pen) ≡ run (inside l.job.term (ahead_of l.initial.commands)) (state l.initial.pen)

abbrev pub decreases-separator-walking : goal.decreases-separator-walking
decreases-separator-walking g l = length (ahead_of l.commands)

abbrev pub invariant-pieces-walking : goal.invariant-pieces-walking
invariant-pieces-walking g l =
    let outside = outside_at (g.C.Chooser.choices l.job.chooser.now).chosen (g.S.TermSource.view l.job.source.now) g.C.Match.Spans.listed l.job in
    run (outside l.here (ahead_of l.commands)) (state l.pen) ≡ run (outside l.job.term (ahead l.job.code.now 0)) (state l.initial.pen)

abbrev pub decreases-pieces-walking : goal.decreases-pieces-walking
decreases-pieces-walking g l = length (ahead_of l.commands)

abbrev pub invariant-row-loop-place : goal.invariant-row-loop-place
invariant-row-loop-place g l =
    let m = g.S.TermSource.view l.job.source.now in
    let row = row_at (g.C.Chooser.choices l.job.chooser.now).chosen m g.C.Match.Spans.listed l.job l.row in
    run (row (eqb l.place l.row.first) (drop l.place (take l.row.end (m.children l.row.parent)))) (state l.pen) ≡ run (row true (children_of m l.row)) (state l.initial.pen)
