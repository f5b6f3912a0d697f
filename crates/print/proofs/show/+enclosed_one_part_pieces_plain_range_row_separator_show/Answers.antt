use Rattle.std.proofs.Common.{◌≡◌, suc, ◌+◌, ◌-◌, true, false, cond, eqb, [], ◌∷◌, ◌++◌, length, get_or, take, drop, sym, refl, ap, ◌∙◌, arith}
use Rattle.std.proofs.lemmas.Bool.{eq-eqb, ne_eqb}
use Rattle.lines.specs.Chosen.{seen}
use Rattle.lines.specs.Events.{byte, enclosed, line}
use Rattle.wire.specs.Ahead.{ahead, is_end}
use Rattle.wire.specs.Cursor.{ahead_of}
use Rattle.lines.specs.declared.error.LineError.TheVariants.{MissingChild}
use Rattle.moves.proofs.Runs.{thence, broke}
use Rattle.moves.specs.Run.{state, done, run}
use Rattle.moves.specs.Walk.{onward, over, plain, part_of}
use Rattle.print.proofs.Steps.{over_shorter, some_of, walk_more, row_more, row_all, range_some, range_none, one_more, child_shown, range_part, visited, entered}
use Rattle.print.specs.Jobs.{powers_of, children_of, below, spans_of, inside_at, outside_at, row_at}
use Rattle.print.proofs.show.+enclosed_one_part_pieces_plain_range_row_separator_show.Goals as goal
use Rattle.print.proofs.show.+enclosed_one_part_pieces_plain_range_row_separator_show.Goals.{one-then-place-row+in_ok-separator, one-else-place-row}

pub enclosed-returns-in_err-pieces : goal.enclosed-returns-in_err-pieces
enclosed-returns-in_err-pieces g t c =
    let ch = (g.C.Chooser.choices c.args.job.now.chooser.now).chosen in
    let m = g.S.TermSource.view c.args.job.now.source.now in
    let f = g.C.Match.Spans.listed in
    let j = c.args.job.now in
    let s = state c.args.pen.now in
    let es = outside_at ch m f j j.term (ahead j.code.now 0) in
    broke c.from_residual-in_err-pieces.ensures.1
    (thence es (byte 41 ∷ []) (state c.put.new.self) c.in_err-pieces.ensures
    ∙ thence (byte 40 ∷ []) (es ++ byte 41 ∷ []) s c.in_ok-put.ensures
    ∙ ap (λ b. run (enclosed b es) s) (sym c.if-bracketed.true ∙ c.bracketed.ensures))

pub enclosed-returns-in_ok-pieces : goal.enclosed-returns-in_ok-pieces
enclosed-returns-in_ok-pieces g t c =
    let ch = (g.C.Chooser.choices c.args.job.now.chooser.now).chosen in
    let m = g.S.TermSource.view c.args.job.now.source.now in
    let f = g.C.Match.Spans.listed in
    let j = c.args.job.now in
    let s = state c.args.pen.now in
    let es = outside_at ch m f j j.term (ahead j.code.now 0) in
    c.put-then-bracketed.ensures
    ∙ thence es (byte 41 ∷ []) (state c.put.new.self) c.in_ok-pieces.ensures
    ∙ thence (byte 40 ∷ []) (es ++ byte 41 ∷ []) s c.in_ok-put.ensures
    ∙ ap (λ b. run (enclosed b es) s) (sym c.if-bracketed.true ∙ c.bracketed.ensures)

pub one-returns-in_err-separator : goal.one-returns-in_err-separator
one-returns-in_err-separator g t c =
    let ch = (g.C.Chooser.choices c.args.job.now.chooser.now).chosen in
    let m = g.S.TermSource.view c.args.job.now.source.now in
    let f = g.C.Match.Spans.listed in
    let j = c.args.job.now in
    let s = state c.args.pen.now in
    let w = c.args.row.now in
    let place = c.args.place in
    let gap = inside_at ch m f j j.term (ahead_of w.between) in
    let rest = below ch m f j (get_or (m.children w.parent) place 0) (powers_of w (eqb place w.first) (eqb (place + 1) w.end)) in
    broke c.from_residual.ensures.1 (thence gap rest s c.in_err-separator.ensures ∙ ap (λ b. run (cond b [] gap ++ rest) s) (sym (ne_eqb place w.first c.if-place-row.true)))

pub pieces-returns-in_err-part : goal.pieces-returns-in_err-part
pieces-returns-in_err-part g t c =
    let ch = (g.C.Chooser.choices c.args.job.now.chooser.now).chosen in
    let m = g.S.TermSource.view c.args.job.now.source.now in
    let f = g.C.Match.Spans.listed in
    let j = c.args.job.now in
    let s = state c.args.pen.now in
    let z = state c.walking.pen in
    let k = c.in-Some.command in
    let up = ahead_of c.next.new.self in
    let e : is_end k ≡ false = sym c.is_end.ensures ∙ c.if-is_end.false in
    broke c.from_residual.ensures.1
    (walk_more m (below ch m f j) j.term j.name.now (spans_of ch m f j) (part_of m (below ch m f j) j.term j.name.now (spans_of ch m f j))
    c.walking.here (onward m j.term c.walking.here k) k up (over k up) (ahead_of c.walking.commands) z
    c.in-Some.ensures.steps e c.in_err-part.ensures refl refl
    ∙ c.walking.invariant)

pub pieces-walking-preserved : goal.pieces-walking-preserved
pieces-walking-preserved g t c =
    let ch = (g.C.Chooser.choices c.args.job.now.chooser.now).chosen in
    let m = g.S.TermSource.view c.args.job.now.source.now in
    let f = g.C.Match.Spans.listed in
    let j = c.args.job.now in
    let s = state c.args.pen.now in
    let z = state c.walking.pen in
    let k = c.in-Some.command in
    let up = ahead_of c.next.new.self in
    let e : is_end k ≡ false = sym c.is_end.ensures ∙ c.if-is_end.false in
    walk_more m (below ch m f j) j.term j.name.now (spans_of ch m f j) (part_of m (below ch m f j) j.term j.name.now (spans_of ch m f j))
    c.walking.here c.onward-here.result k up (ahead_of c.pass_operands.new.commands) (ahead_of c.walking.commands) z
    c.in-Some.ensures.steps e c.in_ok-part.ensures c.onward-here.ensures c.pass_operands.ensures.commands
    ∙ c.walking.invariant

pub range-returns-then-span : goal.range-returns-then-span
range-returns-then-span g t c =
    let ch = (g.C.Chooser.choices c.args.job.now.chooser.now).chosen in
    let m = g.S.TermSource.view c.args.job.now.source.now in
    let f = g.C.Match.Spans.listed in
    let j = c.args.job.now in
    let s = state c.args.pen.now in
    let w = c.args.span.now in
    range_none (below ch m f j) (powers_of w) (inside_at ch m f j j.term (ahead_of w.between)) (m.children w.parent) w.end c.requires (inside_at ch m f j j.term (ahead_of w.before)) (inside_at ch m f j j.term (ahead_of w.behind)) w.first s (omega arith)

pub range-returns-in_err-separator : goal.range-returns-in_err-separator
range-returns-in_err-separator g t c =
    let ch = (g.C.Chooser.choices c.args.job.now.chooser.now).chosen in
    let m = g.S.TermSource.view c.args.job.now.source.now in
    let f = g.C.Match.Spans.listed in
    let j = c.args.job.now in
    let s = state c.args.pen.now in
    let w = c.args.span.now in
    let a = inside_at ch m f j j.term (ahead_of w.before) in
    let b = inside_at ch m f j j.term (ahead_of w.behind) in
    let r = row_at ch m f j w true (children_of m w) in
    broke c.from_residual.ensures.1
    (thence a (r ++ b) s c.in_err-separator.ensures
    ∙ ap (λ es. run es s) (range_some (below ch m f j) (powers_of w) (inside_at ch m f j j.term (ahead_of w.between)) (m.children w.parent) w.end c.requires a b w.first (omega arith)))

pub range-returns-in_err-row : goal.range-returns-in_err-row
range-returns-in_err-row g t c =
    let ch = (g.C.Chooser.choices c.args.job.now.chooser.now).chosen in
    let m = g.S.TermSource.view c.args.job.now.source.now in
    let f = g.C.Match.Spans.listed in
    let j = c.args.job.now in
    let s = state c.args.pen.now in
    let w = c.args.span.now in
    let a = inside_at ch m f j j.term (ahead_of w.before) in
    let b = inside_at ch m f j j.term (ahead_of w.behind) in
    let r = row_at ch m f j w true (children_of m w) in
    broke c.from_residual-in_err-row.ensures.1
    (thence r b (state c.separator.new.pen) c.in_err-row.ensures
    ∙ thence a (r ++ b) s c.in_ok-separator.ensures
    ∙ ap (λ es. run es s) (range_some (below ch m f j) (powers_of w) (inside_at ch m f j j.term (ahead_of w.between)) (m.children w.parent) w.end c.requires a b w.first (omega arith)))

pub range-returns : goal.range-returns
range-returns g t c =
    let ch = (g.C.Chooser.choices c.args.job.now.chooser.now).chosen in
    let m = g.S.TermSource.view c.args.job.now.source.now in
    let f = g.C.Match.Spans.listed in
    let j = c.args.job.now in
    let s = state c.args.pen.now in
    let w = c.args.span.now in
    let a = inside_at ch m f j j.term (ahead_of w.before) in
    let b = inside_at ch m f j j.term (ahead_of w.behind) in
    let r = row_at ch m f j w true (children_of m w) in
    c.separator-2.ensures
    ∙ thence r b (state c.separator.new.pen) c.in_ok-row.ensures
    ∙ thence a (r ++ b) s c.in_ok-separator.ensures
    ∙ ap (λ es. run es s) (range_some (below ch m f j) (powers_of w) (inside_at ch m f j j.term (ahead_of w.between)) (m.children w.parent) w.end c.requires a b w.first (omega arith))

pub row-returns-in_err-one : goal.row-returns-in_err-one
row-returns-in_err-one g t c =
    let ch = (g.C.Chooser.choices c.args.job.now.chooser.now).chosen in
    let m = g.S.TermSource.view c.args.job.now.source.now in
    let f = g.C.Match.Spans.listed in
    let j = c.args.job.now in
    let s = state c.args.pen.now in
    let w = c.args.row.now in
    let place = c.loop-place.place in
    broke c.from_residual.ensures.1
    (row_more (below ch m f j) (powers_of w) (inside_at ch m f j j.term (ahead_of w.between)) (m.children w.parent) w.end c.requires place (eqb place w.first) (state c.loop-place.pen) c.loop-place-test.true c.in_err-one.ensures
    ∙ c.loop-place.invariant)

pub row-loop-place-preserved : goal.row-loop-place-preserved
row-loop-place-preserved g t c =
    let ch = (g.C.Chooser.choices c.args.job.now.chooser.now).chosen in
    let m = g.S.TermSource.view c.args.job.now.source.now in
    let f = g.C.Match.Spans.listed in
    let j = c.args.job.now in
    let s = state c.args.pen.now in
    let w = c.args.row.now in
    let place = c.loop-place.place in
    ap (λ b. run (row_at ch m f j w b (drop (place + 1) (take w.end (m.children w.parent)))) (state c.one.new.pen)) (ne_eqb (place + 1) w.first (λ e. omega (arith, e, c.loop-place.auto.place)))
    ∙ row_more (below ch m f j) (powers_of w) (inside_at ch m f j j.term (ahead_of w.between)) (m.children w.parent) w.end c.requires place (eqb place w.first) (state c.loop-place.pen) c.loop-place-test.true c.in_ok-one.ensures
    ∙ c.loop-place.invariant

pub row-returns : goal.row-returns
row-returns g t c =
    let ch = (g.C.Chooser.choices c.args.job.now.chooser.now).chosen in
    let m = g.S.TermSource.view c.args.job.now.source.now in
    let f = g.C.Match.Spans.listed in
    let j = c.args.job.now in
    let s = state c.args.pen.now in
    let w = c.args.row.now in
    let place = c.loop-place.place in
    row_all (below ch m f j) (powers_of w) (inside_at ch m f j j.term (ahead_of w.between)) (m.children w.parent) w.end c.requires place (eqb place w.first) (state c.loop-place.pen) c.loop-place-test.false ∙ c.loop-place.invariant

pub separator-returns-in_err-plain : goal.separator-returns-in_err-plain
separator-returns-in_err-plain g t c =
    let ch = (g.C.Chooser.choices c.args.job.now.chooser.now).chosen in
    let m = g.S.TermSource.view c.args.job.now.source.now in
    let f = g.C.Match.Spans.listed in
    let j = c.args.job.now in
    let s = state c.args.pen.now in
    let z = state c.walking.pen in
    let k = c.in-Some.command in
    let up = ahead_of c.next.new.self in
    let e : is_end k ≡ false = sym c.is_end.ensures ∙ c.if-is_end.false in
    broke c.from_residual.ensures.1
    (walk_more m (below ch m f j) j.term j.name.now (spans_of ch m f j) (λ v k js. plain m (below ch m f j) j.term j.name.now (spans_of ch m f j) v k)
    c.walking.here (onward m j.term c.walking.here k) k up (over k up) (ahead_of c.walking.commands) z
    c.in-Some.ensures.steps e c.in_err-plain.ensures refl refl
    ∙ c.walking.invariant)

pub separator-walking-preserved : goal.separator-walking-preserved
separator-walking-preserved g t c =
    let ch = (g.C.Chooser.choices c.args.job.now.chooser.now).chosen in
    let m = g.S.TermSource.view c.args.job.now.source.now in
    let f = g.C.Match.Spans.listed in
    let j = c.args.job.now in
    let s = state c.args.pen.now in
    let z = state c.walking.pen in
    let k = c.in-Some.command in
    let up = ahead_of c.next.new.self in
    let e : is_end k ≡ false = sym c.is_end.ensures ∙ c.if-is_end.false in
    walk_more m (below ch m f j) j.term j.name.now (spans_of ch m f j) (λ v k js. plain m (below ch m f j) j.term j.name.now (spans_of ch m f j) v k)
    c.walking.here c.onward-here.result k up (ahead_of c.pass_operands.new.commands) (ahead_of c.walking.commands) z
    c.in-Some.ensures.steps e c.in_ok-plain.ensures c.onward-here.ensures c.pass_operands.ensures.commands
    ∙ c.walking.invariant

pub show-returns-in_err-enter : goal.show-returns-in_err-enter
show-returns-in_err-enter g t c =
    let ch = (g.C.Chooser.choices c.args.chooser.now).chosen in
    let m = g.S.TermSource.view c.args.source.now in
    broke c.from_residual.ensures.1 (entered ch m c.args.depth c.args.term c.args.powers.left c.args.powers.right (state c.args.pen.now) (c.in_err-enter.ensures.counted c.args.term))

pub show-returns : goal.show-returns
show-returns g t c =
    let choices = g.C.Chooser.choices c.args.chooser.now in
    let ch = choices.chosen in
    let m = g.S.TermSource.view c.args.source.now in
    let out = c.copy_name-len.new.out in
    let len = c.copy_name-len.result in
    let cut : len - 0 ≡ len = omega arith in
    let nm : take (len - 0) out ≡ m.name c.args.term = ap (λ k. take k out) cut ∙ c.copy_name-len.ensures.copied in
    let count = c.child_number-count.result in
    c.enclosed.ensures
    ∙ visited ch m c.args.depth c.args.term c.args.powers.left c.args.powers.right (take (len - 0) out) count (seen g.C.Match.Spans.listed (length (take (len - 0) out)) c.choose-found.result) (state c.enter.new.self)
    nm c.child_number-count.ensures c.choose-found.ensures (choices.formed (take (len - 0) out) count)
    ∙ entered ch m c.args.depth c.args.term c.args.powers.left c.args.powers.right (state c.args.pen.now) (c.in_ok-enter.ensures.counted c.args.term)

pub one-returns : goal.one-returns
one-returns g t c =
    let ch = (g.C.Chooser.choices c.args.job.now.chooser.now).chosen in
    let m = g.S.TermSource.view c.args.job.now.source.now in
    let f = g.C.Match.Spans.listed in
    let j = c.args.job.now in
    let s = state c.args.pen.now in
    let w = c.args.row.now in
    let place = c.args.place in
    let first = eqb place w.first in
    let gap = inside_at ch m f j j.term (ahead_of w.between) in
    let rest = below ch m f j (get_or (m.children w.parent) place 0) (powers_of w first (eqb (place + 1) w.end)) in
    let z = state c.if-place-row.pen in
    let came : done z ≡ run (cond first [] gap) s = elim c.if-place-row.branch [
      | one-then-place-row+in_ok-separator v ↦ (λ i. done (state (v.pen-is i))) ∙ v.in_ok-separator.ensures ∙ ap (λ b. run (cond b [] gap) s) (sym (ne_eqb place w.first v.if-place-row.true))
      | one-else-place-row v ↦ (λ i. done (state (v.pen-is i))) ∙ ap (λ b. run (cond b [] gap) s) (sym (eq-eqb place w.first v.if-place-row.false))
    ] in
    let next : j.depth + 1 ≡ suc j.depth = omega arith in
    let there = sym (some_of c.child.result MissingChild c.ok_or.ensures.value c.in_ok-child.was) ∙ c.child.ensures in
    one_more gap rest first s z came
    (c.show.ensures ∙ child_shown (below ch m f j) (suc j.depth) (j.depth + 1) (λ d. line ch m d) (m.children w.parent) place c.in_ok-child.child _ (powers_of w first (eqb (place + 1) w.end)) z
    there c.around-powers.ensures refl next)

pub part-returns-in-Range : goal.part-returns-in-Range
part-returns-in-Range g t c =
    let ch = (g.C.Chooser.choices c.args.job.now.chooser.now).chosen in
    let m = g.S.TermSource.view c.args.job.now.source.now in
    let f = g.C.Match.Spans.listed in
    let j = c.args.job.now in
    let s = state c.args.pen.now in
    c.range.ensures
    ∙ range_part m (below ch m f j) j.term j.name.now (spans_of ch m f j) c.args.here c.in-Range.from c.in-Range.to c.in-Range.left c.in-Range.middle_left c.in-Range.middle_right c.in-Range.right
    c.args.command (ahead_of c.args.rest) (ahead_of c.pass.new.self) (ahead_of c.pass-in-Range.new.self)
    c.child_number-count.result c.first_of-first.result c.end_of-end.result s
    c.in-Range.is c.pass.ensures.commands c.pass-in-Range.ensures.commands c.child_number-count.ensures c.first_of-first.ensures c.end_of-end.ensures.value

pub pieces-walking-smaller : goal.pieces-walking-smaller
pieces-walking-smaller g t c = over_shorter c.in-Some.command (ahead_of c.next.new.self) c.in-Some.ensures.steps c.pass_operands.ensures.commands

pub separator-walking-smaller : goal.separator-walking-smaller
separator-walking-smaller g t c = over_shorter c.in-Some.command (ahead_of c.next.new.self) c.in-Some.ensures.steps c.pass_operands.ensures.commands
