use Rattle.std.proofs.Common.{ap, ◌∙◌}
use Rattle.lines.specs.Events.{context, line, alone}
use Rattle.moves.proofs.Runs.{same_buffer}
use Rattle.moves.specs.Run.{Outcome, state, run}
use Rattle.print.proofs.printing.begin.Goals as goal

pub returns : goal.returns
returns g c =
    let ch = (g.C.Chooser.choices c.args.chooser.now).chosen in
    let m = g.S.TermSource.view c.args.source.now in
    let s = state c.args.pen.now in
    let e = c.show.ensures ∙ (λ i. run (line ch m 1 c.args.term (context (c.default.ensures.0 i) (c.default.ensures.1 i))) s) in
    record {
      same = ap (λ (o : Outcome). o.state.buffer) e ∙ same_buffer (line ch m 1 c.args.term alone) s;
      shown = e;
    }
