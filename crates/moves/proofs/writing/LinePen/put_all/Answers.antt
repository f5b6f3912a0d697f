use Rattle.std.proofs.Common.{sym, refl, ◌∙◌}
use Rattle.std.proofs.lemmas.List.{at_drop_all}
use Rattle.lines.specs.Events.{bytes}
use Rattle.moves.specs.Run.{state, run}
use Rattle.moves.proofs.Runs.{broke, byte_more}
use Rattle.moves.proofs.writing.LinePen.put_all.Goals as goal

pub returns-in_err-put : goal.returns-in_err-put
returns-in_err-put c = broke c.from_residual.ensures.1 (byte_more c.args.text.now c.loop-b.b-index (state c.loop-b.self) c.loop-b-test.true refl c.in_err-put.ensures ∙ c.loop-b.invariant)

pub loop-b-preserved : goal.loop-b-preserved
loop-b-preserved c = byte_more c.args.text.now c.loop-b.b-index (state c.loop-b.self) c.loop-b-test.true refl c.in_ok-put.ensures ∙ c.loop-b.invariant

pub returns : goal.returns
returns c = sym (at_drop_all (λ bs. run (bytes bs) (state c.loop-b.self)) c.args.text.now c.loop-b.b-index c.loop-b-test.false) ∙ c.loop-b.invariant
