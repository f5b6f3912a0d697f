use Rattle.std.proofs.Common.{length, ap, arith}
use Rattle.std.proofs.lemmas.Bool.{le-leb}
use Rattle.formatter.proofs.Halving.{writes, stands, all_written, no_longer}
use Rattle.formatter.proofs.halves.halve.Goals as goal

pub bounds-out-size : goal.bounds-out-size
bounds-out-size c = omega (arith, ap length c.in-Some.ensures.steps, no_longer c.args.mark c.args.text.now)

pub loop-b-preserved : goal.loop-b-preserved
loop-b-preserved c = (
  tt,
  tt,
  omega (arith, ap length c.in-Some.ensures.steps),
  writes c.loop-b.out c.loop-b.size _ _ _ _ (omega (arith, ap length c.in-Some.ensures.steps, no_longer c.args.mark c.args.text.now)) c.in-Some.ensures.steps c.loop-b.invariant.3,
  stands c.loop-b.out c.args.out.now c.loop-b.size _ c.loop-b.invariant.4,
)

pub returns-clause-bytes : goal.returns-clause-bytes
returns-clause-bytes c =
    let under = le-leb _ _ c.if-text-out.false in
    rw under (all_written c.args.mark c.args.text.now c.loop-b.out c.args.out.now c.loop-b.size (rw c.in-None.ensures.steps.0 at c.loop-b.invariant.3) (rw c.in-None.ensures.steps.0 at c.loop-b.invariant.2) c.loop-b.invariant.4)
