use Rattle.std.proofs.Common.{length, ap, arith}
use Rattle.std.proofs.lemmas.Grind.{common_steps}
use Rattle.wire.proofs.Dues.{tail_of_tail, tail_behind}
use Rattle.wire.proofs.cursor.Commands.pass.Goals as goal

pub returns-clause-fewer : goal.returns-clause-fewer
returns-clause-fewer c = omega (arith, ap length c.in_default.ensures.stays, c.passing.invariant.fewer)

pub returns-then-is_end-clause-tail : goal.returns-then-is_end-clause-tail
returns-then-is_end-clause-tail c = tail_of_tail _ _ _ (tail_behind _ _ _ c.in-Some.ensures.bytes) c.passing.invariant.tail

pub passing-preserved : goal.passing-preserved
passing-preserved c = record {
  ahead = grind (arith, common_steps, c.in-Some.ensures.commands, c.is_end.ensures, c.if-is_end.ensures);
  fewer = omega (arith, c.in-Some.ensures.shorter, c.passing.invariant.fewer);
  tail = tail_of_tail _ _ _ (tail_behind _ _ _ c.in-Some.ensures.bytes) c.passing.invariant.tail;
}
