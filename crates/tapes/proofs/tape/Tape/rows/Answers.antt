use Rattle.std.proofs.Common.{vec_items, arith}
use Rattle.tables.specs.Table.{Written}
use Rattle.tables.proofs.Rewritten.{rewritten}
use Rattle.tapes.specs.Tape.{tape_view}
use Rattle.tapes.proofs.tape.Tape.rows.Goals as goal

written : (c : goal.After-loop-t) → Written (tape_view c.args.self.now) (vec_items c.loop-t.rows)
written c = record {
  number = omega (arith, c.loop-t.rows.ok.0, c.loop-t.invariant.0, c.loop-t-test.false);
  names = λ t h. c.loop-t.invariant.1 t (omega (arith, c.loop-t-test.false));
  children = λ t h. c.loop-t.invariant.2 t (omega (arith, c.loop-t-test.false));
}

pub returns : goal.returns
returns c = record { written = written c; opens = rewritten _ _ (written c) }
