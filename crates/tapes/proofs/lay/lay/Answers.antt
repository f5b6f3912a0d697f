use Rattle.std.proofs.Common.{ℕ, ◌<◌, vec_items, arith}
use Rattle.tapes.specs.Nodes.{count_at}
use Rattle.tapes.proofs.Laid.{laid_within, laid_at, laid_length}
use Rattle.tapes.proofs.lay.lay.Goals as goal

pub invariant_of-result : goal.invariant_of-result
invariant_of-result c =
    let n = c.loop-t.t in
    let k = count_at c.args.nodes.now in
    let enough = λ (t : ℕ) (h : t < c.loop-t.t). (c.requires t (omega arith)).1 in
    let v = c.loop-t.invariant in
    record {
      each = omega arith;
      lawful = c.requires;
      laid = λ t h. omega (arith, laid_within k n enough (vec_items c.loop-t.starts) (vec_items c.loop-t.kids) v.2 v.3 t (omega arith), c.loop-t.kids.ok.0);
      kept = λ t i h. laid_at k n enough (vec_items c.loop-t.starts) (vec_items c.loop-t.kids) v.2 v.3 t i (omega (arith, h.0)) h.1;
    }

pub returns-clause-room : goal.returns-clause-room
returns-clause-room c =
    let v = c.loop-t.invariant in
    omega (arith, laid_length (count_at c.args.nodes.now) c.loop-t.t (λ t h. (c.requires t (omega arith)).1) (vec_items c.loop-t.starts) (vec_items c.loop-t.kids) v.2 v.3, c.loop-t.kids.ok.0)
