use Rattle.std.proofs.Common.{◌+◌, map, drop, set, sym, ap, ◌∙◌, arith, length-set}
use lib.Seq.{sets}
use Rattle.plain.specs.Rules.{listing}
use Rattle.kernel.specs.Answers.{part_of}
use Rattle.kernel.proofs.PartByPart.{one_more, all_done}
use Rattle.kernel.proofs.parts.put_parts.Goals as goal

pub loop-k-preserved : goal.loop-k-preserved
loop-k-preserved c =
    let l = listing c.args.found.now in
    let k = c.loop-k.k in
    let i = c.loop-k.invariant in
    let e = c.from.ensures ∙ ap part_of c.at.ensures in
    let s = length-set c.loop-k.parts k c.from.result in
    (ap (λ p. sets (set c.loop-k.parts k p) (k + 1) (drop (k + 1) (map part_of l))) e ∙ one_more l k c.loop-k.parts (omega arith) ∙ i.0, omega (arith, s, i.1))
