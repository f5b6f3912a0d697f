use Rattle.std.proofs.Common.{◌≡◌, ◌+◌, ◌≤◌, true, leb, ◌++◌, map, length, drop, ap, ◌∙◌, arith}
use Rattle.std.proofs.lemmas.List.Edits.{sets-eq}
use Rattle.std.proofs.lemmas.List.{length-map}
use Rattle.std.proofs.lemmas.Bool.{le-leb}
use Rattle.plain.specs.Rules.{listing}
use Rattle.kernel.specs.Answers.{part_of}
use Rattle.kernel.proofs.parts.matched.Goals as goal

pub returns-clause-buffer : goal.returns-clause-buffer
returns-clause-buffer c =
    let l = listing c.args.found.now in
    let b = c.args.parts.now in
    let n = length-map l part_of in
    let short : length l ≤ length b = omega (arith, c.count.ensures) in
    let fits : leb (length l) (length b) ≡ true = le-leb _ _ short in
    let e : 0 + length (map part_of l) ≡ length l = omega (arith, n) in
    rw fits (c.put_parts.ensures ∙ sets-eq (map part_of l) b 0 (omega (arith, n, short)) ∙ ap (λ k. map part_of l ++ drop k b) e)
