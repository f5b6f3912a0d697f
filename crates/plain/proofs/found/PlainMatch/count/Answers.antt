use Rattle.std.proofs.Common.{◌≤◌, length, take, sym, ◌∙◌, arith}
use Rattle.std.proofs.lemmas.List.{length-map, length-take-le}
use Rattle.plain.specs.Rules.{as_span}
use Rattle.plain.proofs.found.PlainMatch.count.Goals as goal

pub returns : goal.returns
returns c =
    let m = c.args.self.now in
    let le : m.count ≤ length m.places = omega (arith, m.full, m.few) in
    sym (length-map (take m.count m.places) as_span ∙ length-take-le m.count m.places le)
