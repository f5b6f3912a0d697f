use Rattle.std.proofs.Common.{ℕ, List, map, take, Some, sym, ap, ◌∙◌, arith}
use Rattle.matching.specs.declared.items.Item.{Item}
use Rattle.matching.proofs.Placing.{few_groups}
use Rattle.plain.specs.Rules.{as_span}
use Rattle.plain.proofs.Matched.{found_spans, found_size}
use Rattle.plain.proofs.Whole.{read_short}
use Rattle.plain.proofs.look.match_name.Goals as goal

pub invariant_of-result : goal.invariant_of-result
invariant_of-result c =
    let p = c.in_ok-pattern.pattern in
    let items = take p.len p.items in
    let short = read_short c.args.text.now items p.groups c.in_ok-pattern.ensures in
    let few = (few_groups c.args.text.now items p.groups (sym short.1) short.0).1 in
    record { full = found_size c.args.name.now c.items.result.now c.in_ok-places.places c.in_ok-places.ensures; few = omega (arith, few, c.from.ensures) }

pub returns : goal.returns
returns c =
    let p = c.in_ok-pattern.pattern in
    let short = read_short c.args.text.now (take p.len p.items) p.groups c.in_ok-pattern.ensures in
    let read = ap (λ (l : List Item). Some (l, p.groups)) c.items.ensures ∙ short.1 in
    ap (λ (k : ℕ). Some (map as_span (take k c.in_ok-places.places))) c.from.ensures ∙ found_spans c.args.text.now c.args.name.now c.items.result.now p.groups c.in_ok-places.places short.0 read c.in_ok-places.ensures
