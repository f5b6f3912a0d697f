use Rattle.std.proofs.Common.{◌≡◌, ℕ, ◌+◌, List, [], get_or, Some, None, Option, sym, ap, ◌∙◌, arith}
use Rattle.matching.specs.Cells.{cell, takes_of}
use Rattle.matching.specs.Items.{as_seq}
use Rattle.matching.specs.Places.{placed}
use Rattle.matching.proofs.Following.{Left, onwards}
use Rattle.plain.proofs.search.Search.follow.Goals as goal

next : (c : goal.After-unwrap-at) → Left c.args.self.now.items.now c.args.self.now.name.now (c.loop-i.i + 1) (c.loop-i.at + c.unwrap-at.result) c.mark.new.places (placed (takes_of c.args.self.now.items.now c.args.self.now.name.now) (as_seq c.args.self.now.items.now) 0 c.args.places.now)
next c =
    let is = c.requires.rows c.loop-i.i (omega arith) c.loop-i.at c.loop-i.invariant.0 in
    let row : List (Option ℕ) = get_or c.args.table.now c.loop-i.i [] in
    let took : cell c.args.self.now.items.now c.args.self.now.name.now c.loop-i.i c.loop-i.at ≡ Some c.unwrap-at.result = sym is ∙ ap (λ (n : ℕ). get_or row n None) (sym c.from.ensures) ∙ c.unwrap-at.ensures in
    onwards c.args.self.now.items.now c.args.self.now.name.now c.loop-i.i c.loop-i.at _ c.loop-i.places _ c.loop-i-test.true c.loop-i.invariant c.unwrap-at.result c.mark.new.places took c.mark.ensures

pub overflow_add-at : goal.overflow_add-at
overflow_add-at c = let n = (next c).0 in omega arith

pub loop-i-preserved : goal.loop-i-preserved
loop-i-preserved c = next c
