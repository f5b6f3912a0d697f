use Rattle.std.proofs.Common.{◌≡◌, ℕ, ◌+◌, ◌-◌, ◌<◌, ◌≤◌, ◌≢◌, cond, ltb, List, [], length, get_or, set, Some, None, Option, IfSome, subst, sym, ap, ◌∙◌, arith, rules, get_or-set_same, get_or-set_other, length-set}
use Rattle.matching.specs.Cells.{cell}
use Rattle.matching.proofs.Celled.{cell_here, row_more, cell_left}
use Rattle.plain.proofs.search.Search.fill_row.Goals as goal

pub loop-at-preserved : goal.loop-at-preserved
loop-at-preserved c =
    let items = c.args.self.now.items.now in
    let name = c.args.self.now.name.now in
    let table = c.loop-at.table in
    let i = c.args.i in
    let p = c.loop-at.at - 1 in
    let row : List (Option ℕ) = get_or table i [] in
    let made : List (Option ℕ) = set row p c.cell_of-again.result in
    let within : p ≤ length name = omega arith in
    let ne : i + 1 ≢ i = omega arith in
    let room : i < length table = omega (arith, c.loop-at.auto.table, c.requires.each) in
    let byte : c.copied-byte.result ≡ cond (ltb p (length name)) (Some (get_or name p 0)) None = search rules in
    let later = ap (λ (r : List (Option ℕ)). get_or r p None) (c.loop-at.invariant.others (i + 1) ne) ∙ c.requires.later p within in
    let is : c.cell_of-again.result ≡ cell items name i p = c.cell_of-again.ensures ∙ cell_here items name i p c.loop-at.at _ _ _ _ _ (omega arith) within (omega arith) byte later c.loop-at.invariant.after c.loop-at.invariant.again in
    let P : Option ℕ → Type 0 = λ o. IfSome o (λ n. n + p ≤ 255) in
    record {
      size = ap length (get_or-set_same table i made [] room) ∙ length-set row p c.cell_of-again.result ∙ c.loop-at.invariant.size;
      done = λ a h k. ap (λ (r : List (Option ℕ)). get_or r a None) (get_or-set_same table i made [] room) ∙ row_more items name i row p c.loop-at.at c.cell_of-again.result (omega arith) (omega (arith, c.loop-at.invariant.size)) is c.loop-at.invariant.done a h k;
      others = λ j n. get_or-set_other table i j made [] n ∙ c.loop-at.invariant.others j n;
      after = λ h. later;
      again = λ h. is;
      small = subst P (sym is) (cell_left items name i p 255 within (omega arith));
    }
