use Rattle.std.proofs.Common.{rules}
use borrow.Author.Tests.{tests}
use Rattle.std.proofs.lemmas.Iterator.{YieldsList-from_slice}
use Rattle.std.proofs.lemmas.Iterator.Search.{find_from_yields_List}
use Rattle.listed.proofs.Steps.{hitting, spans_told}
use Rattle.listed.proofs.answers.find_hit.Goals as goal

pub returns : goal.returns
returns c =
    let t = c.args.text.now in
    let n = c.args.count in
    let name = c.args.name.now in
    spans_told t n name c.args.rows.now c.find.result
    (find_from_yields_List (hitting n t name) _ _ c.find.result c.find.ensures.ran (YieldsList-from_slice c.args.rows.now cc) (λ x b q k. search (rules, tests)))
