use Rattle.std.proofs.Common.{rules}
use borrow.Author.Tests.{tests}
use Rattle.std.proofs.lemmas.Iterator.{YieldsList-from_slice}
use Rattle.std.proofs.lemmas.Iterator.Search.{find_from_yields_List}
use Rattle.listed.proofs.Steps.{telling, told}
use Rattle.listed.proofs.answers.find.Goals as goal

pub returns : goal.returns
returns c = told c.args.text.now c.args.rows.now c.find.result
    (find_from_yields_List (telling c.args.text.now) _ _ c.find.result c.find.ensures.ran (YieldsList-from_slice c.args.rows.now cc) (λ x b q k. search (rules, tests)))
