use Rattle.std.proofs.Common.{◌∙◌, rules, tests}
use Rattle.std.proofs.lemmas.Iterator.Adapters.{position_from-zero}
use Rattle.std.proofs.lemmas.Iterator.Search.{position_from_yields_List}
use Rattle.controls.proofs.MarkSteps.{is_pair, pairs_of, windows_pairs, found_first}
use Rattle.controls.proofs.marks.first_mark.Goals as goal

pub returns-clause-first : goal.returns-clause-first
returns-clause-first c =
    let xs = c.args.text.now in
    position_from_yields_List (is_pair c.args.one c.args.two) _ _ c.position.result c.position.ensures.ran (windows_pairs xs c.windows.ensures.size c.windows.ensures.rest) (λ x b q k. search (rules, tests)) ∙ position_from-zero (is_pair c.args.one c.args.two) (pairs_of xs) ∙ found_first c.args.one c.args.two 0 xs
