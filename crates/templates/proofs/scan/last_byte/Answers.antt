use Rattle.std.proofs.Common.{rules}
use Rattle.std.proofs.iter.runs.Made.{chains}
use Rattle.templates.proofs.Marks.{found_last}
use Rattle.templates.proofs.scan.last_byte.Goals as goal

pub returns-clause-value : goal.returns-clause-value
returns-clause-value c =
    let xs = c.args.text.now in
    found_last c.args.mark xs _ (search (rules, chains))
