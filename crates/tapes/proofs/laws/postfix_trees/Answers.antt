use Rattle.tapes.proofs.Postfix.{postfix_holds}
use Rattle.tapes.proofs.laws.postfix_trees.Goals as goal

pub returns : goal.returns
returns c = postfix_holds
