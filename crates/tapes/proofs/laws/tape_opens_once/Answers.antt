use Rattle.std.proofs.Common.{length}
use Rattle.terms.proofs.Equal.{opens_once}
use Rattle.tapes.specs.Nodes.{name_at, count_at, Lawful}
use Rattle.tapes.specs.Roots.{children_of}
use Rattle.tapes.proofs.laws.tape_opens_once.Goals as goal

pub returns : goal.returns
returns c = λ nodes. opens_once (Lawful nodes) (length nodes) (name_at nodes) (children_of (count_at nodes))
