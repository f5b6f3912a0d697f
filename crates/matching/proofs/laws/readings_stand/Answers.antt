use Rattle.matching.proofs.Grammatical.{reads-patterns}
use Rattle.matching.proofs.laws.readings_stand.Goals as goal

pub returns : goal.returns
returns c = reads-patterns
