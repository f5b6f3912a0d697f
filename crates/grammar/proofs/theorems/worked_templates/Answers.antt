use Rattle.std.proofs.Common.{refl}
use Rattle.grammar.proofs.theorems.worked_templates.Goals as goal

pub returns : goal.returns
returns c = (refl, refl, refl, refl, refl, refl, refl, refl)
