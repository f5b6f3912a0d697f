use Rattle.terms.proofs.Equal.{agreement_holds}
use Rattle.terms.proofs.laws.agreement.Goals as goal

pub returns : goal.returns
returns c = agreement_holds
