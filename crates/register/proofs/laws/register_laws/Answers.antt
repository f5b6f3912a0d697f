use Rattle.register.proofs.Promised.{promises}
use Rattle.register.proofs.laws.register_laws.Goals as goal

pub returns : goal.returns
returns c = promises
