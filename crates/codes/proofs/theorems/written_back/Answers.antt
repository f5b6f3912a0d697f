use Rattle.codes.proofs.Accepted.{accepted_formed}
use Rattle.codes.proofs.Bounds.{bounded}
use Rattle.codes.proofs.Closing.{reads-back}
use Rattle.codes.proofs.theorems.written_back.Goals as goal

pub returns : goal.returns
returns c = record { back = reads-back; bounded = bounded; formed = accepted_formed }
