use Rattle.codes.proofs.ClearRuns.{clear_forward}
use Rattle.codes.proofs.Forward.{grouped_forward, stepped_forward, within_forward}
use Rattle.codes.proofs.theorems.runs_forward.Goals as goal

pub returns : goal.returns
returns c = record { grouped = (grouped_forward, grouped_forward); stepped = stepped_forward; within = within_forward; clear = clear_forward }
