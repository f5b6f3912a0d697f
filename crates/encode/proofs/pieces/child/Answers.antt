use Rattle.pen.proofs.Pages.{then, full}
use Rattle.encode.specs.Shapes.{point_code}
use Rattle.encode.proofs.pieces.child.Goals as goal

pub returns-in_err-steps : goal.returns-in_err-steps
returns-in_err-steps c = full (point_code c.args.index c.args.powers) c.in_err-steps.ensures c.from_residual.ensures.1

pub returns : goal.returns
returns c = rw (← c.bits.ensures) (then c.in_ok-steps.ensures c.command.ensures)
