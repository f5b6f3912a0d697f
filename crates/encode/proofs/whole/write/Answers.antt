use Rattle.std.proofs.Common.{[], ◌∷◌, ◌++◌}
use Rattle.encode.specs.Shapes.{shape_code, codes_by}
use Rattle.templates.specs.Outputs.{outputs_of}
use Rattle.pen.proofs.Pages.{then, full}
use Rattle.encode.proofs.whole.write.Goals as goal

pub returns-in_err-power : goal.returns-in_err-power
returns-in_err-power c = full (codes_by shape_code (outputs_of c.args.parts.now) ++ (0 ∷ [])) c.in_err-power.ensures c.from_residual.ensures.1

pub returns-in_err-pieces : goal.returns-in_err-pieces
returns-in_err-pieces c = then c.in_ok-power.ensures (full (0 ∷ []) c.in_err-pieces.ensures c.from_residual-in_err-pieces.ensures.1)

pub returns : goal.returns
returns c = then c.in_ok-power.ensures (then c.in_ok-pieces.ensures c.command.ensures)
