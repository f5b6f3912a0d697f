use Rattle.std.proofs.Common.{[], ◌∷◌, ◌++◌}
use Rattle.encode.specs.Shapes.{plain_code, codes_by}
use Rattle.templates.specs.Outputs.{outputs_of}
use Rattle.pen.proofs.Pages.{then, full}
use Rattle.encode.proofs.separators.framed_pieces.Goals as goal

pub returns-in_err-power : goal.returns-in_err-power
returns-in_err-power c = full (codes_by plain_code (outputs_of c.args.parts.now) ++ (0 ∷ [])) c.in_err-power.ensures c.from_residual.ensures.1

pub returns-in_err-plain_pieces : goal.returns-in_err-plain_pieces
returns-in_err-plain_pieces c = then c.in_ok-power.ensures (full (0 ∷ []) c.in_err-plain_pieces.ensures c.from_residual-in_err-plain_pieces.ensures.1)

pub returns : goal.returns
returns c = then c.in_ok-power.ensures (then c.in_ok-plain_pieces.ensures c.command.ensures)
