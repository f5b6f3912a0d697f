use Rattle.std.proofs.Common.{ap, ◌∙◌}
use Rattle.encode.proofs.Routes.{route_begun, route_good, route_more, route_stops, route_ends}
use Rattle.templates.specs.Outputs.{outputs_left}
use Rattle.encode.proofs.pieces.plain_pieces.Goals as goal

pub loop-piece-init : goal.loop-piece-init
loop-piece-init c =
    let e = ap outputs_left c.into_iter-piece-iterator.ensures.into_iter_gives ∙ c.outputs-piece-items.ensures in
    (tt, tt, route_begun c.args.pen.now e c.requires)

pub plain_piece-requires : goal.plain_piece-requires
plain_piece-requires c = route_good c.loop-piece.invariant.2 c.in-Some.ensures.steps

pub returns-in_err-plain_piece : goal.returns-in_err-plain_piece
returns-in_err-plain_piece c = route_stops c.loop-piece.invariant.2 c.in-Some.ensures.steps c.in_err-plain_piece.ensures c.from_residual.ensures.1

pub loop-piece-preserved : goal.loop-piece-preserved
loop-piece-preserved c = (tt, tt, route_more c.loop-piece.invariant.2 c.in-Some.ensures.steps c.in_ok-plain_piece.ensures)

pub returns : goal.returns
returns c = route_ends c.loop-piece.invariant.2 c.in-None.ensures.steps.0
