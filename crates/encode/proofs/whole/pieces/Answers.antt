use Rattle.std.proofs.Common.{ap, ◌∙◌}
use Rattle.encode.proofs.Routes.{route_begun, route_good, route_more, route_stops, route_ends}
use Rattle.templates.specs.Outputs.{outputs_left}
use Rattle.encode.proofs.whole.pieces.Goals as goal

pub loop-typed-init : goal.loop-typed-init
loop-typed-init c =
    let e = ap outputs_left c.into_iter-typed-iterator.ensures.into_iter_gives ∙ c.outputs-typed-items.ensures in
    (tt, tt, route_begun c.args.pen.now e c.requires)

pub piece-requires : goal.piece-requires
piece-requires c = route_good c.loop-typed.invariant.2 c.in-Some.ensures.steps

pub returns-in_err-piece : goal.returns-in_err-piece
returns-in_err-piece c = route_stops c.loop-typed.invariant.2 c.in-Some.ensures.steps c.in_err-piece.ensures c.from_residual.ensures.1

pub loop-typed-preserved : goal.loop-typed-preserved
loop-typed-preserved c = (tt, tt, route_more c.loop-typed.invariant.2 c.in-Some.ensures.steps c.in_ok-piece.ensures)

pub returns : goal.returns
returns c = route_ends c.loop-typed.invariant.2 c.in-None.ensures.steps.0
