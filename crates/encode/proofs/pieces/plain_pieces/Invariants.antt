use Rattle.encode.specs.Shapes.{plain_code, codes_by}
use Rattle.encode.specs.Walks.{Pathed}
use Rattle.encode.proofs.Routes.{Route}
use Rattle.templates.specs.Outputs.{outputs_left, outputs_of}
use Rattle.encode.proofs.pieces.plain_pieces.Given as goal

abbrev pub invariant-loop-piece : goal.invariant-loop-piece
invariant-loop-piece l = (goal.iterator-loop-piece).can_next l.piece-iterator × (goal.iterator-loop-piece).is_finite l.piece-iterator × Route Pathed plain_code l.fn.pen (codes_by plain_code (outputs_of l.fn.parts)) l.pen (outputs_left l.piece-iterator)
