use Rattle.encode.specs.Shapes.{shape_code, codes_by}
use Rattle.encode.specs.Walks.{Whole}
use Rattle.encode.proofs.Routes.{Route}
use Rattle.templates.specs.Outputs.{outputs_left, outputs_of}
use Rattle.encode.proofs.whole.pieces.Given as goal

abbrev pub invariant-loop-typed : goal.invariant-loop-typed
invariant-loop-typed l = (goal.iterator-loop-typed).can_next l.typed-iterator × (goal.iterator-loop-typed).is_finite l.typed-iterator × Route Whole shape_code l.fn.pen (codes_by shape_code (outputs_of l.fn.parts)) l.pen (outputs_left l.typed-iterator)
