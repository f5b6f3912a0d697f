use Rattle.std.proofs.Common.{map}
use Rattle.controls.specs.Steps.{steps_left}
use Rattle.grammar.specs.Numbers.{bits}
use Rattle.grammar.specs.declared.defns.ChildIndex.{ChildIndex}
use Rattle.grammar.specs.Paths.{steps_of}
use Rattle.encode.specs.Shapes.{paces}
use Rattle.pen.proofs.Pages.{Goes}
use Rattle.encode.proofs.steps.steps.Given as goal

abbrev pub invariant-loop-index : goal.invariant-loop-index
invariant-loop-index l = (goal.iterator-loop-index).can_next l.index-iterator × (goal.iterator-loop-index).is_finite l.index-iterator × Goes l.fn.pen (paces (steps_of l.fn.path)) l.pen (paces (map (λ (x : ChildIndex). bits x.0) (steps_left l.index-iterator)))
