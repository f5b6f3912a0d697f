use Rattle.controls.specs.Halves.{bytes_left}
use Rattle.grammar.specs.Marks.{halve}
use Rattle.encode.specs.Shapes.{letters}
use Rattle.pen.proofs.Pages.{Goes}
use Rattle.encode.proofs.texts.text.Given as goal

abbrev pub invariant-loop-b : goal.invariant-loop-b
invariant-loop-b l = (goal.iterator-loop-b).can_next l.b-iterator × (goal.iterator-loop-b).is_finite l.b-iterator × Goes l.fn.pen (letters (halve 36 l.fn.typed)) l.pen (letters (bytes_left l.b-iterator))
