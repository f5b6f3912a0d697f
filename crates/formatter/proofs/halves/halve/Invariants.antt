use Rattle.std.proofs.Common.{◌≡◌, ◌+◌, ◌++◌, length, take, drop}
use Rattle.grammar.specs.Marks as marks
use Rattle.controls.specs.Halves.{bytes_left}
use Rattle.formatter.proofs.halves.halve.Given as goal

abbrev pub invariant-loop-b : goal.invariant-loop-b
invariant-loop-b l =
    goal.iterator-loop-b.can_next l.b-iterator
    × goal.iterator-loop-b.is_finite l.b-iterator
    × (l.size + length (bytes_left l.b-iterator) ≡ length (marks.halve l.mark l.text))
    × (take l.size l.out ++ bytes_left l.b-iterator ≡ marks.halve l.mark l.text)
    × (drop l.size l.out ≡ drop l.size l.initial.out)
