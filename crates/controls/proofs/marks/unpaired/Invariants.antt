use Rattle.std.proofs.Common.{◌≡◌, ◌+◌, ◌≤◌, length}
use Rattle.grammar.specs.Marks as marks
use Rattle.controls.proofs.marks.unpaired.Given as goal

abbrev pub invariant-loop-rest : goal.invariant-loop-rest
invariant-loop-rest l = (length l.rest ≤ length l.text) × (length l.text + marks.unpaired l.mark l.rest ≡ length l.rest + marks.unpaired l.mark l.text)

abbrev pub decreases-loop-rest : goal.decreases-loop-rest
decreases-loop-rest l = length l.rest
