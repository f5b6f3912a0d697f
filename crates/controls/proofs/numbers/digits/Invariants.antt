use Rattle.std.proofs.Common.{◌≡◌, ◌≤◌, length}
use Rattle.grammar.specs.Numbers.{digits_from}
use Rattle.controls.proofs.numbers.digits.Given as goal

abbrev pub invariant-loop-rest : goal.invariant-loop-rest
invariant-loop-rest l =
    (l.value ≤ l.limit)
    × (digits_from l.limit l.whole.place (length l.whole.text.now) l.value l.rest.place l.rest.text.now
    ≡ digits_from l.limit l.whole.place (length l.whole.text.now) 0 l.digits.place l.digits.text.now)

abbrev pub decreases-loop-rest : goal.decreases-loop-rest
decreases-loop-rest l = length l.rest.text.now
