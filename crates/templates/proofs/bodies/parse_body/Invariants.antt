use Rattle.std.proofs.Common.{◌≡◌, ◌-◌, ◌≤◌, length, drop}
use Rattle.grammar.specs.Limits.{piece_allowance}
use Rattle.templates.proofs.Turns.{rest, whole}
use Rattle.templates.proofs.bodies.parse_body.Given as goal

abbrev pub invariant-loop-control : goal.invariant-loop-control
invariant-loop-control l = (l.at ≤ length l.text) × (l.outputs ≤ piece_allowance) × (rest l.outputs l.most l.at (drop l.at l.text) ≡ whole l.from (drop l.from l.text))

abbrev pub decreases-loop-control : goal.decreases-loop-control
decreases-loop-control l = length l.text - l.at
