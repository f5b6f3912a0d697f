use Rattle.std.proofs.Common.{◌≡◌, ◌+◌, ◌*◌, length, take}
use Rattle.grammar.specs.Matchers.{blanks}
use Rattle.matchers.proofs.parse.without_blanks.Given as goal

abbrev pub invariant-loop-rest : goal.invariant-loop-rest
invariant-loop-rest l = (2 * l.count + length l.rest ≡ length l.text) × (l.count + blanks l.rest ≡ blanks l.text) × (l.rest ≡ take (length l.rest) l.text)

abbrev pub decreases-loop-rest : goal.decreases-loop-rest
decreases-loop-rest l = length l.rest
