use Rattle.std.proofs.Common.{◌≡◌, ℕ, ◌+◌, ◌≤◌, List, length}
use Rattle.plain.specs.Reading.{ahead}
use Rattle.plain.proofs.reader.Reader.+inside.Given as goal

abbrev pub decreases-inside : goal.decreases-inside
decreases-inside l = l.left

abbrev pub invariant-loop-self : goal.invariant-loop-self
invariant-loop-self l = record {
  shorter : length l.self.rest.now ≤ length l.initial.self.rest.now;
  reads : (ks : List ℕ) → length ks + l.left ≡ 16 → ahead ks l.initial.self ≡ ahead ks l.self;
}

abbrev pub decreases-loop-self : goal.decreases-loop-self
decreases-loop-self l = length l.self.rest.now
