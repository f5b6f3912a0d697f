use Rattle.std.proofs.Common.{◌≡◌, ◌≤◌, map, length, drop}
use lib.Seq.{sets}
use Rattle.plain.specs.Rules.{listing}
use Rattle.kernel.specs.Answers.{part_of}
use Rattle.kernel.proofs.parts.put_parts.Given as goal

abbrev pub invariant-loop-k : goal.invariant-loop-k
invariant-loop-k l = (sets l.parts l.k (drop l.k (map part_of (listing l.found))) ≡ sets l.initial.parts 0 (map part_of (listing l.found))) × (length (listing l.found) ≤ length l.parts)
