use Rattle.matching.specs.Cells.{takes_of}
use Rattle.matching.specs.Items.{as_seq}
use Rattle.matching.specs.Places.{placed}
use Rattle.matching.proofs.Following.{Left}
use Rattle.plain.proofs.search.Search.follow.Given as goal

abbrev pub invariant-loop-i : goal.invariant-loop-i
invariant-loop-i l = Left l.self.items.now l.self.name.now l.i l.at l.places (placed (takes_of l.self.items.now l.self.name.now) (as_seq l.self.items.now) 0 l.initial.places)
