use Rattle.matching.proofs.Placing.{matches_span}
use Rattle.matching.proofs.Grouping.{groups_run}
use Rattle.matching.proofs.Marking.{marks_once}
use Rattle.matching.proofs.laws.places_stand.Goals as goal

pub returns : goal.returns
returns c = record { within = matches_span; groups = groups_run; once = marks_once }
