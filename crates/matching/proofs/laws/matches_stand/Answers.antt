use Rattle.matching.proofs.Greatest.{at_most_one, best_is_match}
use Rattle.matching.proofs.laws.matches_stand.Goals as goal

pub returns : goal.returns
returns c = record { one = at_most_one; best = best_is_match }
