use Rattle.codes.proofs.Templates.{prefix_free_lem}
use Rattle.codes.proofs.Trips.{decodes_accepted, round_trip, same_code, no_code-begins}
use Rattle.codes.proofs.Whole.{decodes}
use Rattle.codes.proofs.theorems.accepted_codes.Goals as goal

pub returns : goal.returns
returns c = record { decoded = decodes_accepted decodes; back = round_trip decodes; same = same_code prefix_free_lem; begins = no_code-begins prefix_free_lem }
