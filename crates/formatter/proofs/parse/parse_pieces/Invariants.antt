use Rattle.std.proofs.Common.{◌≡◌, Ok}
use Rattle.std.specs.Iterator.Adapters.{enumerate_count, enumerate_source}
use Rattle.templates.specs.Outputs.{outputs_left, outputs_of}
use Rattle.formatter.specs.Views.{between_pieces}
use Rattle.formatter.proofs.Outputs.{AllShort}
use Rattle.formatter.proofs.Pieces.{between_from}
use Rattle.formatter.proofs.parse.parse_pieces.Given as goal

abbrev pub invariant-loop-number : goal.invariant-loop-number
invariant-loop-number l =
    goal.iterator-loop-number.can_next l.number-iterator
    × goal.iterator-loop-number.is_finite l.number-iterator
    × AllShort (outputs_left (enumerate_source l.number-iterator))
    × (between_from (enumerate_count l.number-iterator) l.greatest (outputs_left (enumerate_source l.number-iterator)) ≡ between_pieces l.parts.max_capture (Ok (outputs_of l.parts)))
