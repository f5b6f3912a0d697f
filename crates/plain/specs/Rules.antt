-- The rule of the plain engine: patterns of at most 96 bytes, names of at most 255.
use Rattle.std.specs.Prelude.{ℕ, cond, ◌&&◌, List, map, length, take, Some, None, Option, nat_le}
use Rattle.engine.specs.declared.span.Span.{Span}
use Rattle.engine.specs.Rules.{Rule}
use Rattle.matching.specs.Reader.{items_of}
use Rattle.matching.specs.Places.{Places, count_in, match_by}
use Rattle.plain.specs.declared.found.PlainMatch.{PlainMatch}

abbrev pub as_span : Option (ℕ × ℕ) → Option Span
as_span None = None
as_span (Some p) = Some (record { from = p.0; to = p.1 })

abbrev pub as_spans : Option Places → Option (List (Option Span))
as_spans None = None
as_spans (Some l) = Some (map as_span l)

abbrev pub plain_count : List ℕ → Option ℕ
plain_count text = cond (nat_le (length text) 96) (count_in (items_of text)) None

abbrev pub plain_spans : List ℕ → List ℕ → Option (List (Option Span))
plain_spans text name = cond (nat_le (length text) 96 && nat_le (length name) 255) (as_spans (match_by (items_of text) name)) None

abbrev pub plain_rule : Rule
plain_rule = record { count = plain_count; spans = plain_spans }

-- the spans that a match has
abbrev pub listing : PlainMatch → List (Option Span)
listing m = map as_span (take m.count m.places)
