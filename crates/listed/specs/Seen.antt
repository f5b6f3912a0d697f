-- What the answer list holds, with its rows as facts.
use Rattle.std.specs.Prelude.{ℕ, List, map, Some, None, Option, slice_index_or}
use Rattle.std.proofs.Common.{Bor}
use Rattle.engine.specs.declared.span.Span.{Span}
use Rattle.listed.specs.declared.rows.AnswerRow.{AnswerRow}
use Rattle.listed.specs.declared.rows.AnswerList.{AnswerList}
use Rattle.listed.specs.declared.answers.AnswerMatch.{AnswerMatch}
use Rattle.listed.specs.Facts.{Fact}

abbrev pub fact : AnswerRow → Fact
fact r = record { text = r.text.now; count = r.count; name = r.name.now; spans = r.spans.now }

abbrev pub facts_of : AnswerList → List Fact
facts_of a = map fact a.rows.now

-- the text that a place holds
abbrev pub slot_text : Option (Bor (List ℕ)) → Option (List ℕ)
slot_text None = None
slot_text (Some t) = Some t.now

abbrev pub held_in : List (Option (Bor (List ℕ))) → ℕ → Option (List ℕ)
held_in slots k = slot_text (slice_index_or slots k None)

abbrev pub held_at : AnswerList → ℕ → Option (List ℕ)
held_at a k = held_in a.slots k

abbrev pub listing : AnswerMatch → List (Option Span)
listing m = m.spans.now
