-- What the plain engine holds.
use Rattle.std.specs.Prelude.{ℕ, List, None, Option, slice_index_or}
use Rattle.plain.specs.declared.text.Text.{Text}
use Rattle.plain.specs.Texts.{text_in}

abbrev pub held_in : List (Option Text) → ℕ → Option (List ℕ)
held_in ss k = text_in (slice_index_or ss k None)
