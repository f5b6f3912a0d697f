-- A text with its pairs of a mark halved.
use Rattle.std.specs.Prelude.{ℕ, List}
use Rattle.controls.specs.declared.halves.Halved.{Halved}
use Rattle.grammar.specs.Marks.{halve}

-- the bytes that are still to come
abbrev pub bytes_left : Halved → List ℕ
bytes_left h = halve h.mark h.text.now
