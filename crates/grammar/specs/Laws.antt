-- What is proved of the readers: they accept what the grammar and the limits give a reading, and answer that reading.
use Rattle.std.specs.Prelude.{◌≡◌, ℕ, true, List, Ok}
use Rattle.grammar.specs.Deep.{reading_at, limited}
use Rattle.grammar.specs.Grammar.{Reads}
use Rattle.grammar.specs.Readings.{Template}

-- a template has a reading exactly where the reader answers it
abbrev pub ReadAsTheGrammar : Type 0
ReadAsTheGrammar = (cs : List ℕ) (r : Template) → (reading_at cs ≡ Ok r → Reads cs r × (limited r ≡ true)) × (Reads cs r × (limited r ≡ true) → reading_at cs ≡ Ok r)

-- no template has two readings
abbrev pub OneReading : Type 0
OneReading = (cs : List ℕ) (r q : Template) → Reads cs r → Reads cs q → limited r ≡ true → limited q ≡ true → r ≡ q
