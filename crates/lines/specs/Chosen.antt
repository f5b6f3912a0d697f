-- What is chosen to show a term by.
use Rattle.std.specs.Prelude.{◌≡◌, ℕ, List, [], ◌∷◌, length, Some, None, Option}
use Rattle.codes.specs.Code.{code}
use Rattle.codes.specs.Formed.{FormedTemplate}
use Rattle.engine.specs.Rules.{Inside, span_at}
use Rattle.engine.specs.declared.span.Span.{Span}
use Rattle.grammar.specs.Readings.{Template}
use Rattle.lines.specs.declared.chooser.Choice.{Choice}

-- the reading of a template, and the spans of the match of the term's name
pub record Chosen : Type 0 where
  pub reading : Template
  pub spans : List (Option Span)

-- for a name and a child count
abbrev pub Choosing : Type 0
Choosing = List ℕ → ℕ → Chosen

-- a choice for every name and child count: each reading has numbers in their bounds, each span lies in the name
pub record Choices : Type 0 where
  pub chosen : Choosing
  pub formed : (name : List ℕ) (count : ℕ) → FormedTemplate (chosen name count).reading
  pub inside : (name : List ℕ) (count k : ℕ) (s : Span) → span_at (chosen name count).spans k ≡ Some s → Inside s (length name)

-- the name itself, as span 0
abbrev pub whole : ℕ → List (Option Span)
whole n = Some (record { from = 0; to = n }) ∷ []

-- the spans of a match; where no pattern was matched, the name itself
abbrev pub spans_by : {M : Type 0} → (M → List (Option Span)) → ℕ → Option M → List (Option Span)
spans_by f n None = whole n
spans_by f n (Some m) = f m

-- what a chooser answers: the code of the reading, and the spans
pub record Answered : Type 0 where
  pub bytes : List ℕ
  pub spans : List (Option Span)

abbrev pub answered : Chosen → Answered
answered c = record { bytes = code c.reading; spans = c.spans }

-- an answer for a name of n bytes, f giving the spans of a match
abbrev pub seen : {M : Type 0} → (M → List (Option Span)) → ℕ → Choice M → Answered
seen f n c = record { bytes = c.code.now; spans = spans_by f n c.found }
