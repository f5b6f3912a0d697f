-- What is proved of codes.
use Rattle.std.specs.Prelude.{◌≡◌, ℕ, ◌*◌, ◌≤◌, true, List, ◌++◌, length, Some, None, ◌≢◌}
use Rattle.grammar.specs.Grammar.{Reads}
use Rattle.grammar.specs.Limits.{step_allowance}
use Rattle.grammar.specs.Readings.{Template}
use Rattle.codes.specs.Acceptable.{decode_by, decode, Coded, CodeOf, AcceptedAs, acceptable}
use Rattle.codes.specs.Code.{code}
use Rattle.codes.specs.Formed.{FormedTemplate}
use Rattle.codes.specs.Written.{write}

-- a code tells its reading, and where it ends: so equal codes have equal readings, and no code begins another
abbrev pub PrefixFree : Type 0
PrefixFree = (a b : Template) (x y : List ℕ) → FormedTemplate a → FormedTemplate b → code a ++ x ≡ code b ++ y → (a ≡ b) × (x ≡ y)

-- the reader of codes finds the reading exactly where there is one
abbrev pub Decodes : Type 0
Decodes = (n : ℕ) (c : List ℕ) (r : Template) → (decode_by n c ≡ Some r → Coded n c r) × (Coded n c r → decode_by n c ≡ Some r)

-- bytes are decoded exactly where they are an accepted template's code
abbrev pub DecodesAccepted : Type 0
DecodesAccepted = (c : List ℕ) (r : Template) → (decode c ≡ Some r → CodeOf c r) × (CodeOf c r → decode c ≡ Some r)

-- what grammar and limits accept has numbers in their bounds, texts apart, and no `)$` in separators
abbrev pub AcceptedFormed : Type 0
AcceptedFormed = (cs : List ℕ) (r : Template) → AcceptedAs cs r → FormedTemplate r × (acceptable step_allowance r ≡ true)

-- the template written back from a reading has that reading
abbrev pub ReadsBack : Type 0
ReadsBack = (r : Template) → FormedTemplate r → acceptable step_allowance r ≡ true → Reads (write r) r

-- and is at most four times as long as the code
abbrev pub Bounded : Type 0
Bounded = (r : Template) → FormedTemplate r → length (write r) ≤ 4 * length (code r)

-- a code written back is an accepted template with that same reading, and so that same code
abbrev pub RoundTrip : Type 0
RoundTrip = (c : List ℕ) (r : Template) → decode c ≡ Some r → AcceptedAs (write r) r × (code r ≡ c)

-- for two accepted templates, equal codes are equal readings
abbrev pub SameCode : Type 0
SameCode = (s t : List ℕ) (a b : Template) → AcceptedAs s a → AcceptedAs t b → (code a ≡ code b → a ≡ b) × (a ≡ b → code a ≡ code b)

-- of two accepted templates' codes neither begins the other, unless they are equal
abbrev pub NoCodeBegins : Type 0
NoCodeBegins = (s t : List ℕ) (a b : Template) (x : List ℕ) → AcceptedAs s a → AcceptedAs t b → code a ++ x ≡ code b → a ≡ b

-- a reader that allows fewer steps never shows a shorter path for a longer one: it answers the same reading or none
abbrev pub FewerSteps : Type 0
FewerSteps = (n m : ℕ) (c : List ℕ) (r : Template) → decode_by m c ≡ Some r → (acceptable n r ≡ true → decode_by n c ≡ Some r) × ((acceptable n r ≢ true) → decode_by n c ≡ None)
