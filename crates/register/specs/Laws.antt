-- What is proved over whole runs: of the registers that strings of calls make, and of what the books show.
use Rattle.std.specs.Prelude.{◌≡◌, ℕ, ◌<◌, List, [], ◌++◌, length, Ok}
use Rattle.std.specs.List.{AllByRecursion}
use Rattle.codes.specs.Acceptable.{AcceptedAs}
use Rattle.codes.specs.Calls.{written_back}
use Rattle.engine.specs.Rules.{Rule}
use Rattle.grammar.specs.Readings.{Template}
use Rattle.lines.specs.Cut.{printing}
use Rattle.terms.specs.Source.{Source, Same}
use Rattle.register.specs.declared.answer.Answer.{Answer}
use Rattle.register.specs.declared.call.Call.{Call}
use Rattle.register.specs.Calls.{template_at}
use Rattle.register.specs.Contents.{contents_of}
use Rattle.register.specs.Register.{Register, opening, reading_of, code_of, chosen}
use Rattle.register.specs.Runs.{Run, Typed, register_after, answers_of, area_after}

-- a string of calls has one outcome, the computed one
pub record OneOutcome : Type 0 where
  pub there : (rule : Rule) (size : ℕ) (m : Source) (g : Register) (cs : List Call) (area : List ℕ)
      → Run rule size m g cs area (answers_of rule size m g cs area) (area_after rule size m g cs area) (register_after rule size m g cs)
  pub only : (rule : Rule) (size : ℕ) (m : Source) (g h : Register) (cs : List Call) (area after : List ℕ) (xs : List Answer)
      → Run rule size m g cs area xs after h → (xs ≡ answers_of rule size m g cs area) × (after ≡ area_after rule size m g cs area) × (h ≡ register_after rule size m g cs)

-- a register that some string of calls makes, over some engine and some source
pub record Reached (g : Register) : Type 0 where
  pub rule : Rule
  pub size : ℕ
  pub source : Source
  pub calls : List Call
  pub typed : AllByRecursion Typed calls
  pub area : List ℕ
  pub answers : List Answer
  pub after : List ℕ
  pub run : Run rule size source opening calls area answers after g

-- a template of a register: a definition's, or the fallback
pub data Has (g : Register) : List ℕ → Type 0 where
  defined : (i : ℕ) → i < length g.definitions → Has g (template_at i g.definitions)
  fallback : Has g g.fallback

-- two templates share a reading
abbrev pub Shared : List ℕ → List ℕ → Type 0
Shared s t = (r : Template) × AcceptedAs s r × AcceptedAs t r

-- of two templates, in one register or in two, the codes are equal exactly when they share a reading; and no template has two readings
pub record EqualCodes : Type 0 where
  pub shared : (g h : Register) (s t : List ℕ) → Reached g → Reached h → Has g s → Has h t → code_of s ≡ code_of t → Shared s t
  pub equal : (g h : Register) (s t : List ℕ) → Reached g → Reached h → Has g s → Has h t → Shared s t → code_of s ≡ code_of t
  pub one : (s : List ℕ) (r q : Template) → AcceptedAs s r → AcceptedAs s q → r ≡ q

-- no code begins another: what stands behind the one that begins is nothing
abbrev pub NoneBegins : Type 0
NoneBegins = (g h : Register) (s t x : List ℕ) → Reached g → Reached h → Has g s → Has h t → code_of s ++ x ≡ code_of t → x ≡ []

-- a stored code, written back, is a template that is accepted and has the same code
pub record Again (t : List ℕ) : Type 0 where
  pub written : List ℕ
  pub back : written_back (code_of t) ≡ Ok written
  pub accepted : AcceptedAs written (reading_of t)
  pub same : code_of written ≡ code_of t

abbrev pub WrittenAgain : Type 0
WrittenAgain = (g : Register) (t : List ℕ) → Reached g → Has g t → Again t

-- books alike in matchers, codes, order and fallback, over engines of one rule, print every term of equal sources alike into as much room
abbrev pub PrintAlike : Type 0
PrintAlike = (rule : Rule) (g h : Register) (m n : Source) → Reached g → Reached h → contents_of g ≡ contents_of h → Same m n → (t room : ℕ) → printing (chosen rule g) m t room ≡ printing (chosen rule h) n t room

-- all of it
pub record Promises : Type 0 where
  pub outcome : OneOutcome
  pub codes : EqualCodes
  pub apart : NoneBegins
  pub again : WrittenAgain
  pub alike : PrintAlike
