-- What a book keeps: matchers with the codes of their templates, and the fallback's code; and what an engine holds for it.
use Rattle.std.specs.Prelude.{◌≡◌, ℕ, zero, suc, true, List, [], ◌∷◌, ◌++◌, map, Some, Ok, Result, ◌≢◌}
use Rattle.std.specs.List.{AllByRecursion}
use Rattle.codes.specs.Acceptable.{decode}
use Rattle.codes.specs.Written.{write}
use Rattle.engine.specs.Holdings.{Held, tally}
use Rattle.engine.specs.Rules.{Rule}
use Rattle.grammar.specs.Matchers.{Matched}
use Rattle.grammar.specs.Readings.{Template}
use Rattle.grammar.specs.Results.{on_ok}
use Rattle.lines.specs.Chosen.{Choosing}
use Rattle.register.specs.declared.error.BookError.{BookError}
use Rattle.register.specs.Register.{Defined, Register, bare, code_of, patterns, without, named}
use Rattle.register.specs.Standing.{Standing, choosing, or_else}

-- a matcher with the code of its template
pub record Stored : Type 0 where
  pub matcher : Matched
  pub code : List ℕ

pub record Contents : Type 0 where
  pub definitions : List Stored
  pub fallback : List ℕ

-- the contents that a register gives
abbrev pub stored : Defined → Stored
stored x = record { matcher = x.matcher; code = code_of x.template }

abbrev pub contents_of : Register → Contents
contents_of g = record { definitions = map stored g.definitions; fallback = code_of g.fallback }

abbrev pub stored_matchers : Contents → List Matched
stored_matchers c = map (λ x. x.matcher) c.definitions

-- the reading of a code; every code in a book has one
abbrev pub decoded : List ℕ → Template
decoded c = or_else (decode c) bare

abbrev pub standing_in : Stored → Standing
standing_in x = record { matcher = x.matcher; reading = decoded x.code }

-- what contents choose to show a term by
abbrev pub chosen_in : Rule → Contents → Choosing
chosen_in rule c = choosing rule (map standing_in c.definitions) (decoded c.fallback)

-- a matcher with the number by which the engine holds it, if it is a pattern
abbrev pub Ticketed : Type 0
Ticketed = Matched × ℕ

abbrev pub HeldBy : Held → Ticketed → Type 0
HeldBy held x = x.0.pattern ≡ true → held x.1 ≡ Some x.0.bytes

abbrev pub Differ : Ticketed → Ticketed → Type 0
Differ x y = x.0.pattern ≡ true → y.0.pattern ≡ true → x.1 ≢ y.1

abbrev pub Apart : List Ticketed → Type 0
Apart [] = Unit {0}
Apart (x ∷ xs) = AllByRecursion (Differ x) xs × Apart xs

-- the engine holds exactly one prepared pattern for each pattern: each number holds its text, no two are the same, and no other number holds one
pub record OneEach (held : Held) (size : ℕ) (xs : List Ticketed) : Type 0 where
  pub each : AllByRecursion (HeldBy held) xs
  pub apart : Apart xs
  pub all : tally size held ≡ patterns (map (λ x. x.0) xs)

-- contents with one definition more, one less, and with another fallback
abbrev pub added_to : Contents → Stored → Contents
added_to c x = record { definitions = c.definitions ++ x ∷ []; fallback = c.fallback }

abbrev pub removed_from : Contents → ℕ → Contents
removed_from c i = record { definitions = without i c.definitions; fallback = c.fallback }

abbrev pub replaced_in : Contents → List ℕ → Contents
replaced_in c f = record { definitions = c.definitions; fallback = f }

-- the code of the definition at a place
abbrev pub code_at : ℕ → List Stored → List ℕ
code_at n [] = []
code_at zero (x ∷ xs) = x.code
code_at (suc n) (x ∷ xs) = code_at n xs

-- the template that a read-back writes, from the code that is stored
abbrev pub read_back_in : Contents → List ℕ → Result (List ℕ) BookError
read_back_in c m = on_ok (named (stored_matchers c) m) (λ i. Ok (write (decoded (code_at i c.definitions))))
