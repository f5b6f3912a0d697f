-- The register: what the arguments of the calls on a book make of a list.
use Rattle.std.specs.Prelude.{ℕ, zero, suc, cond, List, [], ◌∷◌, ◌++◌, map, length, Some, None, Ok, Err, codes, Option, Result, ◌==◌, nat_le}
use Rattle.codes.specs.Calls.{some_or}
use Rattle.codes.specs.Code.{code}
use Rattle.codes.specs.declared.error.CodeError.TheVariants.{CodeTooLong}
use Rattle.displays.specs.Checks.{checked}
use Rattle.engine.specs.Rules.{Rule}
use Rattle.formatter.specs.declared.error.FallbackParseError.{FallbackParseError}
use Rattle.formatter.specs.declared.error.FallbackParseError.TheVariants.{MaxCaptureTooLarge, FormatterParseError}
use Rattle.grammar.specs.Deep.{deep_at, greatest}
use Rattle.grammar.specs.Matchers.{Matched, matcher_at}
use Rattle.codes.specs.Acceptable.{code_limit}
use Rattle.grammar.specs.Readings.{Template}
use Rattle.grammar.specs.Results.{on_ok, on_err}
use Rattle.lines.specs.Chosen.{Choosing}
use Rattle.register.specs.declared.error.BookError.{BookError}
use Rattle.register.specs.declared.error.BookError.TheVariants.{Definition, Matcher, Fallback, Code, AlreadyStands, BookFull, NoneStands}
use Rattle.register.specs.Standing.{Standing, same_matcher, choosing}

-- a definition: its matcher, and its template as it was typed
pub record Defined : Type 0 where
  pub matcher : Matched
  pub template : List ℕ

pub record Register : Type 0 where
  pub definitions : List Defined
  pub fallback : List ℕ

-- the definitions of a book
abbrev pub book_limit : ℕ
book_limit = 32

abbrev pub first_fallback : List ℕ
first_fallback = codes "$-1$${0}$$(#0..-1$(|, |))$$-1$"

-- no definition, and the first fallback
abbrev pub opening : Register
opening = record { definitions = []; fallback = first_fallback }

abbrev pub matchers : List Defined → List Matched
matchers xs = map (λ x. x.matcher) xs

-- how many are patterns
abbrev pub patterns : List Matched → ℕ
patterns [] = 0
patterns (x ∷ xs) = cond x.pattern (suc (patterns xs)) (patterns xs)

abbrev pub further : Option ℕ → Option ℕ
further None = None
further (Some n) = Some (suc n)

-- where the first equal matcher stands
abbrev pub place_of : Matched → List Matched → Option ℕ
place_of m [] = None
place_of m (x ∷ xs) = cond (same_matcher x m) (Some 0) (further (place_of m xs))

-- a list without the one at a place
abbrev pub without : {A : Type 0} → ℕ → List A → List A
without n [] = []
without zero (x ∷ xs) = xs
without (suc n) (x ∷ xs) = x ∷ without n xs

abbrev pub bare : Template
bare = record { left = 0; right = 0; pieces = [] }

abbrev pub ok_or : {A E : Type 0} → A → Result A E → A
ok_or x (Ok y) = y
ok_or x (Err e) = x

-- the reading of a template; every template in a register has one
abbrev pub reading_of : List ℕ → Template
reading_of t = ok_or bare (deep_at t)

abbrev pub code_of : List ℕ → List ℕ
code_of t = code (reading_of t)

abbrev pub short : Template → Result Template BookError
short r = cond (nat_le (length (code r)) code_limit) (Ok r) (Err (Code CodeTooLong))

-- what stands against a new matcher: an equal one, or as many as can be
abbrev pub entered : List Matched → Option ℕ → Matched × Template → Result (Matched × Template) BookError
entered ms (Some i) p = Err AlreadyStands
entered ms None p = cond (nat_le book_limit (length ms)) (Err BookFull) (Ok p)

-- a definition is admitted beside the matchers that stand, or refused; load: how many patterns are held
abbrev pub admitted : Rule → (load size : ℕ) → List Matched → List ℕ → List ℕ → Result (Matched × Template) BookError
admitted rule load size ms m t = on_ok (on_err Definition (checked rule load size m t)) (λ p. on_ok (short p.1) (λ r. entered ms (place_of p.0 ms) p))

-- the place of the definition that a matcher names
abbrev pub named : List Matched → List ℕ → Result ℕ BookError
named ms m = on_ok (on_err Matcher (matcher_at m)) (λ x. some_or NoneStands (place_of x ms))

-- capture 0 is the whole name; a fallback has no others
abbrev pub serves : Option ℕ → Template → Result Template FallbackParseError
serves None r = Ok r
serves (Some n) r = cond (n == 0) (Ok r) (Err (MaxCaptureTooLarge n))

-- a template is accepted as the fallback, or refused
abbrev pub served : List ℕ → Result Template BookError
served t = on_ok (on_err Fallback (on_ok (on_err FormatterParseError (deep_at t)) (λ r. serves (greatest r) r))) short

abbrev pub standing : Defined → Standing
standing x = record { matcher = x.matcher; reading = reading_of x.template }

-- what a register chooses to show a term by
abbrev pub chosen : Rule → Register → Choosing
chosen rule g = choosing rule (map standing g.definitions) (reading_of g.fallback)

-- the register with one definition more, one less, and with another fallback
abbrev pub added : Register → Defined → Register
added g x = record { definitions = g.definitions ++ x ∷ []; fallback = g.fallback }

abbrev pub removed : Register → ℕ → Register
removed g i = record { definitions = without i g.definitions; fallback = g.fallback }

abbrev pub replaced : Register → List ℕ → Register
replaced g t = record { definitions = g.definitions; fallback = t }
