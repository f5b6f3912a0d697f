-- Answers in sequence: what follows where the first is accepted.
use Rattle.std.specs.Prelude.{ℕ, Some, None, Ok, Err, Option, Result}
use Rattle.refusal.specs.declared.error.FormatterError.{FormatterError}
use Rattle.refusal.specs.declared.error.ParseError.{ParseError}

abbrev pub on_ok : {A B E : Type 0} → Result A E → (A → Result B E) → Result B E
on_ok (Ok x) f = f x
on_ok (Err e) f = Err e

abbrev pub on_err : {A E F : Type 0} → (E → F) → Result A E → Result A F
on_err f (Ok x) = Ok x
on_err f (Err e) = Err (f e)

abbrev pub on_some : {A B : Type 0} → Option A → B → (A → B) → B
on_some None y f = y
on_some (Some x) y f = f x

-- the part of n bytes from a place on, and what is wrong with it
abbrev pub located : {K : Type 0} → K → ℕ → ℕ → ParseError K
located k place n = record { place = place; length = n; kind = k }

abbrev pub refusal : {X K : Type 0} → K → ℕ → ℕ → Result X (ParseError K)
refusal k place n = Err (located k place n)

-- a fault of a template
abbrev pub Fault : Type 0
Fault = ParseError FormatterError
