-- What each call answers and leaves in its buffer, by the register as it stands before the call.
use Rattle.std.specs.Prelude.{ℕ, zero, suc, List, [], ◌∷◌, Ok, Err, Result}
use Rattle.codes.specs.Code.{code}
use Rattle.codes.specs.Written.{write}
use Rattle.codes.specs.declared.error.CodeError.TheVariants.{BufferTooShort}
use Rattle.engine.specs.Rules.{Rule}
use Rattle.grammar.specs.Matchers.{Matched}
use Rattle.grammar.specs.Readings.{Template}
use Rattle.grammar.specs.Results.{on_ok}
use Rattle.lines.specs.declared.answer.Printed.{Printed as PrintedTerm}
use Rattle.lines.specs.declared.answer.Unfinished.{Unfinished as UnfinishedTerm}
use Rattle.register.specs.declared.answer.Answer.{Answer}
use Rattle.register.specs.declared.answer.Answer.TheVariants.{Done, Wrote, Printed, Refused, Unfinished}
use Rattle.register.specs.declared.error.BookError.{BookError}
use Rattle.register.specs.declared.error.BookError.TheVariants.{Code}
use Rattle.register.specs.Register.{Defined, Register, matchers, patterns, reading_of, admitted, named, chosen}

-- the template of the definition at a place
abbrev pub template_at : ℕ → List Defined → List ℕ
template_at n [] = []
template_at zero (x ∷ xs) = x.template
template_at (suc n) (x ∷ xs) = template_at n xs

module _ (rule : Rule) (size : ℕ) where
  -- a definition is admitted to the register: 33 where as many patterns are listed as the engine can hold
  abbrev pub admits : Register → List ℕ → List ℕ → Result (Matched × Template) BookError
  admits g m t = admitted rule (patterns (matchers g.definitions)) size (matchers g.definitions) m t

-- the definition of the register that a matcher names
abbrev pub names : Register → List ℕ → Result ℕ BookError
names g m = named (matchers g.definitions) m

-- the code that a look-up writes
abbrev pub looked_up : Rule → Register → List ℕ → ℕ → Result (List ℕ) BookError
looked_up rule g name n = Ok (code (chosen rule g name n).reading)

-- the template that a read-back writes
abbrev pub read_back : Register → List ℕ → Result (List ℕ) BookError
read_back g m = on_ok (names g m) (λ i. Ok (write (reading_of (template_at i g.definitions))))

abbrev pub too_short : BookError
too_short = Code BufferTooShort

-- the answer of a call that writes bytes
abbrev pub wrote : Result ℕ BookError → Answer
wrote (Ok n) = Wrote n
wrote (Err e) = Refused e

-- the answer of a call that changes the register
abbrev pub done : {A : Type 0} → Result A BookError → Answer
done (Ok x) = Done
done (Err e) = Refused e

abbrev pub printed : Result PrintedTerm UnfinishedTerm → Answer
printed (Ok p) = Printed p
printed (Err u) = Unfinished u

abbrev pub on_accepted : {A E B : Type 0} → Result A E → B → (A → B) → B
on_accepted (Ok x) y f = f x
on_accepted (Err e) y f = y
