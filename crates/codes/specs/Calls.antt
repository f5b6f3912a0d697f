-- What the public calls on codes answer, and what they leave in the caller's buffer.
use Rattle.std.specs.Prelude.{ℕ, cond, List, ◌++◌, length, drop, Some, None, Ok, Err, Option, Result, nat_le}
use Rattle.grammar.specs.Deep.{deep_at}
use Rattle.grammar.specs.Readings.{Template}
use Rattle.grammar.specs.Results.{on_ok, on_err}
use Rattle.codes.specs.Acceptable.{code_limit, decode}
use Rattle.codes.specs.Code.{code}
use Rattle.codes.specs.Faults.{of_formatter}
use Rattle.codes.specs.Written.{write}
use Rattle.codes.specs.declared.error.CodeError.{CodeError}
use Rattle.codes.specs.declared.error.CodeError.TheVariants.{CodeTooLong, NoCode}
use Rattle.codes.specs.declared.error.EncodeError.{EncodeError}
use Rattle.codes.specs.declared.error.EncodeError.TheVariants.{Code}

-- how many bytes are answered of what is to be written into a buffer: a buffer that is too short is refused last
abbrev pub filled : {E : Type 0} → E → Result (List ℕ) E → List ℕ → Result ℕ E
filled short (Ok bs) buffer = cond (nat_le (length bs) (length buffer)) (Ok (length bs)) (Err short)
filled short (Err e) buffer = Err e

-- the buffer then: the bytes from its start and the rest as it was, or all as it was
abbrev pub after : {E : Type 0} → Result (List ℕ) E → List ℕ → List ℕ
after (Ok bs) buffer = cond (nat_le (length bs) (length buffer)) (bs ++ drop (length bs) buffer) buffer
after (Err e) buffer = buffer

abbrev pub short_code : Template → Result (List ℕ) EncodeError
short_code r = cond (nat_le (length (code r)) code_limit) (Ok (code r)) (Err (Code CodeTooLong))

-- the code of a template
abbrev pub encoded : List ℕ → Result (List ℕ) EncodeError
encoded cs = on_ok (on_err of_formatter (deep_at cs)) short_code

abbrev pub some_or : {A E : Type 0} → E → Option A → Result A E
some_or e None = Err e
some_or e (Some x) = Ok x

-- the reading of a code
abbrev pub decoded : List ℕ → Result Template CodeError
decoded c = some_or NoCode (decode c)

-- the template written back from a code
abbrev pub written_back : List ℕ → Result (List ℕ) CodeError
written_back c = on_ok (decoded c) (λ r. Ok (write r))
