-- What a number of a template is, by the bytes that are left to read.
use Rattle.std.specs.Prelude.{ℕ, suc, ◌+◌, ◌-◌, ◌*◌, Bool, cond, ◌&&◌, List, [], ◌∷◌, length, ℤ, pos, negsuc, neg_ℤ, Ok, Err, decimal, Result, ◌==◌, nat_le}
use Rattle.refusal.specs.declared.error.FormatterError.TheVariants.{InvalidNumber, NumberOutOfRange}
use Rattle.grammar.specs.Results.{on_ok, refusal, Fault}

abbrev pub is_digit : ℕ → Bool
is_digit c = nat_le 48 c && nat_le c 57

-- n is the number that the digits so far write, `at` the place of the next byte, and the whole text has `whole` bytes from `place` on
abbrev pub digits_from : ℕ → ℕ → ℕ → ℕ → ℕ → List ℕ → Result ℕ Fault
digits_from limit place whole n at [] = Ok n
digits_from limit place whole n at (c ∷ cs) =
    cond (is_digit c)
    (cond (nat_le (n * 10 + (c - 48)) limit) (digits_from limit place whole (n * 10 + (c - 48)) (at + 1) cs) (refusal NumberOutOfRange place whole))
    (refusal InvalidNumber at (suc (length cs)))

abbrev pub signed_by : (ℕ → ℤ) → Result ℕ Fault → Result ℤ Fault
signed_by f (Ok n) = Ok (f n)
signed_by f (Err e) = Err e

-- the number that a text writes
abbrev pub number_at : ℕ → List ℕ → Result ℤ Fault
number_at place [] = refusal InvalidNumber place 0
number_at place (c ∷ []) =
    cond (c == 48) (Ok (pos 0)) (cond (c == 45) (refusal InvalidNumber place 1) (signed_by pos (digits_from 2147483647 place 1 0 place (c ∷ []))))
number_at place (c ∷ d ∷ cs) =
    cond (c == 48) (refusal InvalidNumber place (length (c ∷ d ∷ cs)))
    (cond (c == 45)
    (cond (d == 48)
    (refusal InvalidNumber (place + 1) (length (d ∷ cs)))
    (signed_by (λ n. neg_ℤ (pos n)) (digits_from 2147483648 place (length (c ∷ d ∷ cs)) 0 (place + 1) (d ∷ cs))))
    (signed_by pos (digits_from 2147483647 place (length (c ∷ d ∷ cs)) 0 place (c ∷ d ∷ cs))))

-- a number of 32 bits, by its two's complement
abbrev pub bits : ℤ → ℕ
bits (pos n) = n
bits (negsuc n) = 4294967295 - n

-- the number that 32 bits mean in two's complement
abbrev pub int : ℕ → ℤ
int n = cond (nat_le n 2147483647) (pos n) (negsuc (4294967295 - n))

-- what is written of a number of 32 bits that is meant in two's complement
abbrev pub numeral : ℕ → List ℕ
numeral n = cond (nat_le n 2147483647) (decimal n) (45 ∷ decimal (4294967296 - n))

-- the power that a number stands for: a negative one counts from 4294967296 down
abbrev pub power : ℤ → ℕ
power z = bits z

abbrev pub power_at : ℕ → List ℕ → Result ℕ Fault
power_at place cs = on_ok (number_at place cs) (λ z. Ok (power z))
