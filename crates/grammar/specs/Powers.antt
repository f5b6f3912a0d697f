-- What pairs of powers are, and the powers of a repeat.
use Rattle.std.specs.Prelude.{ℕ, ◌+◌, ◌-◌, Bool, true, false, cond, List, length, take, drop, Ok, Result, ◌==◌}
use Rattle.refusal.specs.declared.error.FormatterError.TheVariants.{TooManyControl, UnexpectedPair}
use Rattle.refusal.specs.declared.error.PartingMark.TheVariants.{Comma, Bar}
use Rattle.grammar.specs.declared.defns.BindPowerPair.{BindPowerPair}
use Rattle.grammar.specs.Marks.{up_to}
use Rattle.grammar.specs.Numbers.{power_at}
use Rattle.grammar.specs.Results.{on_ok, refusal, Fault}

abbrev pub asymmetric : ℕ → ℕ → BindPowerPair
asymmetric l r = record { left = l; right = r }

abbrev pub symmetric : ℕ → BindPowerPair
symmetric n = asymmetric n n

-- behind the first comma
abbrev pub second_power : ℕ → ℕ → List ℕ → Result (Bool × BindPowerPair) Fault
second_power l place cs =
    on_ok (power_at place (take (up_to 44 cs) cs)) (λ r.
    cond (up_to 44 cs == length cs) (Ok (true, asymmetric l r)) (refusal (TooManyControl Comma) (place + (up_to 44 cs + 1)) (length cs - (up_to 44 cs + 1))))

-- `n` or `n,m`: whether two numbers stand there, and the pair
abbrev pub pair_at : ℕ → List ℕ → Result (Bool × BindPowerPair) Fault
pair_at place cs =
    cond (up_to 44 cs == length cs)
    (on_ok (power_at place cs) (λ n. Ok (false, symmetric n)))
    (on_ok (power_at place (take (up_to 44 cs) cs)) (λ l. second_power l (place + (up_to 44 cs + 1)) (drop (up_to 44 cs + 1) cs)))

-- the last field of a repeat's powers, which must be single
abbrev pub last_field : ℕ → List ℕ → Result ℕ Fault
last_field place cs =
    cond (up_to 124 cs == length cs)
    (on_ok (pair_at place cs) (λ p. cond p.0 (refusal UnexpectedPair place (length cs)) (Ok p.1.left)))
    (refusal (TooManyControl Bar) (place + (up_to 124 cs + 1)) (length cs - (up_to 124 cs + 1)))

-- left, middle pair, right
abbrev pub Triple : Type 0
Triple = ℕ × BindPowerPair × ℕ

-- the powers where the first field is the single number a and a bar stands behind it
abbrev pub behind_single : ℕ → ℕ → List ℕ → Result Triple Fault
behind_single a place cs =
    on_ok (pair_at place (take (up_to 124 cs) cs)) (λ p.
    cond (up_to 124 cs == length cs)
    (cond p.0 (Ok (a, p.1, 0)) (Ok (a, symmetric 0, p.1.left)))
    (on_ok (last_field (place + (up_to 124 cs + 1)) (drop (up_to 124 cs + 1) cs)) (λ d. Ok (a, p.1, d))))

-- the powers of a repeat, behind their first bar
abbrev pub powers_at : ℕ → List ℕ → Result Triple Fault
powers_at place cs =
    on_ok (pair_at place (take (up_to 124 cs) cs)) (λ p.
    cond (up_to 124 cs == length cs)
    (cond p.0 (Ok (0, p.1, 0)) (Ok (p.1.left, p.1, p.1.left)))
    (cond p.0
    (on_ok (last_field (place + (up_to 124 cs + 1)) (drop (up_to 124 cs + 1) cs)) (λ c. Ok (0, p.1, c)))
    (behind_single p.1.left (place + (up_to 124 cs + 1)) (drop (up_to 124 cs + 1) cs))))
