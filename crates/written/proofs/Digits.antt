-- The last digit of a number behind its tens.
use Rattle.std.proofs.Common.{◌≡◌, ℕ, ◌+◌, ◌/◌, ◌%◌, ◌^◌, ◌<◌, ◌≤◌, [], ◌∷◌, decimal, sym, ap, subst, ◌∙◌, arith}
use Rattle.std.proofs.lemmas.Fmt.{decimal_digit, decimal_step}
use Rattle.written.proofs.Inks.{then}
use Rattle.written.specs.Pens.{Writes}
use Rattle.written.specs.declared.pen.Pen.{Pen}

pub digit_behind : (n : ℕ) {a b c : Pen} → 10 ≤ n → n < 2 ^ 32 → Writes (decimal (n / 10)) a b → Writes ((48 + n % 10) ∷ []) b c → Writes (decimal n) a c
digit_behind n {a} {b} {c} h k e f = subst (λ w. Writes w a c) (sym (decimal_step n h (omega arith))) (then e f)

pub one-digit : (n : ℕ) {a c : Pen} → n < 10 → Writes ((48 + n % 10) ∷ []) a c → Writes (decimal n) a c
one-digit n {a} {c} h f =
    let k : n % 10 ≡ n = omega arith in
    subst (λ w. Writes w a c) (ap (λ m. (48 + m) ∷ []) k ∙ sym (decimal_digit n h)) f
