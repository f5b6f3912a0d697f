-- A matcher with both brackets, and one with the second alone.
use Rattle.std.proofs.Common.{◌≡◌, ℕ, ◌-◌, ◌*◌, true, false, List, length, take, drop, Some, Ok, Err, Result, refl, arith}
use Rattle.refusal.specs.Refusals.{part_at}
use Rattle.refusal.specs.declared.error.MatcherError.{MatcherError}
use Rattle.refusal.specs.declared.error.MatcherError.TheVariants.{InvalidChildrenSpec}
use Rattle.refusal.specs.declared.error.ParseError.{ParseError}
use Rattle.grammar.specs.Marks.{begins, ends}
use Rattle.grammar.specs.Matchers.{Matched, blanks, kinded, matcher_read}

pub read_both : (cs : List ℕ) (n : ℕ) (m : Matched) (t : List ℕ) → begins 40 cs ≡ true → ends 41 cs ≡ true → n ≡ blanks (take (length cs - 1 - 1) (drop 1 cs))
    → t ≡ take (length (take (length cs - 1 - 1) (drop 1 cs)) - 2 * blanks (take (length cs - 1 - 1) (drop 1 cs))) (take (length cs - 1 - 1) (drop 1 cs)) → m ≡ kinded (Some n) t
    → ◌≡◌ {A = Result Matched (ParseError MatcherError)} (Ok m) (matcher_read cs)
read_both cs n m t p q b e k =
    let two : length cs - 1 - 1 ≡ length cs - 2 = omega arith in
    rw (p, q) (rw (k, b, e, two) refl)

pub read_closed : (cs : List ℕ) (f : ParseError MatcherError) (n : ℕ) → begins 40 cs ≡ false → ends 41 cs ≡ true → f ≡ part_at InvalidChildrenSpec 0 n → n ≡ length cs - 1 → Err f ≡ matcher_read cs
read_closed cs f n p q e h = rw (p, q, e, h) refl
