-- Four bytes of a number.
use Rattle.std.proofs.Common.{◌≡◌, ℕ, ◌<◌, ◌^◌, suc, zero, [], get_or, refl, arith}
use Rattle.std.proofs.lemmas.Nat.{be_bytes_4}
use Rattle.std.specs.Int.{w32, to_be_bytes}
use Rattle.codes.specs.Code.{word}

pub be_word : (n : ℕ) → n < 2 ^ 32 → to_be_bytes w32 n ≡ word n []
be_word n h = be_bytes_4 (word n []) n refl small (omega arith)
  where
    small : (i : ℕ) → get_or (word n []) i 0 < 256
    small zero = omega arith
    small (suc zero) = omega arith
    small (suc (suc zero)) = omega arith
    small (suc (suc (suc zero))) = omega arith
    small (suc (suc (suc (suc i)))) = omega arith
