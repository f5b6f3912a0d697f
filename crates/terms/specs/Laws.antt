-- What is proved of equal sources.
use Rattle.std.specs.Prelude.{◌≡◌, ℕ}
use Rattle.terms.specs.Source.{Source, Same, name_length, name_byte, child_count, child_at}

-- two sources give the same answer to every question
pub record Agree (a b : Source) : Type 0 where
  pub counts : a.count ≡ b.count
  pub lengths : (t : ℕ) → name_length a t ≡ name_length b t
  pub bytes : (t i : ℕ) → name_byte a t i ≡ name_byte b t i
  pub numbers : (t : ℕ) → child_count a t ≡ child_count b t
  pub children : (t i : ℕ) → child_at a t i ≡ child_at b t i

-- sources are equal exactly when they agree
pub record Agreement : Type 0 where
  pub same : (a b : Source) → Agree a b → Same a b
  pub agree : (a b : Source) → Same a b → Agree a b
