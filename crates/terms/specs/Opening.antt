-- Terms that open as a source over their longest lawful beginning, and what a check of them answers.
use Rattle.std.specs.Prelude.{◌≡◌, ℕ, ◌<◌, ◌≤◌, List, Ok, Err, Result}
use Rattle.refusal.specs.declared.error.ParseError.{ParseError}
use Rattle.terms.specs.declared.error.PrintError.{PrintError}
use Rattle.terms.specs.declared.error.PrintError.TheVariants.{BadTerm}
use Rattle.terms.specs.Source.{Source}

-- of size terms, the first n are lawful, and the next is not, or there is none
pub record Beginning (Lawful : ℕ → Type 0) (size n : ℕ) : Type 0 where
  pub within : n ≤ size
  pub before : (t : ℕ) → t < n → Lawful t
  pub longest : n < size → Lawful n → ⊥

-- the source has the terms of the longest lawful beginning, each with its name and its children
pub record Opens (Lawful : ℕ → Type 0) (size : ℕ) (name family : ℕ → List ℕ) (s : Source) : Type 0 where
  pub beginning : Beginning Lawful size s.count
  pub names : (t : ℕ) → t < s.count → s.name t ≡ name t
  pub children : (t : ℕ) → t < s.count → s.children t ≡ family t

-- the refusal of the term n
abbrev pub bad_term : ℕ → ParseError PrintError
bad_term n = record { place = n; length = 0; kind = BadTerm }

-- all is well, or the first bad term is refused
abbrev pub Checked : (ℕ → Type 0) → ℕ → Result (Unit {0}) (ParseError PrintError) → Type 0
Checked Lawful size (Ok u) = Beginning Lawful size size
Checked Lawful size (Err e) = (n : ℕ) × (n < size) × Beginning Lawful size n × (e ≡ bad_term n)
