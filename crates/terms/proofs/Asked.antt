-- What is answered of the terms below n.
use Rattle.std.proofs.Common.{◌≡◌, ℕ, ◌<◌, List, length, get_or, Some}
use Rattle.std.proofs.lemmas.Bool.{cond-true, lt-ltb}
use Rattle.terms.specs.Source.{item, up_to}

pub item_in : (l : List ℕ) (i : ℕ) → i < length l → item l i ≡ Some (get_or l i 0)
item_in l i h = cond-true _ _ _ (lt-ltb i (length l) h)

pub up_to_in : (n : ℕ) (f : ℕ → List ℕ) (t : ℕ) → t < n → up_to n f t ≡ f t
up_to_in n f t h = cond-true _ _ _ (lt-ltb t n h)
