-- The separators of all pieces: what is left gives the whole answer.
use Rattle.std.proofs.Common.{◌≡◌, ℕ, ◌+◌, List, ◌∷◌, Ok, Err, Option, Result, refl, ◌∙◌}
use Rattle.grammar.specs.Deep.{DeepFault, deep_from, most_between}
use Rattle.grammar.specs.Results.{on_ok}
use Rattle.grammar.specs.Shapes.{Shape}
use Rattle.formatter.specs.Views.{in_piece}
use Rattle.formatter.proofs.Between.{piece_first}

-- the answer for the pieces from the n-th on
abbrev pub between_from : ℕ → Option ℕ → List Shape → Result (Option ℕ) DeepFault
between_from n m ss = on_ok (deep_from n ss) (λ ps. Ok (most_between m ps))

pub goes : (n : ℕ) (m o : Option ℕ) (s : Shape) (ss : List Shape) → Ok o ≡ in_piece n m s → between_from n m (s ∷ ss) ≡ between_from (n + 1) o ss
goes n m o s ss h = piece_first n m s ss ∙ rw (← h) refl

pub fails : (n : ℕ) (m : Option ℕ) (s : Shape) (ss : List Shape) (x : DeepFault) → Err x ≡ in_piece n m s → between_from n m (s ∷ ss) ≡ Err x
fails n m s ss x h = piece_first n m s ss ∙ rw (← h) refl
