-- What a path of a template is: `#`, and numbers parted by `:`, the last being the index.
use Rattle.std.specs.Prelude.{ℕ, ◌+◌, ◌-◌, Bool, false, cond, List, [], ◌∷◌, length, drop, ℤ, pos, negsuc, Ok, Err, Result, ◌==◌}
use Rattle.refusal.specs.declared.error.FormatterError.TheVariants.{InvalidNumber, MissingHash, TooManyChildren}
use Rattle.grammar.specs.declared.defns.ChildIndex.{ChildIndex}
use Rattle.grammar.specs.Limits.{step_allowance}
use Rattle.grammar.specs.Numbers.{number_at, bits}
use Rattle.grammar.specs.Results.{on_ok, refusal, Fault}

abbrev pub is_max : ℤ → Bool
is_max (pos n) = n == 2147483647
is_max (negsuc n) = false

-- a number that may stand in a path
abbrev pub index_at : ℕ → List ℕ → Result ChildIndex Fault
index_at place cs = on_ok (number_at place cs) (λ z. cond (is_max z) (refusal InvalidNumber place (length cs)) (Ok (record { 0 = z })))

abbrev pub on_first : ℕ → List (List ℕ) → List (List ℕ)
on_first c [] = (c ∷ []) ∷ []
on_first c (p ∷ ps) = (c ∷ p) ∷ ps

-- the parts between the bytes m
abbrev pub split_on : ℕ → List ℕ → List (List ℕ)
split_on m [] = [] ∷ []
split_on m (c ∷ cs) = cond (c == m) ([] ∷ split_on m cs) (on_first c (split_on m cs))

-- the numbers of a path; `left` more steps may come, and the next number is at `at`.
-- Answered are the place of the steps, their length with their `:`, and the index.
abbrev pub steps_from : ℕ → ℕ → ℕ → ℕ → List (List ℕ) → Result (ℕ × ℕ × ChildIndex) Fault
steps_from start whole left at [] = refusal MissingHash start whole
steps_from start whole left at (x ∷ []) = on_ok (index_at at x) (λ z. Ok (start, at - start, z))
steps_from start whole left at (x ∷ y ∷ ys) =
    on_ok (index_at at x) (λ _. cond (left == 0) (refusal TooManyChildren start whole) (steps_from start whole (left - 1) (at + (length x + 1)) (y ∷ ys)))

abbrev pub path_at : ℕ → List ℕ → Result (ℕ × ℕ × ChildIndex) Fault
path_at place [] = refusal MissingHash place 0
path_at place (c ∷ cs) = cond (c == 35) (steps_from (place + 1) (length cs) step_allowance (place + 1) (split_on 58 cs)) (refusal MissingHash place (length (c ∷ cs)))

abbrev pub value_of : Result ℤ Fault → ℕ
value_of (Ok z) = bits z
value_of (Err e) = 0

-- the numbers of all parts but the last
abbrev pub step_values : List (List ℕ) → List ℕ
step_values [] = []
step_values (x ∷ []) = []
step_values (x ∷ y ∷ ys) = value_of (number_at 0 x) ∷ step_values (y ∷ ys)

-- the steps of a path, each by its 32 bits
abbrev pub steps_of : List ℕ → List ℕ
steps_of path = step_values (split_on 58 (drop 1 path))
