-- The steps of a path, one by one, and all that are left.
use Rattle.std.specs.Prelude.{ℕ, ◌+◌, cond, List, [], ◌∷◌, length, take, drop, Some, None, Ok, Err, Option, Result, ◌==◌}
use Rattle.controls.specs.declared.walk.Steps.{Steps}
use Rattle.grammar.specs.Marks.{up_to}
use Rattle.grammar.specs.Paths.{index_at, split_on}
use Rattle.grammar.specs.Results.{Fault}
use Rattle.grammar.specs.declared.defns.ChildIndex.{ChildIndex}

abbrev pub stepped : ℕ → Result ChildIndex Fault → Option (ChildIndex × ℕ)
stepped next (Ok i) = Some (i, next)
stepped next (Err e) = None

-- the step that stands first, where a `:` stands behind it, and the place of what follows
abbrev pub step_at : ℕ → List ℕ → Option (ChildIndex × ℕ)
step_at place cs = cond (up_to 58 cs == length cs) None (stepped (place + (up_to 58 cs + 1)) (index_at place (take (up_to 58 cs) cs)))

-- a step with those behind it; none where no number stands
abbrev pub and_then : Result ChildIndex Fault → List ChildIndex → List ChildIndex
and_then (Ok i) is = i ∷ is
and_then (Err e) is = []

-- the steps among the parts of a path, of which the first is at `place`: each part but the last, up to one that is no number
abbrev pub steps_among : ℕ → List (List ℕ) → List ChildIndex
steps_among place [] = []
steps_among place (x ∷ []) = []
steps_among place (x ∷ y ∷ ys) = and_then (index_at place x) (steps_among (place + (length x + 1)) (y ∷ ys))

-- the steps of a path from a place on
abbrev pub steps_from : ℕ → List ℕ → List ChildIndex
steps_from place path = steps_among place (split_on 58 (drop place path))

-- the steps that are still to come
abbrev pub steps_left : Steps → List ChildIndex
steps_left s = steps_from s.place s.path.now
