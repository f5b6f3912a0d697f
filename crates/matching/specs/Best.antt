-- The match, found by trying longer takes first.
use Rattle.std.specs.Prelude.{ℕ, suc, Bool, cond, List, [], ◌∷◌, Some, None, Option}
use Rattle.matching.specs.declared.items.Times.{Times}
use Rattle.matching.specs.declared.items.Times.TheVariants.{Once, Maybe, Several, Many}
use Rattle.matching.specs.Ways.{Seq, end, bytes, opens, closes, either, Way, Match}

-- what finds the takes of a name, if there are some
abbrev pub Finder : Type 0
Finder = List ℕ → Option (List ℕ)

-- the takes of what follows, with a part in front that takes nothing
abbrev pub none : Option (List ℕ) → Option (List ℕ)
none None = None
none (Some ts) = Some (0 ∷ ts)

-- the first part takes one byte more
abbrev pub more : Option (List ℕ) → Option (List ℕ)
more None = None
more (Some []) = None
more (Some (t ∷ ts)) = Some (suc t ∷ ts)

abbrev pub or : Option (List ℕ) → Option (List ℕ) → Option (List ℕ)
or None y = y
or (Some ts) y = Some ts

-- one byte of the set, and then as g says
abbrev pub step : (ℕ → Bool) → Finder → Finder
step s g [] = None
step s g (c ∷ cs) = cond (s c) (more (g cs)) None

-- any number of bytes of the set, the most first, and then as f says
abbrev pub many : (ℕ → Bool) → Finder → Finder
many s f [] = none (f [])
many s f (c ∷ cs) = or (cond (s c) (more (many s f cs)) None) (none (f (c ∷ cs)))

abbrev pub taken : (ℕ → Bool) → Times → Finder → Finder
taken s Once f cs = step s (λ r. none (f r)) cs
taken s Maybe f cs = or (step s (λ r. none (f r)) cs) (none (f cs))
taken s Several f cs = step s (many s f) cs
taken s Many f cs = many s f cs

abbrev pub at_end : Finder
at_end [] = Some []
at_end (c ∷ cs) = None

-- the greatest way, where k finds that of what follows the pattern
abbrev pub best : Seq → Finder → Finder
best end k cs = k cs
best (bytes s q r) k cs = taken s q (best r k) cs
best (opens n r) k cs = none (best r k cs)
best (closes n r) k cs = none (best r k cs)
best (either a b r) k cs = or (more (none (best a (best r k) cs))) (none (best b (best r k) cs))

abbrev pub Finds : Seq → List ℕ → Option (List ℕ) → Type 0
Finds p name None = (ts : List ℕ) → Way p name ts → ⊥
Finds p name (Some ts) = Match p name ts

-- exactly the match is found, and none exactly when there is no way
abbrev pub BestIsMatch : Type 0
BestIsMatch = (p : Seq) (name : List ℕ) → Finds p name (best p at_end name)
