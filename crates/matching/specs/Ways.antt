-- The ways to share a name out among the items of a pattern, and the match: the way in which earlier items take the most.
use Rattle.std.specs.Prelude.{◌≡◌, ℕ, ◌<◌, ◌≤◌, Bool, true, ◌⊎◌, List, [], ◌∷◌, ◌++◌, length}
use Rattle.matching.specs.declared.items.Times.{Times}
use Rattle.matching.specs.declared.items.Times.TheVariants.{Once, Maybe, Several, Many}

-- a pattern, part by part, each in front of the rest: bytes of a set so many times, the marks of group k, two alternatives
pub data Seq : Type 0 where
  end : Seq
  bytes : (ℕ → Bool) → Times → Seq → Seq
  opens : ℕ → Seq → Seq
  closes : ℕ → Seq → Seq
  either : Seq → Seq → Seq → Seq

abbrev pub join : Seq → Seq → Seq
join end r = r
join (bytes s q a) r = bytes s q (join a r)
join (opens k a) r = opens k (join a r)
join (closes k a) r = closes k (join a r)
join (either a b c) r = either a b (join c r)

-- every byte of a part is of the set
abbrev pub AllOf : (ℕ → Bool) → List ℕ → Type 0
AllOf s [] = Unit {0}
AllOf s (c ∷ cs) = (s c ≡ true) × AllOf s cs

-- how many bytes may be taken
abbrev pub Count : Times → ℕ → Type 0
Count Once n = n ≡ 1
Count Maybe n = n ≤ 1
Count Several n = 1 ≤ n
Count Many n = Unit {0}

-- Way pattern name takes: the parts of the pattern take the whole name in order, each as many bytes as `takes` says; a mark takes none, and of two alternatives the left is 1 and the right 0
pub data Way : Seq → List ℕ → List ℕ → Type 0 where
  done : Way end [] []
  takes : {s : ℕ → Bool} {q : Times} {r : Seq} {rest ts : List ℕ} (part : List ℕ) → AllOf s part → Count q (length part) → Way r rest ts → Way (bytes s q r) (part ++ rest) (length part ∷ ts)
  opened : {k : ℕ} {r : Seq} {cs ts : List ℕ} → Way r cs ts → Way (opens k r) cs (0 ∷ ts)
  closed : {k : ℕ} {r : Seq} {cs ts : List ℕ} → Way r cs ts → Way (closes k r) cs (0 ∷ ts)
  left : {a b r : Seq} {cs ts : List ℕ} → Way (join a r) cs ts → Way (either a b r) cs (1 ∷ ts)
  right : {a b r : Seq} {cs ts : List ℕ} → Way (join b r) cs ts → Way (either a b r) cs (0 ∷ ts)

-- at the first difference the second takes more
abbrev pub AtMost : List ℕ → List ℕ → Type 0
AtMost [] us = Unit {0}
AtMost (t ∷ ts) [] = ⊥
AtMost (t ∷ ts) (u ∷ us) = (t < u) ⊎ ((t ≡ u) × AtMost ts us)

-- the way in which earlier items take the most
pub record Match (p : Seq) (name takes : List ℕ) : Type 0 where
  pub way : Way p name takes
  pub greatest : (others : List ℕ) → Way p name others → AtMost others takes

abbrev pub AtMostOne : Type 0
AtMostOne = (p : Seq) (name ts us : List ℕ) → Match p name ts → Match p name us → ts ≡ us
