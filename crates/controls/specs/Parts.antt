-- Parts of a template, and how a mark parts them.
use Rattle.std.specs.Prelude.{◌≡◌, ℕ, ◌+◌, ◌<◌, ◌≤◌, List, length, take, drop, Some, None, Option, MatchOption}
use Rattle.grammar.specs.Marks.{first_mark}
use Rattle.controls.specs.declared.part.Part.{Part}

-- what f says of a part
abbrev pub reading : {A : Type 0} → (ℕ → List ℕ → A) → Part → A
reading f p = f p.place p.text.now

-- the first n bytes of a part
pub record IsFront (whole : Part) (n : ℕ) (p : Part) : Type 0 where
  pub place : p.place ≡ whole.place
  pub text : p.text.now ≡ take n whole.text.now

-- what stands behind the first n bytes
pub record IsBehind (whole : Part) (n : ℕ) (p : Part) : Type 0 where
  pub place : p.place ≡ whole.place + n
  pub text : p.text.now ≡ drop n whole.text.now

-- the byte n is the mark that parts a part, and n its length where nothing parts it
pub record IsSplit (whole : Part) (n : ℕ) (r : Part × Option Part) : Type 0 where
  pub within : n ≤ length whole.text.now
  pub front : IsFront whole n r.0
  pub behind : MatchOption r.1 (n ≡ length whole.text.now) (λ p. (n < length whole.text.now) × IsBehind whole (n + 1) p)

-- two bytes part a part where they first stand one behind the other
pub record IsCut (whole : Part) (one two : ℕ) (r : Part × Part) : Type 0 where
  pub at : ℕ
  pub found : first_mark one two 0 whole.text.now ≡ Some at
  pub within : at + 2 ≤ length whole.text.now
  pub front : IsFront whole at r.0
  pub behind : IsBehind whole (at + 2) r.1

abbrev pub Cuts : Part → ℕ → ℕ → Option (Part × Part) → Type 0
Cuts whole one two r = MatchOption r (first_mark one two 0 whole.text.now ≡ None) (λ p. IsCut whole one two p)
