-- What a reading is. Every number is one of 32 bits; an index is meant in two's complement.
use Rattle.std.specs.Prelude.{ℕ, ◌<◌, List, [], ◌∷◌, ◌≢◌}

-- R is what stands in a repeat behind its steps. A text has a first byte and further ones, so none is empty.
pub data Piece (R : Type 0) : Type 0 where
  text : ℕ → List ℕ → Piece R
  child : List ℕ → ℕ → ℕ → ℕ → Piece R
  capture : ℕ → Piece R
  repeat : List ℕ → R → Piece R

pub record Reading (R : Type 0) : Type 0 where
  pub left : ℕ
  pub right : ℕ
  pub pieces : List (Piece R)

-- the range and the powers of a repeat, and its separators, each an A
pub record RepeatOf (A : Type 0) : Type 0 where
  pub from : ℕ
  pub to : ℕ
  pub left : ℕ
  pub middle_left : ℕ
  pub middle_right : ℕ
  pub right : ℕ
  pub before : A
  pub between : A
  pub behind : A

-- a separator holds no repeat
abbrev pub Separator : Type 0
Separator = Reading ⊥

abbrev pub Repeat : Type 0
Repeat = RepeatOf Separator

abbrev pub Template : Type 0
Template = Reading Repeat

-- a reading whose separators are still texts, with their bars halved
abbrev pub Unread : Type 0
Unread = Reading (RepeatOf (List ℕ))

-- the range of bytes, powers, indices and captures
abbrev pub Byte : ℕ → Type 0
Byte b = b < 256

abbrev pub Power : ℕ → Type 0
Power n = n < 4294967296

abbrev pub Index : ℕ → Type 0
Index n = (n < 4294967296) × (n ≢ 2147483647)

abbrev pub Capture : ℕ → Type 0
Capture n = n < 2147483648

-- no text stands first
abbrev pub NoText : {R : Type 0} → List (Piece R) → Type 0
NoText [] = Unit {0}
NoText (text b bs ∷ ps) = ⊥
NoText (child s i l r ∷ ps) = Unit {0}
NoText (capture n ∷ ps) = Unit {0}
NoText (repeat s x ∷ ps) = Unit {0}
