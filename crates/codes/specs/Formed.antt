-- Readings whose numbers are in their bounds and whose texts do not adjoin.
use Rattle.std.specs.Prelude.{List, [], ◌∷◌}
use Rattle.std.specs.List.{AllByRecursion}
use Rattle.grammar.specs.Readings.{Piece, text, child, capture, repeat, Reading, Separator, Repeat, Template, Byte, Power, Index, Capture, NoText}

-- the numbers of a piece are in their bounds; F says it of what a repeat has behind its steps
abbrev pub Fits : {R : Type 0} → (R → Type 0) → Piece R → Type 0
Fits F (text b bs) = Byte b × AllByRecursion Byte bs
Fits F (child s i l r) = AllByRecursion Index s × Index i × Power l × Power r
Fits F (capture n) = Capture n
Fits F (repeat s x) = AllByRecursion Index s × F x

-- no two texts adjoin
abbrev pub Apart : {R : Type 0} → List (Piece R) → Type 0
Apart [] = Unit {0}
Apart (text b bs ∷ ps) = NoText ps × Apart ps
Apart (child s i l r ∷ ps) = Apart ps
Apart (capture n ∷ ps) = Apart ps
Apart (repeat s x ∷ ps) = Apart ps

pub record Formed {R : Type 0} (F : R → Type 0) (r : Reading R) : Type 0 where
  pub left : Power r.left
  pub right : Power r.right
  pub fits : AllByRecursion (Fits F) r.pieces
  pub apart : Apart r.pieces

abbrev pub Never : ⊥ → Type 0
Never x = Unit {0}

abbrev pub FormedSeparator : Separator → Type 0
FormedSeparator = Formed Never

pub record FormedRepeat (x : Repeat) : Type 0 where
  pub from : Index x.from
  pub to : Index x.to
  pub left : Power x.left
  pub middle_left : Power x.middle_left
  pub middle_right : Power x.middle_right
  pub right : Power x.right
  pub before : FormedSeparator x.before
  pub between : FormedSeparator x.between
  pub behind : FormedSeparator x.behind

abbrev pub FormedTemplate : Template → Type 0
FormedTemplate = Formed FormedRepeat
