-- What is proved of lines and of how they are cut.
use Rattle.std.specs.Prelude.{◌≡◌, ℕ, suc, ◌<◌, ◌≤◌, List, [], ◌∷◌, ◌++◌, length, Some, None}
use Rattle.std.specs.List.{AllByRecursion}
use Rattle.terms.specs.Source.{Source, Same}
use Rattle.lines.specs.Chosen.{Choosing}
use Rattle.lines.specs.Cut.{Cut, cut, visit_limit, depth_limit, printing}
use Rattle.lines.specs.Events.{Event, visit, byte, missing, Context, alone, shown, line}
use Rattle.lines.specs.Worked.{WorkedLine}
use Rattle.lines.specs.declared.error.LineError.{LineError}
use Rattle.lines.specs.declared.error.LineError.TheVariants.{MissingChild, TooDeep, TooManyVisits, OutputFull}

-- a line is the visit of its term, then what is shown of it by the lines of the terms below
abbrev pub Unfolds : Type 0
Unfolds = (ch : Choosing) (m : Source) (d t : ℕ) (c : Context) → line ch m d t c ≡ visit t d ∷ shown m (line ch m (suc d)) t c (ch (m.name t) (length (m.children t)))

-- the visits and the bytes among events
abbrev pub visits_in : List Event → ℕ
visits_in [] = 0
visits_in (visit t d ∷ es) = suc (visits_in es)
visits_in (byte b ∷ es) = visits_in es
visits_in (missing ∷ es) = visits_in es

abbrev pub bytes_in : List Event → List ℕ
bytes_in [] = []
bytes_in (visit t d ∷ es) = bytes_in es
bytes_in (byte b ∷ es) = b ∷ bytes_in es
bytes_in (missing ∷ es) = bytes_in es

-- nothing is missing, and no visit is too deep
abbrev pub Allowed : Event → Type 0
Allowed (visit t d) = d ≤ depth_limit
Allowed (byte b) = Unit {0}
Allowed missing = ⊥

-- the events keep within all limits and the room
pub record Fits (room : ℕ) (es : List Event) : Type 0 where
  pub allowed : AllByRecursion Allowed es
  pub visits : visits_in es ≤ visit_limit
  pub bytes : length (bytes_in es) ≤ room

abbrev pub uncut : List ℕ → ℕ → Cut
uncut bs v = record { bytes = bs; visits = v; end = None }

-- a line is not cut exactly when it keeps within the limits and the room; then all its bytes are printed, and all its visits made
pub record Ends : Type 0 where
  pub forth : (room : ℕ) (es : List Event) → (cut room 0 es).end ≡ None → Fits room es
  pub back : (room : ℕ) (es : List Event) → Fits room es → cut room 0 es ≡ uncut (bytes_in es) (visits_in es)

-- what breaks a limit, when n bytes are printed and v visits made
pub data Breaks (room n v : ℕ) : Event → LineError → Type 0 where
  many : (t d : ℕ) → v ≡ visit_limit → Breaks room n v (visit t d) TooManyVisits
  deep : (t d : ℕ) → v < visit_limit → depth_limit < d → Breaks room n v (visit t d) TooDeep
  lost : Breaks room n v missing MissingChild
  full : (b : ℕ) → n ≡ room → Breaks room n v (byte b) OutputFull

-- a line that is cut: the events before keep within everything and are all that was printed and visited, and the next one breaks a limit
pub record Breach (room : ℕ) (es : List Event) (e : LineError) : Type 0 where
  pub before : List Event
  pub first : Event
  pub behind : List Event
  pub parts : es ≡ before ++ first ∷ behind
  pub fits : Fits room before
  pub printed : (cut room 0 es).bytes ≡ bytes_in before
  pub visited : (cut room 0 es).visits ≡ visits_in before
  pub breaks : Breaks room (length (bytes_in before)) (visits_in before) first e

abbrev pub FirstBreach : Type 0
FirstBreach = (room : ℕ) (es : List Event) (e : LineError) → (cut room 0 es).end ≡ Some e → Breach room es e

-- two choosings agree on the term that an event visits
abbrev pub AgreeAt : Choosing → Choosing → Source → Event → Type 0
AgreeAt ch ch' m (visit t d) = ch (m.name t) (length (m.children t)) ≡ ch' (m.name t) (length (m.children t))
AgreeAt ch ch' m (byte b) = Unit {0}
AgreeAt ch ch' m missing = Unit {0}

-- equal sources, with choosings that agree on every term that is visited, have the same line, and print alike
pub record AlikeAt (ch ch' : Choosing) (m m' : Source) (t : ℕ) : Type 0 where
  pub lines : line ch m 1 t alone ≡ line ch' m' 1 t alone
  pub prints : (room : ℕ) → printing ch m t room ≡ printing ch' m' t room

pub record Alike : Type 0 where
  pub visited : (ch ch' : Choosing) (m m' : Source) (t : ℕ) → Same m m' → AllByRecursion (AgreeAt ch ch' m) (line ch m 1 t alone) → AlikeAt ch ch' m m' t
  pub everywhere : (ch ch' : Choosing) (m m' : Source) (t : ℕ) → Same m m' → ((name : List ℕ) (count : ℕ) → ch name count ≡ ch' name count) → AlikeAt ch ch' m m' t

pub record Laws : Type 0 where
  pub unfolds : Unfolds
  pub ends : Ends
  pub breach : FirstBreach
  pub alike : Alike
  pub worked : WorkedLine
