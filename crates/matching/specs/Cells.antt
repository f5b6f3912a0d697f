-- The table of first takes: what a cell holds, and how it comes from the cells behind it.
use Rattle.std.specs.Prelude.{◌≡◌, ℕ, ◌+◌, ◌≤◌, cond, List, [], ◌∷◌, length, drop, Some, None, Option, slice_index_or, slice_set}
use Rattle.matching.specs.declared.items.Item.{Item}
use Rattle.matching.specs.declared.items.Item.TheVariants.{Take, Open, Close}
use Rattle.matching.specs.declared.items.Times.{Times}
use Rattle.matching.specs.declared.items.Times.TheVariants.{Once, Maybe, Several, Many}
use Rattle.matching.specs.Best.{at_end, best}
use Rattle.matching.specs.Items.{has, as_seq}
use Rattle.matching.specs.Places.{Places, ended}

-- what the first item takes, where there is a way; nothing where no item is left
abbrev pub code : Option (List ℕ) → Option ℕ
code None = None
code (Some []) = Some 0
code (Some (t ∷ ts)) = Some t

-- the items from i on, and the name from a on
abbrev pub cell : List Item → List ℕ → ℕ → ℕ → Option ℕ
cell items name i a = code (best (as_seq (drop i items)) at_end (drop a name))

-- a row of the table, that of item i: a cell for each place of the name
abbrev pub RowOf : List Item → List ℕ → ℕ → List (Option ℕ) → Type 0
RowOf items name i row = (a : ℕ) → a ≤ length name → slice_index_or row a None ≡ cell items name i a

-- row i of the table
abbrev pub Row : List Item → List ℕ → List (List (Option ℕ)) → ℕ → Type 0
Row items name table i = RowOf items name i (slice_index_or table i [])

-- where the later items can take what is left, no byte is taken
abbrev pub stay : Option ℕ → Option ℕ
stay None = None
stay (Some n) = Some 0

-- one byte more is taken
abbrev pub onward : Option ℕ → Option ℕ
onward None = None
onward (Some n) = Some (n + 1)

abbrev pub first_or : Option ℕ → Option ℕ → Option ℕ
first_or None y = y
first_or (Some n) y = Some n

-- the item takes nothing here
abbrev pub rests : Times → Option ℕ → Option ℕ
rests Once later = None
rests Maybe later = stay later
rests Several later = None
rests Many later = stay later

-- the item may take a byte here
abbrev pub goes : Times → Option ℕ → Option ℕ → Option ℕ → Option ℕ
goes Once later after again = onward (stay after)
goes Maybe later after again = first_or (onward (stay after)) (stay later)
goes Several later after again = onward (first_or again (stay after))
goes Many later after again = first_or (onward again) (stay later)

-- a cell from those of the later items here and a byte on, and from the item's own a byte on
abbrev pub cell_of : Item → Option ℕ → Option ℕ → Option ℕ → Option ℕ → Option ℕ
cell_of (Take s q) None later after again = rests q later
cell_of (Take s q) (Some c) later after again = cond (has s c) (goes q later after again) (rests q later)
cell_of (Open k) b later after again = stay later
cell_of (Close k) b later after again = stay later

-- the places, with the item's own where `at` bytes are taken before it
abbrev pub marked : Item → ℕ → Places → Places
marked (Take s q) at l = l
marked (Open k) at l = slice_set l k (Some (at, at))
marked (Close k) at l = slice_set l k (ended at (slice_index_or l k None))

abbrev pub listed : Option (List ℕ) → List ℕ
listed None = []
listed (Some ts) = ts

abbrev pub takes_of : List Item → List ℕ → List ℕ
takes_of items name = listed (best (as_seq items) at_end name)
