-- What the rows of a table say, and which rows are lawful.
use Rattle.std.specs.Prelude.{ℕ, ◌<◌, ◌≤◌, List, [], length, get_or, slice_index, slice_index_or}
use Rattle.tables.specs.declared.rows.Row.{Row}

-- what is read past the last row: no name and no children
abbrev pub no_row : Row
no_row = record { name = record { ref_ptr = (0, 0); now = [] }; children = record { ref_ptr = (0, 0); now = [] } }

abbrev pub name_at : List Row → ℕ → List ℕ
name_at rows t = (get_or rows t no_row).name.now

abbrev pub children_at : List Row → ℕ → List ℕ
children_at rows t = (get_or rows t no_row).children.now

-- every number is smaller than t
abbrev pub Smaller : ℕ → List ℕ → Type 0
Smaller t l = (i : ℕ) → i < length l → slice_index l i < t

-- a row may stand at t: its name is not too long, and its children have smaller numbers
abbrev pub LawfulRow : ℕ → Row → Type 0
LawfulRow t r = (length r.name.now ≤ 255) × Smaller t r.children.now

abbrev pub Lawful : List Row → ℕ → Type 0
Lawful rows t = LawfulRow t (slice_index_or rows t no_row)
