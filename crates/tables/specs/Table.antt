-- What a table means: its lawful rows, each with its name and its children.
use Rattle.std.specs.Prelude.{◌≡◌, ℕ, ◌<◌, List, length}
use Rattle.terms.specs.Source.{Source, Same, source_of}
use Rattle.terms.specs.Opening.{Opens}
use Rattle.tables.specs.declared.rows.Row.{Row}
use Rattle.tables.specs.declared.table.Table.{Table}
use Rattle.tables.specs.Rows.{name_at, children_at, Lawful}

abbrev pub table_view : Table → Source
table_view s = source_of (length s.rows.now) (name_at s.rows.now) (children_at s.rows.now) s.short s.below

-- the rows open as a source
abbrev pub Opened : List Row → Source → Type 0
Opened rows s = Opens (Lawful rows) (length rows) (name_at rows) (children_at rows) s

-- rows open as one source
abbrev pub OpensOnce : Type 0
OpensOnce = (rows : List Row) (a b : Source) → Opened rows a → Opened rows b → Same a b

-- the rows say what a source says, term by term
pub record Written (s : Source) (rows : List Row) : Type 0 where
  pub number : length rows ≡ s.count
  pub names : (t : ℕ) → t < s.count → name_at rows t ≡ s.name t
  pub children : (t : ℕ) → t < s.count → children_at rows t ≡ s.children t

-- the rows of a source open as that source
abbrev pub Rewritten : Type 0
Rewritten = (s : Source) (rows : List Row) → Written s rows → Opened rows s
