-- What is typed of a term, and what rows and nodes have of it.
use Rattle.std.specs.Prelude.{ℕ, List, slice_index}
use Rattle.tables.specs.declared.rows.Row.{Row}
use Rattle.tapes.specs.declared.nodes.Node.{Node}
use Rattle.typed.specs.declared.Typed.{Typed}

abbrev pub typed_name : Typed → List ℕ
typed_name t = t.name.items

abbrev pub typed_numbers : Typed → List ℕ
typed_numbers t = t.numbers.items

-- the first number, 0 where there is none
abbrev pub count_of : Typed → ℕ
count_of t = slice_index t.numbers.items 0

abbrev pub row_name : Row → List ℕ
row_name r = r.name.now

abbrev pub row_children : Row → List ℕ
row_children r = r.children.now

abbrev pub node_name : Node → List ℕ
node_name n = n.name.now

abbrev pub node_children : Node → ℕ
node_children n = n.children
