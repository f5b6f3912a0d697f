-- What the nodes of a tape say, and which nodes are lawful.
use Rattle.std.specs.Prelude.{ℕ, ◌≤◌, List, [], length, get_or, slice_index_or}
use Rattle.tapes.specs.declared.nodes.Node.{Node}
use Rattle.tapes.specs.Roots.{roots}

-- what is read past the last node: no name and no children
abbrev pub no_node : Node
no_node = record { name = record { ref_ptr = (0, 0); now = [] }; children = 0 }

abbrev pub name_at : List Node → ℕ → List ℕ
name_at nodes t = (get_or nodes t no_node).name.now

abbrev pub count_at : List Node → ℕ → ℕ
count_at nodes t = (get_or nodes t no_node).children

-- a node may stand after so many subtrees: its name is not too long, and it has no more children than those
abbrev pub LawfulNode : ℕ → Node → Type 0
LawfulNode subtrees n = (length n.name.now ≤ 255) × (n.children ≤ subtrees)

abbrev pub Lawful : List Node → ℕ → Type 0
Lawful nodes t = LawfulNode (length (roots (count_at nodes) t)) (slice_index_or nodes t no_node)
