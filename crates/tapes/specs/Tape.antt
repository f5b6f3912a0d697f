-- What a tape means: its lawful nodes, each with its name and the children that stand before it.
use Rattle.std.specs.Prelude.{List, length}
use Rattle.terms.specs.Source.{Source, Same, source_of}
use Rattle.terms.specs.Opening.{Opens}
use Rattle.tapes.specs.declared.nodes.Node.{Node}
use Rattle.tapes.specs.declared.tape.Tape.{Tape}
use Rattle.tapes.specs.Roots.{children_of, children_below}
use Rattle.tapes.specs.Nodes.{name_at, count_at, Lawful}

abbrev pub tape_view : Tape → Source
tape_view s = source_of (length s.nodes.now) (name_at s.nodes.now) (children_of (count_at s.nodes.now)) (λ t h. (s.lawful t h).0) (λ t h. children_below (count_at s.nodes.now) t)

-- the nodes open as a source
abbrev pub Opened : List Node → Source → Type 0
Opened nodes s = Opens (Lawful nodes) (length nodes) (name_at nodes) (children_of (count_at nodes)) s

-- nodes open as one source
abbrev pub OpensOnce : Type 0
OpensOnce = (nodes : List Node) (a b : Source) → Opened nodes a → Opened nodes b → Same a b
