use Rattle.std.proofs.Common.{◌≡◌, map, take}
use Rattle.typed.specs.Typed.{typed_name, count_of, node_name, node_children}
use Rattle.typed.proofs.nodes.Given as goal

abbrev pub invariant-loop-term : goal.invariant-loop-term
invariant-loop-term l = record { names : map node_name l.nodes.items ≡ map typed_name (take l.term-index l.terms); counts : map node_children l.nodes.items ≡ map count_of (take l.term-index l.terms) }
