use Rattle.std.proofs.Common.{◌≡◌, map, take}
use Rattle.typed.specs.Typed.{typed_name, typed_numbers, row_name, row_children}
use Rattle.typed.proofs.rows.Given as goal

abbrev pub invariant-loop-term : goal.invariant-loop-term
invariant-loop-term l = record { names : map row_name l.rows.items ≡ map typed_name (take l.term-index l.terms); children : map row_children l.rows.items ≡ map typed_numbers (take l.term-index l.terms) }
