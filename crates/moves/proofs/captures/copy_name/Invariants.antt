use Rattle.std.proofs.Common.{◌≡◌, length, take}
use Rattle.moves.proofs.captures.copy_name.Given as goal

abbrev pub invariant-loop-i : goal.invariant-loop-i
invariant-loop-i g l = (length l.out ≡ 255) × (take l.i l.out ≡ take l.i ((g.S.TermSource.view l.source).name l.term))
