use Rattle.std.proofs.Common.{◌+◌, ◌%◌, [], ◌∷◌, subst, arith}
use Rattle.written.proofs.Digits.{digit_behind, one-digit}
use Rattle.written.specs.Pens.{Writes}
use Rattle.written.proofs.pen.Pen.+put_decimal.Goals as goal
use Rattle.written.proofs.pen.Pen.+put_decimal.Goals.{then-n-ge10, else-n-ge10}

pub returns : goal.returns
returns t c = elim c.if-n-ge10.branch [
  | then-n-ge10 w ↦ digit_behind c.args.n (omega arith) (omega arith) w.put_decimal.ensures (subst (λ p. Writes ((48 + c.args.n % 10) ∷ []) p c.put.new.self) w.self-is c.put.ensures)
  | else-n-ge10 w ↦ one-digit c.args.n (omega arith) (subst (λ p. Writes ((48 + c.args.n % 10) ∷ []) p c.put.new.self) w.self-is c.put.ensures)
]
