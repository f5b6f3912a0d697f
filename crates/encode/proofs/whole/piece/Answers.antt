use Rattle.encode.specs.Shapes.{separators_code}
use Rattle.pen.proofs.Pages.{then, full}
use Rattle.encode.proofs.whole.piece.Goals as goal

pub returns-in_err-command-in-Repeat : goal.returns-in_err-command-in-Repeat
returns-in_err-command-in-Repeat c =
    rw (c.in-Repeat.is, ← c.bits.ensures, ← c.bits-in-Repeat.ensures)
    (then c.in_ok-steps-in-Repeat.ensures
    (full (separators_code c.in-Repeat.left_sep.now c.in-Repeat.middle_sep.now c.in-Repeat.right_sep.now) c.in_err-command-in-Repeat.ensures c.from_residual-in_err-command-in-Repeat.ensures.1))

pub returns-in_ok-command-in-Repeat : goal.returns-in_ok-command-in-Repeat
returns-in_ok-command-in-Repeat c =
    rw (c.in-Repeat.is, ← c.bits.ensures, ← c.bits-in-Repeat.ensures) (then c.in_ok-steps-in-Repeat.ensures (then c.in_ok-command-in-Repeat.ensures c.separators.ensures))
