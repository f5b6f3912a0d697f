use Rattle.std.proofs.Common.{◌++◌}
use Rattle.encode.specs.Shapes.{separator_code}
use Rattle.pen.proofs.Pages.{then, full}
use Rattle.encode.proofs.separators.separators.Goals as goal

pub returns-in_err-separator : goal.returns-in_err-separator
returns-in_err-separator c = full (separator_code c.args.middle.now ++ separator_code c.args.right.now) c.in_err-separator.ensures c.from_residual.ensures.1

pub returns-in_err-separator-2 : goal.returns-in_err-separator-2
returns-in_err-separator-2 c = then c.in_ok-separator.ensures (full (separator_code c.args.right.now) c.in_err-separator-2.ensures c.from_residual-in_err-separator-2.ensures.1)

pub returns : goal.returns
returns c = then c.in_ok-separator.ensures (then c.in_ok-separator-2.ensures c.separator-3.ensures)
