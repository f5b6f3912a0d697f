use Rattle.std.proofs.Common.{Some, None, ap, ◌∙◌, arith}
use Rattle.wire.specs.Cursor.{bytes_of}
use Rattle.decode.specs.Behind.{left_of, rest_inside}
use Rattle.decode.proofs.Firsts.{inside_ends, inside_goes}
use Rattle.decode.proofs.ends.inside_end.Goals as goal

pub returns-then-is_end-clause-value : goal.returns-then-is_end-clause-value
returns-then-is_end-clause-value c =
    inside_ends (bytes_of c.run.commands) c.args.suffixed c.run.walk c.run.closed c.in-Some.command c.read.new.self c.may_end.result c.then_some.result c.in-Some.ensures.bytes c.if-is_end.ensures c.may_end.ensures c.then_some.ensures
    ∙ c.run.invariant.1

pub returns-in_err-walk-clause-value : goal.returns-in_err-walk-clause-value
returns-in_err-walk-clause-value c =
    ap left_of c.from_residual.ensures
    ∙ inside_goes (bytes_of c.run.commands) c.args.suffixed c.run.walk c.run.closed c.in-Some.command (bytes_of c.read.new.self) None c.in-Some.ensures.bytes c.if-is_end.ensures c.in_err-walk.ensures
    ∙ c.run.invariant.1

pub run-preserved : goal.run-preserved
run-preserved c = (
  omega (arith, c.run.invariant.0, c.in-Some.ensures.shorter),
  ap (λ b. rest_inside c.args.suffixed c.in_ok-walk.walk b (bytes_of c.read.new.self)) c.is_closing-closed.ensures
      ∙ inside_goes (bytes_of c.run.commands) c.args.suffixed c.run.walk c.run.closed c.in-Some.command (bytes_of c.read.new.self) (Some c.in_ok-walk.walk) c.in-Some.ensures.bytes c.if-is_end.ensures c.in_ok-walk.ensures ∙ c.run.invariant.1,
)
