use Rattle.std.proofs.Common.{Some, None, ap, ◌∙◌}
use Rattle.wire.specs.Cursor.{bytes_of}
use Rattle.decode.specs.Behind.{left_of}
use Rattle.decode.proofs.Firsts.{outside-ends, outside-goes, outside_stops}
use Rattle.decode.proofs.ends.outside_end.Goals as goal

pub returns-then-is_end : goal.returns-then-is_end
returns-then-is_end c =
    outside-ends (bytes_of c.run.commands) c.run.walk c.in-Some.command c.read.new.self c.may_end.result c.then_some.result c.in-Some.ensures.bytes c.if-is_end.ensures c.may_end.ensures c.then_some.ensures ∙ c.run.invariant

pub returns-in_err-walk : goal.returns-in_err-walk
returns-in_err-walk c =
    ap left_of c.from_residual.ensures ∙ outside_stops (bytes_of c.run.commands) c.run.walk c.in-Some.command (bytes_of c.read.new.self) c.in-Some.ensures.bytes c.if-is_end.ensures c.in_err-walk.ensures ∙ c.run.invariant

pub returns-in_err-commands : goal.returns-in_err-commands
returns-in_err-commands c =
    ap left_of c.from_residual-in_err-commands.ensures
    ∙ outside-goes (bytes_of c.run.commands) c.run.walk c.in-Some.command (bytes_of c.read.new.self) (Some c.in_ok-walk.walk) None c.in-Some.ensures.bytes c.if-is_end.ensures c.in_ok-walk.ensures c.in_err-commands.ensures.value
    ∙ c.run.invariant

pub run-preserved : goal.run-preserved
run-preserved c =
    outside-goes (bytes_of c.run.commands) c.run.walk c.in-Some.command (bytes_of c.read.new.self) (Some c.in_ok-walk.walk) (Some (bytes_of c.in_ok-commands.commands)) c.in-Some.ensures.bytes c.if-is_end.ensures c.in_ok-walk.ensures c.in_ok-commands.ensures.value
    ∙ c.run.invariant
