use Rattle.std.proofs.Common.{Some, ap, ◌∙◌}
use Rattle.wire.specs.Cursor.{bytes_of}
use Rattle.decode.proofs.Firsts.{separator_rest}
use Rattle.decode.proofs.ends.separator_end.Goals as goal

pub returns-in-Power-clause-value : goal.returns-in-Power-clause-value
returns-in-Power-clause-value c = c.inside_end.ensures.value ∙ separator_rest (bytes_of c.args.commands) (bytes_of c.read.new.self) _ c.in-Power.right (c.in_ok-right.ensures.bytes ∙ ap (λ k. Some (k, bytes_of c.read.new.self)) c.in-Power.is)
