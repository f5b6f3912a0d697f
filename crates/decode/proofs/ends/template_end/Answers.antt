use Rattle.std.proofs.Common.{Some, ap, ◌∙◌}
use Rattle.wire.specs.Cursor.{bytes_of}
use Rattle.decode.proofs.Firsts.{template_rest}
use Rattle.decode.proofs.ends.template_end.Goals as goal

pub returns-in-Power : goal.returns-in-Power
returns-in-Power c = c.outside_end.ensures ∙ template_rest (bytes_of c.args.commands) (bytes_of c.read.new.self) _ _ (c.in_ok-read.ensures.bytes ∙ ap (λ k. Some (k, bytes_of c.read.new.self)) c.in-Power.is)
