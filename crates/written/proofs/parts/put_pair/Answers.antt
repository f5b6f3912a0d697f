use Rattle.std.proofs.Common.{rules, ◌&&◌, nat_eq}
use Rattle.written.proofs.Inks.{then, otherwise}
use Rattle.written.proofs.parts.put_pair.Goals as goal

pub returns : goal.returns
returns c = otherwise (nat_eq c.args.left 0 && nat_eq c.args.right 0) _ (search rules) (then c.put_bar.ensures (then c.put_numeral.ensures (then c.put.ensures c.put_numeral-2.ensures)))
