use Rattle.std.proofs.Common.{rules, ◌&&◌, nat_eq}
use Rattle.written.proofs.Inks.{then, otherwise}
use Rattle.written.proofs.parts.put_powers.Goals as goal

pub returns : goal.returns
returns c =
    otherwise (nat_eq c.args.left 0 && (nat_eq c.args.middle_left 0 && (nat_eq c.args.middle_right 0 && nat_eq c.args.right 0))) _ (search rules)
    (then c.put.ensures (then c.put_numeral.ensures (then c.put-2.ensures (then c.put_numeral-2.ensures (then c.put-3.ensures (then c.put_numeral-3.ensures (then c.put-4.ensures c.put_numeral-4.ensures)))))))
