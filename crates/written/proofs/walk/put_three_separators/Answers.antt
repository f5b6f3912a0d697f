use Rattle.std.proofs.Common.{rules, ◌&&◌, ◌∷◌, subst}
use Rattle.codes.specs.Written.{parted}
use Rattle.wire.specs.Cursor.{ahead_of}
use Rattle.written.proofs.Inks.{then, otherwise}
use Rattle.written.proofs.walk.put_three_separators.Goals as goal
use Rattle.written.specs.Pens.{Writes}
use Rattle.written.specs.Spelled.{bare_of, separator_of}

pub returns : goal.returns
returns c =
    otherwise (bare_of (ahead_of c.args.first) && bare_of (ahead_of c.args.third)) _ (search rules)
    (then c.put.ensures (then c.put_separator.ensures
    (then (subst (λ b. Writes (124 ∷ parted b (separator_of (ahead_of c.args.second))) c.put_separator.new.pen c.put_parted.new.pen) c.is_parted.ensures c.put_parted.ensures)
    (subst (λ b. Writes (124 ∷ parted b (separator_of (ahead_of c.args.third))) c.put_parted.new.pen c.put_parted-2.new.pen) c.begins_bar.ensures c.put_parted-2.ensures))))
