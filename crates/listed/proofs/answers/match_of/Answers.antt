use Rattle.std.proofs.Common.{map, Some, None, sym, ◌∙◌}
use Rattle.listed.specs.Seen.{fact}
use Rattle.listed.proofs.Steps.{by_count}
use Rattle.listed.proofs.answers.match_of.Goals as goal

pub returns-in_err-count : goal.returns-in_err-count
returns-in_err-count c = rw c.from_residual.ensures (sym (by_count (map fact c.args.rows.now) c.args.text.now c.args.name.now None c.in_err-count.ensures))

pub returns-in_err-row : goal.returns-in_err-row
returns-in_err-row c = rw c.from_residual-in_err-row.ensures (sym (by_count (map fact c.args.rows.now) c.args.text.now c.args.name.now (Some _) c.in_ok-count.ensures.1 ∙ c.in_err-row.ensures))

pub returns : goal.returns
returns c = sym (by_count (map fact c.args.rows.now) c.args.text.now c.args.name.now (Some _) c.in_ok-count.ensures.1 ∙ c.in_ok-row.ensures)
