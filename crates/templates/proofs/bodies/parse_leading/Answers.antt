use Rattle.std.proofs.Common.{arith}
use Rattle.std.proofs.lemmas.Result.{err_from_is_err_and}
use Rattle.controls.specs.Views.{shape}
use Rattle.templates.proofs.Ones.{leads_err, leads_ok}
use Rattle.templates.proofs.bodies.parse_leading.Goals as goal

pub returns-in_err-piece-clause-value : goal.returns-in_err-piece-clause-value
returns-in_err-piece-clause-value c =
    let p = err_from_is_err_and c.from_residual.result c.from_residual.ensures.1 in
    rw (p.1, p.2) (leads_err c.args.text.now c.args.at _ (omega arith) c.in_err-piece.ensures.same)

pub returns-clause-value : goal.returns-clause-value
returns-clause-value c = leads_ok c.args.text.now c.args.at (shape c.in_ok-piece.piece) c.in_ok-piece.used (omega arith) c.in_ok-piece.ensures.same
