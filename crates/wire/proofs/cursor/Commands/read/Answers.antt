use Rattle.std.proofs.Common.{Some, None, subst, sym}
use Rattle.std.specs.Iterator.{YieldsFirst}
use Rattle.wire.proofs.Dues.{steps, fewer}
use Rattle.wire.specs.Cursor.{ahead_of}
use Rattle.wire.proofs.cursor.Commands.read.Goals as goal

pub returns-in_err-command-clause-commands : goal.returns-in_err-command-clause-commands
returns-in_err-command-clause-commands c =
    let e = steps c.args.self.now.rest.now c.args.self.now.rest.now None c.in_err-command.ensures in
    subst (λ r. YieldsFirst ahead_of c.args.self.now r c.args.self.now) (sym c.from_residual.ensures) (e, e)

pub returns-clause-commands : goal.returns-clause-commands
returns-clause-commands c = steps c.args.self.now.rest.now c.command.new.self.rest.now (Some c.in_ok-command.command) c.in_ok-command.ensures

pub returns-clause-shorter : goal.returns-clause-shorter
returns-clause-shorter c = fewer c.args.self.now.rest.now c.command.new.self.rest.now c.in_ok-command.command c.in_ok-command.ensures
