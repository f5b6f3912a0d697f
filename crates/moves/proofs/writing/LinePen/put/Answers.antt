use Rattle.moves.proofs.Runs.{byte_full, byte_ran}
use Rattle.moves.proofs.writing.LinePen.put.Goals as goal

pub returns-then-self : goal.returns-then-self
returns-then-self c =
    let p = c.args.self.now in
    byte_full c.args.b p.out.ghost_name p.out.now p.at p.visits c.if-self.true

pub returns : goal.returns
returns c =
    let p = c.args.self.now in
    byte_ran c.args.b p.out.ghost_name p.out.now p.at p.visits c.if-self.false
