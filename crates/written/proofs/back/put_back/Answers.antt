use Rattle.written.proofs.Whole.{back, too_short, fits}
use Rattle.written.proofs.back.put_back.Goals as goal

pub returns-then-needed-out : goal.returns-then-needed-out
returns-then-needed-out c =
    let p = too_short c.args.code.now c.args.out.now c.put_code-needed.result (back c.args.code.now c.requires) c.put_code-needed.ensures.count c.if-needed-out.true in
    record { answer = p.0; buffer = p.1 }

pub returns : goal.returns
returns c =
    let p = fits c.args.code.now c.args.out.now c.put_code.new.out c.put_code-needed.result (back c.args.code.now c.requires) c.put_code-needed.ensures.count c.if-needed-out.false c.put_code.ensures.buffer in
    record { answer = p.0; buffer = p.1 }
