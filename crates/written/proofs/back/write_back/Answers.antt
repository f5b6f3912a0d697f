use Rattle.written.proofs.Whole.{again}
use Rattle.written.proofs.back.write_back.Goals as goal

pub returns-clause-again : goal.returns-clause-again
returns-clause-again c = again c.args.code.now c.args.out.now c.put_back.new.out c.put_back.result (c.put_back.ensures.answer, c.put_back.ensures.buffer)
