use Rattle.std.proofs.Common.{refl, arith}
use Rattle.pen.proofs.Pages.{pair_page, pair_room}
use Rattle.pen.proofs.writing.Pen.put_both.Goals as goal

pub returns : goal.returns
returns c = record {
  same = refl;
  bytes = pair_page c.args.self.now.out.now c.args.self.now.at c.args.first c.args.second (omega (arith, c.if-end-self.false));
  answer = pair_room c.args.self.now.out.now c.args.self.now.at c.args.first c.args.second (omega (arith, c.if-end-self.false));
}
