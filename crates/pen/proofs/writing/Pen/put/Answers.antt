use Rattle.std.proofs.Common.{refl}
use Rattle.pen.proofs.Pages.{byte_page, byte_room}
use Rattle.pen.proofs.writing.Pen.put.Goals as goal

pub returns : goal.returns
returns c = record {
  same = refl;
  bytes = byte_page c.args.self.now.out.now c.args.self.now.at c.args.b c.if-self.false;
  answer = byte_room c.args.self.now.out.now c.args.self.now.at c.args.b c.if-self.false;
}
