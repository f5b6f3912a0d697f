use Rattle.std.proofs.Common.{arith, refl, length-take}
use Rattle.std.proofs.lemmas.Result.{IfOk-weaker}
use Rattle.tapes.specs.declared.tape.Tape.{Tape}
use Rattle.tapes.proofs.Cut.{lawful_cut, cut_opens}
use Rattle.tapes.proofs.tape.Tape.open.Goals as goal

pub lay-requires : goal.lay-requires
lay-requires c = lawful_cut c.args.nodes.now _ _ refl c.beginning.ensures

pub returns : goal.returns
returns c = record {
  opens = IfOk-weaker c.lay.result _ _ (λ (s : Tape) is. cut_opens c.args.nodes.now c.beginning.result s is c.beginning.ensures) c.lay.ensures.nodes;
  room = IfOk-weaker c.lay.result _ _ (λ (s : Tape) room. omega (arith, room, length-take c.beginning.result c.args.nodes.now)) c.lay.ensures.room;
}
