use Rattle.std.proofs.Common.{◌+◌, [], ◌∷◌, get_or, drop}
use Rattle.std.proofs.lemmas.List.{drop_more, drop_all}
use Rattle.pen.proofs.Pages.{more, stops, ends}
use Rattle.pen.proofs.writing.Pen.put_all.Goals as goal

pub returns-in_err-put : goal.returns-in_err-put
returns-in_err-put c =
    let bs = c.args.bytes.now in
    let i = c.loop-b.b-index in
    stops c.loop-b.invariant (get_or bs i 0 ∷ []) (drop (i + 1) bs) (drop_more bs i 0 c.loop-b-test.true) c.in_err-put.ensures c.from_residual.ensures.1

pub loop-b-preserved : goal.loop-b-preserved
loop-b-preserved c =
    let bs = c.args.bytes.now in
    let i = c.loop-b.b-index in
    more c.loop-b.invariant (get_or bs i 0 ∷ []) (drop (i + 1) bs) (drop_more bs i 0 c.loop-b-test.true) c.in_ok-put.ensures

pub returns : goal.returns
returns c = ends c.loop-b.invariant (drop_all c.loop-b.b-index c.args.bytes.now c.loop-b-test.false)
