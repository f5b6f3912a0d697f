use Rattle.std.proofs.Common.{◌+◌, [], ◌∷◌, get_or, drop, refl, ap, sym}
use Rattle.std.proofs.lemmas.List.{drop_more, drop_all}
use Rattle.codes.specs.Code.{word}
use Rattle.encode.specs.Shapes.{words}
use Rattle.pen.proofs.Pages.{begun, more, stops, ends, full}
use Rattle.encode.proofs.commands.command.Goals as goal

pub returns-in_err-put : goal.returns-in_err-put
returns-in_err-put c = rw (← c.number.ensures) (full (words c.args.operands.now) c.in_err-put.ensures c.from_residual.ensures.1)

pub loop-n-init : goal.loop-n-init
loop-n-init c =
    let ns = words c.args.operands.now in
    more (begun c.args.pen.now refl) (c.number.result ∷ []) ns (ap (λ k. k ∷ ns) (sym c.number.ensures)) c.in_ok-put.ensures

pub returns-in_err-word : goal.returns-in_err-word
returns-in_err-word c =
    let ns = c.args.operands.now in
    let i = c.loop-n.n-index in
    stops c.loop-n.invariant (word (get_or ns i 0) []) (words (drop (i + 1) ns)) (ap words (drop_more ns i 0 c.loop-n-test.true)) c.in_err-word.ensures c.from_residual-in_err-word.ensures.1

pub loop-n-preserved : goal.loop-n-preserved
loop-n-preserved c =
    let ns = c.args.operands.now in
    let i = c.loop-n.n-index in
    more c.loop-n.invariant (word (get_or ns i 0) []) (words (drop (i + 1) ns)) (ap words (drop_more ns i 0 c.loop-n-test.true)) c.in_ok-word.ensures

pub returns : goal.returns
returns c = ends c.loop-n.invariant (ap words (drop_all c.loop-n.n-index c.args.operands.now c.loop-n-test.false))
