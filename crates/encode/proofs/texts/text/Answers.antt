use Rattle.std.proofs.Common.{[], ◌∷◌, sym, ap, ◌∙◌}
use Rattle.controls.specs.Halves.{bytes_left}
use Rattle.encode.specs.Shapes.{letters}
use Rattle.pen.proofs.Pages.{begun, more, stops, ends}
use Rattle.encode.proofs.texts.text.Goals as goal

pub loop-b-init : goal.loop-b-init
loop-b-init c = (tt, tt, begun c.args.pen.now (ap (λ h. letters (bytes_left h)) c.into_iter-b-iterator.ensures.into_iter_gives ∙ ap letters c.of-b-items.ensures))

pub returns-in_err-put_both : goal.returns-in_err-put_both
returns-in_err-put_both c =
    let rest = letters (bytes_left c.next.new.self) in
    stops c.loop-b.invariant.2 (c.number.result ∷ c.in-Some.b ∷ []) rest (ap letters c.in-Some.ensures.steps ∙ ap (λ k. k ∷ c.in-Some.b ∷ rest) (sym c.number.ensures)) c.in_err-put_both.ensures c.from_residual.ensures.1

pub loop-b-preserved : goal.loop-b-preserved
loop-b-preserved c =
    let rest = letters (bytes_left c.next.new.self) in
    (tt, tt, more c.loop-b.invariant.2 (c.number.result ∷ c.in-Some.b ∷ []) rest (ap letters c.in-Some.ensures.steps ∙ ap (λ k. k ∷ c.in-Some.b ∷ rest) (sym c.number.ensures)) c.in_ok-put_both.ensures)

pub returns : goal.returns
returns c = ends c.loop-b.invariant.2 (ap letters c.in-None.ensures.steps.0)
