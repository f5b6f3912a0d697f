use Rattle.std.proofs.Common.{[], ◌∷◌, map, sym, ap, ◌∙◌}
use Rattle.codes.specs.Code.{word}
use Rattle.controls.specs.Steps.{steps_left}
use Rattle.controls.proofs.Strides.{steps_bits}
use Rattle.grammar.specs.Numbers.{bits}
use Rattle.grammar.specs.declared.defns.ChildIndex.{ChildIndex}
use Rattle.encode.specs.Shapes.{paces}
use Rattle.pen.proofs.Pages.{begun, more, stops, ends}
use Rattle.encode.proofs.steps.steps.Goals as goal

pub loop-index-init : goal.loop-index-init
loop-index-init c = (
  tt,
  tt,
  begun c.args.pen.now (ap (λ h. paces (map (λ (x : ChildIndex). bits x.0) (steps_left h))) c.into_iter-index-iterator.ensures.into_iter_gives
      ∙ ap (λ is. paces (map (λ (x : ChildIndex). bits x.0) is)) c.of-index-items.ensures ∙ ap paces (steps_bits c.requires.is 1)),
)

pub returns-in_err-command : goal.returns-in_err-command
returns-in_err-command c =
    let rest = paces (map (λ (x : ChildIndex). bits x.0) (steps_left c.next.new.self)) in
    stops c.loop-index.invariant.2 (3 ∷ word c.bits.result []) rest (ap (λ is. paces (map (λ (x : ChildIndex). bits x.0) is)) c.in-Some.ensures.steps ∙ ap (λ n. 3 ∷ word n rest) (sym c.bits.ensures)) c.in_err-command.ensures c.from_residual.ensures.1

pub loop-index-preserved : goal.loop-index-preserved
loop-index-preserved c =
    let rest = paces (map (λ (x : ChildIndex). bits x.0) (steps_left c.next.new.self)) in
    (tt, tt, more c.loop-index.invariant.2 (3 ∷ word c.bits.result []) rest (ap (λ is. paces (map (λ (x : ChildIndex). bits x.0) is)) c.in-Some.ensures.steps ∙ ap (λ n. 3 ∷ word n rest) (sym c.bits.ensures)) c.in_ok-command.ensures)

pub returns : goal.returns
returns c = ends c.loop-index.invariant.2 (ap (λ is. paces (map (λ (x : ChildIndex). bits x.0) is)) c.in-None.ensures.steps.0)
