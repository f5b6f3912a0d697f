use Rattle.std.proofs.Common.{Err, length, sym, subst, ap, ◌∙◌, inl, arith}
use Rattle.std.specs.Iterator.Adapters.{enumerate_count, enumerate_source}
use Rattle.std.proofs.lemmas.Result.{err_from_is_err_and}
use Rattle.controls.specs.Views.{shape}
use Rattle.templates.specs.Outputs.{outputs_left}
use Rattle.formatter.specs.Views.{in_piece}
use Rattle.formatter.proofs.Outputs.{AllShort, all_short, rest_short, outputs_fit}
use Rattle.formatter.proofs.Pieces.{between_from, goes, fails}
use Rattle.formatter.proofs.parse.parse_pieces.Goals as goal

pub loop-number-init-derived : goal.loop-number-init-derived
loop-number-init-derived c =
    let gives = c.into_iter-number-iterator.ensures.into_iter_gives in
    let left = ap (λ it. outputs_left (enumerate_source it)) gives ∙ ap outputs_left c.enumerate-number-items.ensures.source ∙ c.outputs.ensures in
    let none = ap enumerate_count gives ∙ c.enumerate-number-items.ensures.count in
    ((tt, tt, inl (omega (arith, ap length left, none, outputs_fit c.args.parts.now))), tt)

pub loop-number-init : goal.loop-number-init
loop-number-init c =
    let gives = c.into_iter-number-iterator.ensures.into_iter_gives in
    let left = ap (λ it. outputs_left (enumerate_source it)) gives ∙ ap outputs_left c.enumerate-number-items.ensures.source ∙ c.outputs.ensures in
    let none = ap enumerate_count gives ∙ c.enumerate-number-items.ensures.count in (
      (tt, tt, inl (omega (arith, ap length left, none, outputs_fit c.args.parts.now))),
      tt,
      subst AllShort (sym left) (all_short c.args.parts.now c.requires),
      ap (λ k. between_from k c.args.parts.now.max_capture (outputs_left (enumerate_source c.into_iter-number-iterator.result))) none ∙ ap (between_from 0 c.args.parts.now.max_capture) left,
    )

pub returns-in_err-greatest : goal.returns-in_err-greatest
returns-in_err-greatest c =
    let l = c.loop-number in
    let p = err_from_is_err_and c.from_residual.result c.from_residual.ensures.1 in
    let s = c.in-Some.ensures.steps in
    p.1 ∙ ap (λ e. Err e) p.2 ∙ sym (fails (enumerate_count l.number-iterator) l.greatest (shape c.in-Some.piece) _ _ (c.in_err-greatest.ensures ∙ ap (λ k. in_piece k l.greatest (shape c.in-Some.piece)) s.1)) ∙ ap (between_from (enumerate_count l.number-iterator) l.greatest) (sym s.0) ∙ l.invariant.3

pub loop-number-preserved : goal.loop-number-preserved
loop-number-preserved c =
    let l = c.loop-number in
    let s = c.in-Some.ensures.steps in (
      c.in-Some.ensures.goes.keeps,
      tt,
      rest_short c.in-Some.piece _ (subst AllShort s.0 l.invariant.2),
      ap (λ k. between_from k c.in_ok-greatest.greatest (outputs_left (enumerate_source c.next.new.self))) s.2
          ∙ sym (goes (enumerate_count l.number-iterator) l.greatest c.in_ok-greatest.greatest (shape c.in-Some.piece) _ (c.in_ok-greatest.ensures ∙ ap (λ k. in_piece k l.greatest (shape c.in-Some.piece)) s.1)) ∙ ap (between_from (enumerate_count l.number-iterator) l.greatest) (sym s.0) ∙ l.invariant.3,
    )
