-- What is left gives the whole, turn by turn.
use Rattle.std.proofs.Common.{◌≡◌, ℕ, ◌+◌, ◌≤◌, length, drop, Ok, Err, ap, ◌∙◌, inl, inr, arith}
use Rattle.std.proofs.lemmas.Result.{err_from_is_err_and}
use Rattle.std.proofs.lemmas.List.{take_rest}
use Rattle.std.proofs.lemmas.Grind.{common_steps}
use Rattle.std.proofs.lemmas.Option.{MatchOption-at_some}
use Rattle.grammar.specs.Marks.{unpaired}
use Rattle.grammar.specs.Results.{Fault}
use Rattle.controls.specs.Views.{shape}
use Rattle.templates.specs.Views.{one_more, seen_output}
use Rattle.templates.proofs.Greater.{greater-most}
use Rattle.templates.proofs.Turns.{rest_none, whole_is}
use Rattle.templates.proofs.Words.{Counted, words_refused, text_full, few_still, body_ended, control_full, control_passed}
use Rattle.templates.proofs.bodies.parse_body.Goals as goal
use Rattle.templates.proofs.bodies.parse_body.Goals.{then-words-gt0+in_ok-outputs, else-words-gt0}

pub loop-control-init : goal.loop-control-init
loop-control-init c = (c.requires, omega arith, rest_none c.args.from (drop c.args.from c.args.text.now))

pub returns-in_err-control : goal.returns-in_err-control
returns-in_err-control c =
    let p = err_from_is_err_and c.from_residual.result c.from_residual.ensures.1 in
    let l = c.loop-control in
    let k : c.unpaired-words.result ≡ unpaired 36 (drop l.at c.args.text.now) = rw (take_rest c.args.text.now l.at) at c.unpaired-words.ensures.value in
    p.1 ∙ ap (λ (x : Fault). Err x) p.2 ∙ words_refused c.args.text.now l.at c.unpaired-words.result k l.outputs l.most _ c.in_err-control.ensures.value ∙ l.invariant.2 ∙ whole_is c.args.from (drop c.args.from c.args.text.now)

pub returns-in_err-outputs : goal.returns-in_err-outputs
returns-in_err-outputs c =
    let p = err_from_is_err_and c.from_residual-in_err-outputs.result c.from_residual-in_err-outputs.ensures.1 in
    let l = c.loop-control in
    let k : c.unpaired-words.result ≡ unpaired 36 (drop l.at c.args.text.now) = rw (take_rest c.args.text.now l.at) at c.unpaired-words.ensures.value in
    p.1 ∙ ap (λ (x : Fault). Err x) p.2 ∙ text_full c.args.text.now l.at c.unpaired-words.result k (seen_output c.in_ok-control.control) c.in_ok-control.ensures.value l.outputs l.most _ c.if-words-gt0.true c.in_err-outputs.ensures ∙ l.invariant.2 ∙ whole_is c.args.from (drop c.args.from c.args.text.now)

pub returns-in_default : goal.returns-in_default
returns-in_default c =
    let l = c.loop-control in
    let k : c.unpaired-words.result ≡ unpaired 36 (drop l.at c.args.text.now) = rw (take_rest c.args.text.now l.at) at c.unpaired-words.ensures.value in
    let w : Counted l.outputs l.at c.unpaired-words.result c.if-words-gt0.outputs =
    elim c.if-words-gt0.branch [ then-words-gt0+in_ok-outputs w ↦ inl (w.if-words-gt0.true, ap (λ (x : ℕ). Ok x) w.outputs-is ∙ w.in_ok-outputs.ensures) | else-words-gt0 w ↦ inr (w.if-words-gt0.false, w.outputs-is) ] in
    body_ended c.args.text.now l.at c.unpaired-words.result k (seen_output c.in_ok-control.control) c.in_ok-control.ensures.value l.outputs c.if-words-gt0.outputs l.most l.invariant.1 w (ap seen_output c.in_default.is) ∙ l.invariant.2 ∙ whole_is c.args.from (drop c.args.from c.args.text.now)

pub one_more-requires-in-loop-control : goal.one_more-requires-in-loop-control
one_more-requires-in-loop-control c =
    let l = c.loop-control in
    let k : c.unpaired-words.result ≡ unpaired 36 (drop l.at c.args.text.now) = rw (take_rest c.args.text.now l.at) at c.unpaired-words.ensures.value in
    let w : Counted l.outputs l.at c.unpaired-words.result c.if-words-gt0.outputs =
    elim c.if-words-gt0.branch [ then-words-gt0+in_ok-outputs w ↦ inl (w.if-words-gt0.true, ap (λ (x : ℕ). Ok x) w.outputs-is ∙ w.in_ok-outputs.ensures) | else-words-gt0 w ↦ inr (w.if-words-gt0.false, w.outputs-is) ] in
    few_still c.args.text.now l.at c.unpaired-words.result k (seen_output c.in_ok-control.control) c.in_ok-control.ensures.value l.outputs c.if-words-gt0.outputs l.most l.invariant.1 w

pub returns-in_err-outputs-2 : goal.returns-in_err-outputs-2
returns-in_err-outputs-2 c =
    let p = err_from_is_err_and c.from_residual-in_err-outputs-2.result c.from_residual-in_err-outputs-2.ensures.1 in
    let l = c.loop-control in
    let k : c.unpaired-words.result ≡ unpaired 36 (drop l.at c.args.text.now) = rw (take_rest c.args.text.now l.at) at c.unpaired-words.ensures.value in
    let w : Counted l.outputs l.at c.unpaired-words.result c.if-words-gt0.outputs =
    elim c.if-words-gt0.branch [ then-words-gt0+in_ok-outputs w ↦ inl (w.if-words-gt0.true, ap (λ (x : ℕ). Ok x) w.outputs-is ∙ w.in_ok-outputs.ensures) | else-words-gt0 w ↦ inr (w.if-words-gt0.false, w.outputs-is) ] in
    let full : Err c.in_err-outputs-2.field-0.0 ≡ one_more c.if-words-gt0.outputs (l.at + c.unpaired-words.result) c.in-Some.size = grind (arith, common_steps) in
    p.1 ∙ ap (λ (x : Fault). Err x) p.2 ∙ control_full c.args.text.now l.at c.unpaired-words.result k (seen_output c.in_ok-control.control) c.in_ok-control.ensures.value l.outputs c.if-words-gt0.outputs l.most l.invariant.1 w (shape c.in-Some.piece) c.in-Some.size _ (ap seen_output c.in-Some.is) full ∙ l.invariant.2 ∙ whole_is c.args.from (drop c.args.from c.args.text.now)

pub loop-control-preserved : goal.loop-control-preserved
loop-control-preserved c =
    let l = c.loop-control in
    let k : c.unpaired-words.result ≡ unpaired 36 (drop l.at c.args.text.now) = rw (take_rest c.args.text.now l.at) at c.unpaired-words.ensures.value in
    let w : Counted l.outputs l.at c.unpaired-words.result c.if-words-gt0.outputs =
    elim c.if-words-gt0.branch [ then-words-gt0+in_ok-outputs w ↦ inl (w.if-words-gt0.true, ap (λ (x : ℕ). Ok x) w.outputs-is ∙ w.in_ok-outputs.ensures) | else-words-gt0 w ↦ inr (w.if-words-gt0.false, w.outputs-is) ] in
    let within = MatchOption-at_some _ (λ p. l.at + c.unpaired-words.result + p.1 ≤ length c.args.text.now) (c.in-Some.piece, c.in-Some.size) c.in-Some.is c.in_ok-control.ensures.within in
    let fits : Ok c.in_ok-outputs-2.outputs ≡ one_more c.if-words-gt0.outputs (l.at + c.unpaired-words.result) c.in-Some.size = grind (arith, common_steps) in
    let passed = control_passed c.args.text.now l.at c.unpaired-words.result k (seen_output c.in_ok-control.control) c.in_ok-control.ensures.value l.outputs c.if-words-gt0.outputs l.most l.invariant.1 w (shape c.in-Some.piece) c.in-Some.size c.in_ok-outputs-2.outputs (ap seen_output c.in-Some.is) fits in (
      omega (arith, within),
      passed.0,
      rw (c.greater-most.ensures, greater-most l.most c.in-Some.piece) (passed.1 ∙ l.invariant.2),
    )
