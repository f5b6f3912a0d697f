use Rattle.std.proofs.Common.{◌≡◌, true, false, sym, refl, ap, ◌∙◌}
use Rattle.std.proofs.lemmas.Result.{err_from_is_err_and}
use Rattle.std.specs.Result.{result_err}
use Rattle.matchers.specs.Views.{matched, is_pattern}
use Rattle.templates.specs.Views.{seen}
use Rattle.displays.proofs.Sequel.{definition_refused, refused_by, accepted_by, rest_exact, rest_pattern}
use Rattle.displays.proofs.check.check_definition.Goals as goal

pub returns-in_err-display-clause-refusal : goal.returns-in_err-display-clause-refusal
returns-in_err-display-clause-refusal g c =
    let p = err_from_is_err_and c.from_residual.result c.from_residual.ensures.1 in
    rw (p.1, p.2) (definition_refused (g.E.PatternEngine.view c.args.engine.now) c.args.matcher.now c.args.template.now _ c.in_err-display.ensures)

pub returns-in_err-check_captures-in-Exact-clause-refusal : goal.returns-in_err-check_captures-in-Exact-clause-refusal
returns-in_err-check_captures-in-Exact-clause-refusal g c =
    let p = err_from_is_err_and c.from_residual-in_err-check_captures-in-Exact.result c.from_residual-in_err-check_captures-in-Exact.ensures.1 in
    let v = g.E.PatternEngine.view c.args.engine.now in
    let d = c.in_ok-display.display in
    let e = rest_exact v (matched d.matcher) c.args.template.now (ap is_pattern c.in-Exact.is) in
    rw (p.1, p.2) (refused_by v c.args.matcher.now c.args.template.now (matched d.matcher) (seen d.formatter) _ c.in_ok-display.ensures (ap result_err c.in_err-check_captures-in-Exact.ensures ∙ sym (ap result_err e)))

pub returns-in_err-ticket-in-Regex-clause-refusal : goal.returns-in_err-ticket-in-Regex-clause-refusal
returns-in_err-ticket-in-Regex-clause-refusal g c =
    let p = err_from_is_err_and c.from_residual-in_err-ticket-in-Regex.result c.from_residual-in_err-ticket-in-Regex.ensures.1 in
    let v = g.E.PatternEngine.view c.args.engine.now in
    let d = c.in_ok-display.display in
    let e = rest_pattern v (matched d.matcher) c.args.template.now (ap is_pattern c.in-Regex.is) in
    rw (p.1, p.2) (refused_by v c.args.matcher.now c.args.template.now (matched d.matcher) (seen d.formatter) _ c.in_ok-display.ensures (c.in_err-ticket-in-Regex.ensures.refusal ∙ sym (ap result_err e)))

pub returns-in_ok-check_captures-in-Exact : goal.returns-in_ok-check_captures-in-Exact
returns-in_ok-check_captures-in-Exact g c =
    let v = g.E.PatternEngine.view c.args.engine.now in
    let d = c.in_ok-display.display in
    let x : (matched d.matcher).pattern ≡ false = ap is_pattern c.in-Exact.is in
    let e = rest_exact v (matched d.matcher) c.args.template.now x in
    let n = ap result_err c.in_ok-check_captures-in-Exact.ensures ∙ sym (ap result_err e) in
    record {
      fixed = record { rules = refl; sizes = refl };
      refusal = refused_by v c.args.matcher.now c.args.template.now (matched d.matcher) (seen d.formatter) _ c.in_ok-display.ensures n;
      cases = accepted_by v c.args.matcher.now c.args.template.now (matched d.matcher) (seen d.formatter) _ _ _ c.in_ok-display.ensures n (x, λ k. refl);
    }

pub returns-in_ok-ticket-in-Regex : goal.returns-in_ok-ticket-in-Regex
returns-in_ok-ticket-in-Regex g c =
    let v = g.E.PatternEngine.view c.args.engine.now in
    let d = c.in_ok-display.display in
    let x : (matched d.matcher).pattern ≡ true = ap is_pattern c.in-Regex.is in
    let e = rest_pattern v (matched d.matcher) c.args.template.now x in
    let n = c.in_ok-ticket-in-Regex.ensures.refusal ∙ sym (ap result_err e) in
    record {
      fixed = c.check_pattern.ensures.fixed;
      refusal = refused_by v c.args.matcher.now c.args.template.now (matched d.matcher) (seen d.formatter) _ c.in_ok-display.ensures n;
      cases = accepted_by v c.args.matcher.now c.args.template.now (matched d.matcher) (seen d.formatter) _ _ _ c.in_ok-display.ensures n (x, c.in_ok-ticket-in-Regex.ensures.cases);
    }
