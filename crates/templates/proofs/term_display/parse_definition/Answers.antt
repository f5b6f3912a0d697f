-- Matcher and template were read, and a capture wants a pattern.
use Rattle.std.proofs.Common.{◌≡◌, true, ◌⊎◌, None, Err, ap, ◌∙◌, inl, inr}
use Rattle.std.proofs.lemmas.Result.{err_from_is_err_and}
use Rattle.refusal.specs.declared.error.EitherError.{EitherError}
use Rattle.refusal.specs.declared.error.ParseError.{ParseError}
use Rattle.matchers.specs.Views.{matched}
use Rattle.matchers.specs.declared.defns_const.MatcherKindConst.TheVariants.{Regex}
use Rattle.templates.specs.Views.{seen, seen_definition}
use Rattle.templates.proofs.Joined.{template_long, matcher_refused, both_accepted}
use Rattle.templates.proofs.term_display.parse_definition.Goals as goal
use Rattle.templates.proofs.term_display.parse_definition.Goals.{in-Exact+in-None-1, in-Regex-1}

pub returns-then-template-gt-TEMPLATE_LIMIT : goal.returns-then-template-gt-TEMPLATE_LIMIT
returns-then-template-gt-TEMPLATE_LIMIT c =
    ap (λ (x : ParseError EitherError). Err x) c.new-then-template-gt-TEMPLATE_LIMIT.ensures ∙ template_long c.args.matcher.now c.args.template.now c.if-matcher-gt-MATCHER_LIMIT.false c.if-template-gt-TEMPLATE_LIMIT.true

pub returns-in_err-read : goal.returns-in_err-read
returns-in_err-read c =
    let p = err_from_is_err_and c.from_residual.result c.from_residual.ensures.1 in
    ap seen_definition p.1 ∙ ap (λ (x : ParseError EitherError). Err x) p.2 ∙ matcher_refused c.args.matcher.now c.args.template.now c.if-matcher-gt-MATCHER_LIMIT.false c.if-template-gt-TEMPLATE_LIMIT.false _ c.in_err-read.ensures

pub returns : goal.returns
returns c =
    let w : ((matched c.in_ok-read.read).pattern ≡ true) ⊎ (c.in_ok-formatter.formatter.max_capture ≡ None) =
    elim c.match-read.branch [ in-Exact+in-None-1 w ↦ inr (cc) | in-Regex-1 w ↦ inl (let k : c.in_ok-read.read.kind ≡ Regex = cc in rw k) ] in
    both_accepted c.args.matcher.now c.args.template.now c.if-matcher-gt-MATCHER_LIMIT.false c.if-template-gt-TEMPLATE_LIMIT.false (matched c.in_ok-read.read) (seen c.in_ok-formatter.formatter) c.in_ok-read.ensures c.in_ok-formatter.ensures w
