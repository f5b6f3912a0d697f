-- A `$` stands first: what stands up to the next one is the power.
use Rattle.std.proofs.Common.{◌≡◌, get_or, Ok, Err, ap, ◌∙◌, arith}
use Rattle.grammar.specs.Results.{Fault}
use Rattle.std.proofs.lemmas.Result.{err_from_is_err_and}
use Rattle.templates.proofs.Ones.{rest_length}
use Rattle.templates.proofs.Ways.{prefix_none, prefix_some}
use Rattle.templates.proofs.frames.parse_prefix.Goals as goal

pub returns-in_default-first_byte : goal.returns-in_default-first_byte
returns-in_default-first_byte c =
    let f : get_or c.args.text.now 0 0 ≡ 36 = omega arith in
    record { within = tt; value = ap (λ (x : Fault). Err x) c.new.ensures ∙ prefix_none c.args.text.now f c.in_default-first_byte.ensures.value }

pub returns-in_err-left : goal.returns-in_err-left
returns-in_err-left c =
    let f : get_or c.args.text.now 0 0 ≡ 36 = omega arith in
    let p = err_from_is_err_and c.from_residual.result c.from_residual.ensures.1 in
    rw (p.1, p.2) (record {
      within = tt;
      value = prefix_some c.args.text.now c.in-Some.at (Err _) f c.in-Some.ensures.value c.in_err-left.ensures;
    })

pub returns : goal.returns
returns c =
    let f : get_or c.args.text.now 0 0 ≡ 36 = omega arith in
    record {
      within = omega (arith, rest_length c.args.text.now 1, c.in-Some.ensures.within);
      value = prefix_some c.args.text.now c.in-Some.at (Ok c.in_ok-left.left) f c.in-Some.ensures.value c.in_ok-left.ensures;
    }
