-- A `$` stands last: what stands from the `$` before it on is the power.
use Rattle.std.proofs.Common.{◌-◌, length, take, drop, Ok, Err, ap, ◌∙◌, arith, length-take}
use Rattle.std.proofs.lemmas.List.{take_rest}
use Rattle.std.proofs.lemmas.Result.{err_from_is_err_and}
use Rattle.grammar.specs.Results.{Fault}
use Rattle.templates.proofs.Ways.{suffix_plain, suffix_none, suffix_some}
use Rattle.templates.proofs.frames.parse_suffix.Goals as goal
use Rattle.templates.proofs.frames.parse_suffix.Goals.{in_default-via-then-text-from-lt1, in_default-via-else-text-from-lt1+in_default-1}

pub returns-in_default-clause-value : goal.returns-in_default-clause-value
returns-in_default-clause-value c =
    let xs = c.args.text.now in
    let ds = take (length xs - c.args.from) (drop c.args.from xs) in
    suffix_plain xs c.args.from ds (take_rest xs c.args.from) (λ h e. elim c.in_default.branch [ in_default-via-then-text-from-lt1 w ↦ grind arith | in_default-via-else-text-from-lt1+in_default-1 w ↦ grind arith ])

pub returns-in_default-last_byte-clause-value : goal.returns-in_default-last_byte-clause-value
returns-in_default-last_byte-clause-value c =
    let xs = c.args.text.now in
    let ds = take (length xs - c.args.from) (drop c.args.from xs) in
    ap (λ (x : Fault). Err x) c.new.ensures
    ∙ suffix_none xs c.args.from ds (take_rest xs c.args.from) (omega arith) (omega arith) _ (omega (arith, length-take (length ds - 1) ds)) c.in_default-last_byte.ensures.value

pub returns-in_err-right-clause-value : goal.returns-in_err-right-clause-value
returns-in_err-right-clause-value c =
    let xs = c.args.text.now in
    let ds = take (length xs - c.args.from) (drop c.args.from xs) in
    let p = err_from_is_err_and c.from_residual.result c.from_residual.ensures.1 in
    rw (p.1, p.2)
    (suffix_some xs c.args.from ds (take_rest xs c.args.from) (omega arith) (omega arith) c.in-Some.at _ (Err _) (omega (arith, c.in-Some.ensures.within, length-take (length ds - 1) ds)) (omega (arith, length-take (length ds - 1) ds)) c.in-Some.ensures.value c.in_err-right.ensures)

pub returns-clause-value : goal.returns-clause-value
returns-clause-value c =
    let xs = c.args.text.now in
    let ds = take (length xs - c.args.from) (drop c.args.from xs) in
    suffix_some xs c.args.from ds (take_rest xs c.args.from) (omega arith) (omega arith) c.in-Some.at _ (Ok c.in_ok-right.right) (omega (arith, c.in-Some.ensures.within, length-take (length ds - 1) ds)) (omega (arith, length-take (length ds - 1) ds)) c.in-Some.ensures.value c.in_ok-right.ensures
