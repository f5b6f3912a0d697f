use Rattle.std.proofs.Common.{◌≡◌, Ok, ap, ◌∙◌, arith}
use Rattle.std.proofs.lemmas.Result.{err_from_is_err_and}
use Rattle.std.proofs.lemmas.Grind.{common_steps}
use Rattle.formatter.specs.Views.{greater_of}
use Rattle.formatter.proofs.Halving.{no_longer}
use Rattle.formatter.proofs.Separators.{size_is, text_is, separator_fails, separator_reads}
use Rattle.formatter.proofs.parse.parse_separator.Goals as goal

pub slice_bounds-parse_template-end : goal.slice_bounds-parse_template-end
slice_bounds-parse_template-end c =
    omega (arith, no_longer 124 c.args.typed.now, size_is c.args.typed.now c.args.scratch.now c.halve.new.out c.halve.result c.unwrap_or-size.result (omega arith) c.halve.ensures.size c.unwrap_or-size.ensures)

pub returns-in_err-read : goal.returns-in_err-read
returns-in_err-read c =
    let p = err_from_is_err_and c.from_residual.result c.from_residual.ensures.1 in
    let is = text_is c.args.typed.now c.args.scratch.now c.halve.new.out c.halve.result c.unwrap_or-size.result (omega arith) c.halve.ensures.size c.unwrap_or-size.ensures c.halve.ensures.bytes in
    rw (p.1, p.2) (separator_fails c.args.most c.args.typed.now _ is c.requires _ c.in_err-read.ensures)

pub returns : goal.returns
returns c =
    let is = text_is c.args.typed.now c.args.scratch.now c.halve.new.out c.halve.result c.unwrap_or-size.result (omega arith) c.halve.ensures.size c.unwrap_or-size.ensures c.halve.ensures.bytes in
    ap (λ o. Ok o) (let m : c.max.result ≡ greater_of c.args.most c.in_ok-read.read.max_capture = grind (arith, common_steps) in m) ∙ separator_reads c.args.most c.args.typed.now _ is c.requires c.in_ok-read.read c.in_ok-read.ensures
