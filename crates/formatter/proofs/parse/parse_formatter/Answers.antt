use Rattle.std.proofs.Common.{◌≡◌, Ok}
use Rattle.std.proofs.lemmas.Result.{err_from_is_err_and}
use Rattle.grammar.specs.Templates.{formatter_at}
use Rattle.formatter.specs.Views.{seen_formatter, formatter_read}
use Rattle.formatter.proofs.Accepting.{read_as, whole_reading_lem}
use Rattle.formatter.proofs.Walk.{outputs_walk}
use Rattle.formatter.proofs.Framed.{known}
use Rattle.formatter.proofs.Whole.{template_fails, pieces_fail, pieces_read}
use Rattle.formatter.proofs.parse.parse_formatter.Goals as goal

pub returns-in_err-parts : goal.returns-in_err-parts
returns-in_err-parts c =
    let p = err_from_is_err_and c.from_residual.result c.from_residual.ensures.1 in
    let e : seen_formatter c.from_residual.result ≡ formatter_read c.args.text.now = rw (p.1, p.2) (template_fails _ (formatter_at c.args.text.now) _ c.in_err-parts.ensures) in
    record { exact = e; whole = whole_reading_lem c.args.text.now c.from_residual.result e; reading = read_as _ _ e; walk = outputs_walk }

pub parse_pieces-requires : goal.parse_pieces-requires
parse_pieces-requires c = (known c.args.text.now c.in_ok-parts.parts c.in_ok-parts.ensures).short

pub returns-in_err-max_capture : goal.returns-in_err-max_capture
returns-in_err-max_capture c =
    let p = err_from_is_err_and c.from_residual-in_err-max_capture.result c.from_residual-in_err-max_capture.ensures.1 in
    let k = known c.args.text.now c.in_ok-parts.parts c.in_ok-parts.ensures in
    let e : seen_formatter c.from_residual-in_err-max_capture.result ≡ formatter_read c.args.text.now = rw (p.1, p.2) (pieces_fail c.args.text.now c.in_ok-parts.parts k _ c.in_err-max_capture.ensures) in
    record { exact = e; whole = whole_reading_lem c.args.text.now c.from_residual-in_err-max_capture.result e; reading = read_as _ _ e; walk = outputs_walk }

pub returns : goal.returns
returns c =
    let k = known c.args.text.now c.in_ok-parts.parts c.in_ok-parts.ensures in
    let e = pieces_read c.args.text.now c.in_ok-parts.parts k c.in_ok-max_capture.max_capture c.in_ok-max_capture.ensures in
    record { exact = e; whole = whole_reading_lem c.args.text.now (Ok (record { parts = c.in_ok-parts.parts; max_capture = c.in_ok-max_capture.max_capture })) e; reading = read_as _ _ e; walk = outputs_walk }
