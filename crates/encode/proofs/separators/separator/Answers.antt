use Rattle.std.proofs.Common.{◌≤◌, length, sym, ap, ◌∙◌, arith}
use Rattle.formatter.proofs.Separators.{text_is}
use Rattle.templates.specs.Views.{seen_formatter}
use Rattle.encode.proofs.Readings.{separator_pathed, separator_code_lem}
use Rattle.encode.proofs.separators.separator.Goals as goal

pub framed_pieces-requires : goal.framed_pieces-requires
framed_pieces-requires c =
    let room : length c.args.typed.now ≤ length c.args.scratch.now = omega arith in
    let is = text_is c.args.typed.now c.args.scratch.now c.halve.new.out c.halve.result c.unwrap_or-size.result room c.halve.ensures.size c.unwrap_or-size.ensures c.halve.ensures.bytes in
    separator_pathed c.args.typed.now _ is c.requires.0 c.requires.1 c.unwrap-read.result (sym (ap seen_formatter c.unwrap-read.ensures) ∙ c.parse_template.ensures)

pub returns : goal.returns
returns c =
    let room : length c.args.typed.now ≤ length c.args.scratch.now = omega arith in
    let is = text_is c.args.typed.now c.args.scratch.now c.halve.new.out c.halve.result c.unwrap_or-size.result room c.halve.ensures.size c.unwrap_or-size.ensures c.halve.ensures.bytes in
    let e = separator_code_lem c.args.typed.now _ is c.requires.0 c.requires.1 c.unwrap-read.result (sym (ap seen_formatter c.unwrap-read.ensures) ∙ c.parse_template.ensures) in
    rw e c.framed_pieces.ensures
