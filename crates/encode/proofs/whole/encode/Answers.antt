use Rattle.std.proofs.ByRecursion.{All-from_get_or}
use Rattle.std.specs.List.{AllByRecursion as All}
use Rattle.grammar.specs.Readings.{Byte}
use Rattle.codes.proofs.Calls.{filled_with, encoded_coding, encodes_exactly}
use Rattle.codes.proofs.Templates.{prefix_free_lem}
use Rattle.codes.proofs.Trips.{decodes_accepted, round_trip, same_code, no_code-begins}
use Rattle.codes.proofs.Whole.{decodes}
use Rattle.codes.specs.Acceptable.{Coding}
use Rattle.codes.specs.Calls.{encoded}
use Rattle.codes.specs.declared.error.CodeError.TheVariants.{BufferTooShort}
use Rattle.codes.specs.declared.error.EncodeError.TheVariants.{Code}
use Rattle.encode.proofs.whole.encode.Goals as goal

pub returns : goal.returns
returns c =
    let t = c.args.template.now in
    let bytes : All Byte t = All-from_get_or Byte t 0 (λ i h. (c.type_inv.template i).fits) in
    let a = c.encode_template.ensures.answer in
    let b = c.encode_template.ensures.buffer in
    record {
      answer = a;
      buffer = b;
      coded = filled_with (Code BufferTooShort) (encoded t) c.args.out.now c.encode_template.new.out c.encode_template.result (Coding t) a b (λ w. encoded_coding t w bytes);
      exactly = encodes_exactly t c.args.out.now c.encode_template.result bytes a;
      same = same_code prefix_free_lem;
      begins = no_code-begins prefix_free_lem;
      back = round_trip decodes;
      decoded = decodes_accepted decodes;
    }
