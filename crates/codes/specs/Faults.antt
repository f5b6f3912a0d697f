-- The refusals of codes by number and name.
use Rattle.std.specs.Prelude.{ℕ, List, codes}
use Rattle.codes.specs.declared.error.CodeError.{CodeError}
use Rattle.codes.specs.declared.error.CodeError.TheVariants.{CodeTooLong, NoCode, BufferTooShort}
use Rattle.codes.specs.declared.error.EncodeError.{EncodeError}
use Rattle.codes.specs.declared.error.EncodeError.TheVariants.{Formatter, Code}
use Rattle.refusal.specs.Refusals.{deep_number, deep_name}
use Rattle.refusal.specs.declared.error.DeepError.{DeepError}
use Rattle.refusal.specs.declared.error.Layer.{Layer}
use Rattle.refusal.specs.declared.error.Layer.TheVariants.{Template, Book}
use Rattle.refusal.specs.declared.error.ParseError.{ParseError}

abbrev pub code_number : CodeError → ℕ
code_number CodeTooLong = 20
code_number NoCode = 21
code_number BufferTooShort = 22

abbrev pub code_name : CodeError → List ℕ
code_name CodeTooLong = codes "CodeTooLong"
code_name NoCode = codes "NoCode"
code_name BufferTooShort = codes "BufferTooShort"

abbrev pub encode_number : EncodeError → ℕ
encode_number (Formatter e) = deep_number e.kind
encode_number (Code e) = code_number e

abbrev pub encode_name : EncodeError → List ℕ
encode_name (Formatter e) = deep_name e.kind
encode_name (Code e) = code_name e

abbrev pub encode_layer : EncodeError → Layer
encode_layer (Formatter e) = Template
encode_layer (Code e) = Book

abbrev pub of_formatter : ParseError DeepError → EncodeError
of_formatter e = Formatter e
