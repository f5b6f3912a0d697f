-- Refusals as plain numbers.
use Rattle.std.specs.Prelude.{ℕ}
use Rattle.codes.specs.Faults.{code_number}
use Rattle.codes.specs.declared.error.CodeError.{CodeError}
use Rattle.codes.specs.declared.error.EncodeError.{EncodeError}
use Rattle.codes.specs.declared.error.EncodeError as encode
use Rattle.engine.specs.Refusals.{pattern_number}
use Rattle.engine.specs.declared.error.PatternError.{PatternError}
use Rattle.refusal.specs.Refusals.{formatter_number, matcher_number}
use Rattle.refusal.specs.declared.error.ClosingMark.{ClosingMark}
use Rattle.refusal.specs.declared.error.ClosingMark.TheVariants.{Dollar, Square, Round, Curly}
use Rattle.refusal.specs.declared.error.DeepError.{DeepError}
use Rattle.refusal.specs.declared.error.DeepError as deep
use Rattle.refusal.specs.declared.error.FormatterError.{FormatterError}
use Rattle.refusal.specs.declared.error.FormatterError.TheVariants.{MissingHash, MissingRange, MissingControl, TooManyControl, TooManyChildren, UnexpectedPair, IncorrectControl, InvalidNumber, CaptureOverflow, NumberOutOfRange, TooManyPieces, TemplateTooLong}
use Rattle.refusal.specs.declared.error.InSeparator.{InSeparator}
use Rattle.refusal.specs.declared.error.Layer.{Layer}
use Rattle.refusal.specs.declared.error.Layer.TheVariants.{Template, Matcher, Pattern, Book, Print}
use Rattle.refusal.specs.declared.error.MatcherError.{MatcherError}
use Rattle.refusal.specs.declared.error.ParseError.{ParseError}
use Rattle.refusal.specs.declared.error.PartingMark.{PartingMark}
use Rattle.refusal.specs.declared.error.PartingMark.TheVariants.{Comma, Bar}
use Rattle.refusal.specs.declared.error.Side.{Side}
use Rattle.refusal.specs.declared.error.Side.TheVariants.{Left, Middle, Right}
use Rattle.kernel.specs.declared.records.Fault.{Fault}

abbrev pub layer_of : Layer → ℕ
layer_of Template = 1
layer_of Matcher = 2
layer_of Pattern = 3
layer_of Book = 4
layer_of Print = 5

-- the first byte of a mark
abbrev pub closing_of : ClosingMark → ℕ
closing_of Dollar = 36
closing_of Square = 93
closing_of Round = 41
closing_of Curly = 125

abbrev pub parting_of : PartingMark → ℕ
parting_of Comma = 44
parting_of Bar = 124

-- the mark that a fault names, 0 where it names none
abbrev pub mark_of : FormatterError → ℕ
mark_of MissingHash = 0
mark_of MissingRange = 0
mark_of (MissingControl m) = closing_of m
mark_of (TooManyControl m) = parting_of m
mark_of TooManyChildren = 0
mark_of UnexpectedPair = 0
mark_of IncorrectControl = 0
mark_of InvalidNumber = 0
mark_of CaptureOverflow = 0
mark_of NumberOutOfRange = 0
mark_of TooManyPieces = 0
mark_of TemplateTooLong = 0

abbrev pub side_of : Side → ℕ
side_of Left = 1
side_of Middle = 2
side_of Right = 3

-- nothing is refused
abbrev pub accepted : Fault
accepted = record { number = 0; layer = 0; mark = 0; side = 0; piece = 0; place = 0; length = 0 }

-- a refusal that no part of a text is at fault for
abbrev pub bare : ℕ → Layer → Fault
bare n l = record { number = n; layer = layer_of l; mark = 0; side = 0; piece = 0; place = 0; length = 0 }

-- a refusal with the n bytes from a place on that are at fault
abbrev pub located : ℕ → Layer → ℕ → ℕ → Fault
located number l place n = record { number = number; layer = layer_of l; mark = 0; side = 0; piece = 0; place = place; length = n }

abbrev pub of_formatter : ParseError FormatterError → Fault
of_formatter e = record { number = formatter_number e.kind; layer = layer_of Template; mark = mark_of e.kind; side = 0; piece = 0; place = e.place; length = e.length }

-- a separator's fault, with the repeat's number and the side
abbrev pub of_separator : InSeparator → Fault
of_separator s = record {
  number = formatter_number s.fault.kind;
  layer = layer_of Template;
  mark = mark_of s.fault.kind;
  side = side_of s.side;
  piece = s.piece;
  place = s.fault.place;
  length = s.fault.length;
}

-- a fault of the template, or of a separator, then with the repeat's number and the side
abbrev pub deep_by : ℕ → ℕ → DeepError → Fault
deep_by place n (deep.TheVariants.Formatter k) = record { number = formatter_number k; layer = layer_of Template; mark = mark_of k; side = 0; piece = 0; place = place; length = n }
deep_by place n (deep.TheVariants.Separator s) = record {
  number = formatter_number s.fault.kind;
  layer = layer_of Template;
  mark = mark_of s.fault.kind;
  side = side_of s.side;
  piece = s.piece;
  place = s.fault.place;
  length = s.fault.length;
}

abbrev pub of_deep : ParseError DeepError → Fault
of_deep e = deep_by e.place e.length e.kind

abbrev pub of_matcher : ParseError MatcherError → Fault
of_matcher e = record { number = matcher_number e.kind; layer = layer_of Matcher; mark = 0; side = 0; piece = 0; place = e.place; length = e.length }

abbrev pub of_code : CodeError → Fault
of_code e = bare (code_number e) Book

abbrev pub of_encode : EncodeError → Fault
of_encode (encode.TheVariants.Formatter e) = of_deep e
of_encode (encode.TheVariants.Code e) = of_code e

abbrev pub of_pattern : PatternError → Fault
of_pattern e = bare (pattern_number e) Pattern
