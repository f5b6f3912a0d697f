-- Every refusal by its number and name, and how one kind is carried in another.
use Rattle.std.specs.Prelude.{List, ℕ, codes}
use Rattle.refusal.specs.declared.error.ClosingMark.{ClosingMark}
use Rattle.refusal.specs.declared.error.ClosingMark.TheVariants.{Dollar, Square, Round, Curly}
use Rattle.refusal.specs.declared.error.DeepError.{DeepError}
use Rattle.refusal.specs.declared.error.DeepError as deep
use Rattle.refusal.specs.declared.error.EitherError.{EitherError}
use Rattle.refusal.specs.declared.error.EitherError as either
use Rattle.refusal.specs.declared.error.FormatterError.{FormatterError}
use Rattle.refusal.specs.declared.error.FormatterError.TheVariants.{MissingHash, MissingRange, MissingControl, TooManyControl, TooManyChildren, UnexpectedPair, IncorrectControl, InvalidNumber, CaptureOverflow, NumberOutOfRange, TooManyPieces, TemplateTooLong}
use Rattle.refusal.specs.declared.error.InSeparator.{InSeparator}
use Rattle.refusal.specs.declared.error.Layer.{Layer}
use Rattle.refusal.specs.declared.error.Layer.TheVariants.{Template, Matcher, Pattern, Book, Print}
use Rattle.refusal.specs.declared.error.MatcherError.{MatcherError}
use Rattle.refusal.specs.declared.error.MatcherError.TheVariants.{InvalidChildrenSpec, MatcherTooLong}
use Rattle.refusal.specs.declared.error.ParseError.{ParseError}
use Rattle.refusal.specs.declared.error.PartingMark.{PartingMark}
use Rattle.refusal.specs.declared.error.PartingMark.TheVariants.{Comma, Bar}
use Rattle.refusal.specs.declared.error.Side.{Side}
use Rattle.refusal.specs.declared.error.Side.TheVariants.{Left, Middle, Right}

abbrev pub layer_name : Layer → List ℕ
layer_name Template = codes "template"
layer_name Matcher = codes "matcher"
layer_name Pattern = codes "pattern"
layer_name Book = codes "book"
layer_name Print = codes "print"

abbrev pub closing_bytes : ClosingMark → List ℕ
closing_bytes Dollar = codes "$"
closing_bytes Square = codes "]$"
closing_bytes Round = codes ")$"
closing_bytes Curly = codes "}$"

abbrev pub parting_byte : PartingMark → List ℕ
parting_byte Comma = codes ","
parting_byte Bar = codes "|"

abbrev pub side_name : Side → List ℕ
side_name Left = codes "left"
side_name Middle = codes "middle"
side_name Right = codes "right"

abbrev pub formatter_number : FormatterError → ℕ
formatter_number MissingHash = 1
formatter_number MissingRange = 2
formatter_number (MissingControl m) = 3
formatter_number (TooManyControl m) = 4
formatter_number TooManyChildren = 5
formatter_number UnexpectedPair = 6
formatter_number IncorrectControl = 7
formatter_number InvalidNumber = 8
formatter_number CaptureOverflow = 9
formatter_number NumberOutOfRange = 16
formatter_number TooManyPieces = 17
formatter_number TemplateTooLong = 18

abbrev pub formatter_name : FormatterError → List ℕ
formatter_name MissingHash = codes "MissingHash"
formatter_name MissingRange = codes "MissingRange"
formatter_name (MissingControl m) = codes "MissingControl"
formatter_name (TooManyControl m) = codes "TooManyControl"
formatter_name TooManyChildren = codes "TooManyChildren"
formatter_name UnexpectedPair = codes "UnexpectedPair"
formatter_name IncorrectControl = codes "IncorrectControl"
formatter_name InvalidNumber = codes "InvalidNumber"
formatter_name CaptureOverflow = codes "CaptureOverflow"
formatter_name NumberOutOfRange = codes "NumberOutOfRange"
formatter_name TooManyPieces = codes "TooManyPieces"
formatter_name TemplateTooLong = codes "TemplateTooLong"

abbrev pub matcher_number : MatcherError → ℕ
matcher_number InvalidChildrenSpec = 10
matcher_number MatcherTooLong = 19

abbrev pub matcher_name : MatcherError → List ℕ
matcher_name InvalidChildrenSpec = codes "InvalidChildrenSpec"
matcher_name MatcherTooLong = codes "MatcherTooLong"

abbrev pub either_number : EitherError → ℕ
either_number (either.TheVariants.Formatter e) = formatter_number e
either_number (either.TheVariants.Matcher e) = matcher_number e
either_number either.TheVariants.InvalidCapture = 11

abbrev pub either_name : EitherError → List ℕ
either_name (either.TheVariants.Formatter e) = formatter_name e
either_name (either.TheVariants.Matcher e) = matcher_name e
either_name either.TheVariants.InvalidCapture = codes "InvalidCapture"

abbrev pub either_layer : EitherError → Layer
either_layer (either.TheVariants.Formatter e) = Template
either_layer (either.TheVariants.Matcher e) = Matcher
either_layer either.TheVariants.InvalidCapture = Book

abbrev pub deep_number : DeepError → ℕ
deep_number (deep.TheVariants.Formatter e) = formatter_number e
deep_number (deep.TheVariants.Separator s) = formatter_number s.fault.kind

abbrev pub deep_name : DeepError → List ℕ
deep_name (deep.TheVariants.Formatter e) = formatter_name e
deep_name (deep.TheVariants.Separator s) = formatter_name s.fault.kind

-- so many bytes from a place on, and what is wrong with them
abbrev pub part_at : {K : Type 0} → K → ℕ → ℕ → ParseError K
part_at k place n = record { place = place; length = n; kind = k }

-- the template's own fault, as a fault of the template with its separators
abbrev pub of_template : ParseError FormatterError → ParseError DeepError
of_template e = record { place = e.place; length = e.length; kind = deep.TheVariants.Formatter e.kind }

-- a separator's fault, whole, with place and length as they are in the halved separator
abbrev pub carried : InSeparator → ParseError DeepError
carried e = record { place = e.fault.place; length = e.fault.length; kind = deep.TheVariants.Separator e }

abbrev pub joint_formatter : ParseError FormatterError → ParseError EitherError
joint_formatter e = record { place = e.place; length = e.length; kind = either.TheVariants.Formatter e.kind }

abbrev pub joint_matcher : ParseError MatcherError → ParseError EitherError
joint_matcher e = record { place = e.place; length = e.length; kind = either.TheVariants.Matcher e.kind }
