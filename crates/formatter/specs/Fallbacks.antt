-- The template for every name that nothing else matches.
use Rattle.std.specs.Prelude.{ℕ, cond, List, Some, None, Ok, Err, codes, Option, Result, ◌==◌}
use Rattle.formatter.specs.declared.defns.Formatter.{Formatter}
use Rattle.formatter.specs.declared.error.FallbackParseError.{FallbackParseError}
use Rattle.formatter.specs.declared.error.FallbackParseError.TheVariants.{MaxCaptureTooLarge, FormatterParseError}
use Rattle.formatter.specs.Views.{formatter_read, answered}
use Rattle.grammar.specs.Deep.{DeepFault}
use Rattle.grammar.specs.Results.{on_ok, on_err}
use Rattle.refusal.specs.Refusals.{deep_number, deep_name}
use Rattle.refusal.specs.declared.error.Layer.{Layer}
use Rattle.refusal.specs.declared.error.Layer.TheVariants.{Template, Book}
use Rattle.templates.specs.Views.{Summary}

abbrev pub fallback_number : FallbackParseError → ℕ
fallback_number (MaxCaptureTooLarge n) = 15
fallback_number (FormatterParseError e) = deep_number e.kind

abbrev pub fallback_name : FallbackParseError → List ℕ
fallback_name (MaxCaptureTooLarge n) = codes "MaxCaptureTooLarge"
fallback_name (FormatterParseError e) = deep_name e.kind

abbrev pub fallback_layer : FallbackParseError → Layer
fallback_layer (MaxCaptureTooLarge n) = Book
fallback_layer (FormatterParseError e) = Template

abbrev pub fallback_from : DeepFault → FallbackParseError
fallback_from e = FormatterParseError e

-- capture 0 is the whole name; there are no others
abbrev pub serves : Summary × Option ℕ → Option ℕ → Result (Summary × Option ℕ) FallbackParseError
serves f None = Ok f
serves f (Some n) = cond (n == 0) (Ok f) (Err (MaxCaptureTooLarge n))

abbrev pub fallback_read : List ℕ → Result (Summary × Option ℕ) FallbackParseError
fallback_read cs = on_ok (on_err fallback_from (formatter_read cs)) (λ f. serves f f.1)

abbrev pub seen_fallback : Result Formatter FallbackParseError → Result (Summary × Option ℕ) FallbackParseError
seen_fallback (Ok f) = Ok (answered f)
seen_fallback (Err e) = Err e
