-- The refusals of a definition with an engine by number, name and layer.
use Rattle.std.specs.Prelude.{ℕ, List, codes}
use Rattle.engine.specs.Refusals.{pattern_number, pattern_name}
use Rattle.refusal.specs.Refusals.{either_number, either_name, either_layer, deep_number, deep_name}
use Rattle.refusal.specs.declared.error.Layer.{Layer}
use Rattle.refusal.specs.declared.error.Layer.TheVariants.{Template, Pattern, Book}
use Rattle.displays.specs.declared.error.ConversionError.{ConversionError}
use Rattle.displays.specs.declared.error.ConversionError.TheVariants.{Definition, Regex, FormatterParseError, FormatterExpectsRegex, RegexNotEnoughCaptures}

abbrev pub conversion_number : ConversionError → ℕ
conversion_number (Definition e) = either_number e.kind
conversion_number (Regex e) = pattern_number e
conversion_number (FormatterParseError e) = deep_number e.kind
conversion_number FormatterExpectsRegex = 13
conversion_number RegexNotEnoughCaptures = 14

abbrev pub conversion_name : ConversionError → List ℕ
conversion_name (Definition e) = either_name e.kind
conversion_name (Regex e) = pattern_name e
conversion_name (FormatterParseError e) = deep_name e.kind
conversion_name FormatterExpectsRegex = codes "FormatterExpectsRegex"
conversion_name RegexNotEnoughCaptures = codes "RegexNotEnoughCaptures"

abbrev pub conversion_layer : ConversionError → Layer
conversion_layer (Definition e) = either_layer e.kind
conversion_layer (Regex e) = Pattern
conversion_layer (FormatterParseError e) = Template
conversion_layer FormatterExpectsRegex = Book
conversion_layer RegexNotEnoughCaptures = Book
