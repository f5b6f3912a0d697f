-- The refusals of a book by number, name and layer.
use Rattle.std.specs.Prelude.{ℕ, List, codes}
use Rattle.codes.specs.Faults.{code_number, code_name}
use Rattle.displays.specs.Refusals.{conversion_number, conversion_name, conversion_layer}
use Rattle.formatter.specs.Fallbacks.{fallback_number, fallback_name, fallback_layer}
use Rattle.refusal.specs.Refusals.{matcher_number, matcher_name}
use Rattle.refusal.specs.declared.error.Layer.{Layer}
use Rattle.refusal.specs.declared.error.Layer.TheVariants.{Matcher as MatcherLayer, Book}
use Rattle.register.specs.declared.error.BookError.{BookError}
use Rattle.register.specs.declared.error.BookError.TheVariants.{Definition, Matcher, Fallback, Code, AlreadyStands, BookFull, NoneStands}

abbrev pub book_number : BookError → ℕ
book_number (Definition e) = conversion_number e
book_number (Matcher e) = matcher_number e.kind
book_number (Fallback e) = fallback_number e
book_number (Code e) = code_number e
book_number AlreadyStands = 31
book_number BookFull = 30
book_number NoneStands = 32

abbrev pub book_name : BookError → List ℕ
book_name (Definition e) = conversion_name e
book_name (Matcher e) = matcher_name e.kind
book_name (Fallback e) = fallback_name e
book_name (Code e) = code_name e
book_name AlreadyStands = codes "AlreadyStands"
book_name BookFull = codes "BookFull"
book_name NoneStands = codes "NoneStands"

abbrev pub book_layer : BookError → Layer
book_layer (Definition e) = conversion_layer e
book_layer (Matcher e) = MatcherLayer
book_layer (Fallback e) = fallback_layer e
book_layer (Code e) = Book
book_layer AlreadyStands = Book
book_layer BookFull = Book
book_layer NoneStands = Book
