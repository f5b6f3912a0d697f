-- The bytes of a held text.
use Rattle.std.specs.Prelude.{ℕ, List, take, Some, None, Option}
use Rattle.plain.specs.declared.text.Text.{Text}

abbrev pub chars : Text → List ℕ
chars t = take t.len t.bytes

abbrev pub text_in : Option Text → Option (List ℕ)
text_in None = None
text_in (Some t) = Some (chars t)
