-- What the rule of the kept rows says, found without keeping: the first lawful row of a text tells its count.
use Rattle.std.specs.Prelude.{ℕ, Bool, cond, ◌&&◌, List, [], ◌∷◌, Some, None, Option, ◌==◌}
use Rattle.std.specs.Str.{bytes_eq}
use Rattle.engine.specs.declared.span.Span.{Span}
use Rattle.listed.specs.Facts.{Fact, lawful_row}

abbrev pub tells : List ℕ → Fact → Bool
tells text f = bytes_eq f.text text && lawful_row f

abbrev pub first_count : List Fact → List ℕ → Option ℕ
first_count [] text = None
first_count (f ∷ fs) text = cond (tells text f) (Some f.count) (first_count fs text)

-- the first lawful row of a text and a name that has the text's count tells the spans
abbrev pub hits : ℕ → List ℕ → List ℕ → Fact → Bool
hits n text name f = tells text f && (f.count == n && bytes_eq f.name name)

abbrev pub spans_for : ℕ → List Fact → List ℕ → List ℕ → Option (List (Option Span))
spans_for n [] text name = None
spans_for n (f ∷ fs) text name = cond (hits n text name f) (Some f.spans) (spans_for n fs text name)

abbrev pub spans_with : Option ℕ → List Fact → List ℕ → List ℕ → Option (List (Option Span))
spans_with None fs text name = None
spans_with (Some n) fs text name = spans_for n fs text name
