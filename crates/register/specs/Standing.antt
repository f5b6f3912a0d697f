-- Definitions as they stand, and which of them shows a term.
use Rattle.std.specs.Prelude.{ℕ, Bool, true, false, cond, not, ◌&&◌, List, [], ◌∷◌, length, Some, None, Option, ◌==◌}
use Rattle.std.specs.Str.{bytes_eq}
use Rattle.engine.specs.Rules.{Rule}
use Rattle.engine.specs.declared.span.Span.{Span}
use Rattle.grammar.specs.Matchers.{Matched}
use Rattle.grammar.specs.Readings.{Template}
use Rattle.lines.specs.Chosen.{Chosen, Choosing, whole}

-- a matcher with the reading of its template
pub record Standing : Type 0 where
  pub matcher : Matched
  pub reading : Template

abbrev pub same_flag : Bool → Bool → Bool
same_flag true b = b
same_flag false b = not b

abbrev pub same_count : Option ℕ → Option ℕ → Bool
same_count None None = true
same_count None (Some n) = false
same_count (Some n) None = false
same_count (Some n) (Some k) = n == k

-- two matchers are equal: both exact or both patterns, with equal data and equal child counts
abbrev pub same_matcher : Matched → Matched → Bool
same_matcher a b = same_flag a.pattern b.pattern && (bytes_eq a.bytes b.bytes && same_count a.children b.children)

-- an exact matcher for that name, with that child count or none
abbrev pub exactly : List ℕ → Option ℕ → Matched → Bool
exactly name count m = same_matcher m (record { pattern = false; bytes = name; children = count })

-- a matcher for that many children, or for any number
abbrev pub counts : ℕ → Option ℕ → Bool
counts n None = true
counts n (Some k) = k == n

-- the first of the definitions with an exact matcher for a name, with a child count or none
abbrev pub first_exact : List ℕ → Option ℕ → List Standing → Option Chosen
first_exact name count [] = None
first_exact name count (x ∷ xs) = cond (exactly name count x.matcher) (Some (record { reading = x.reading; spans = whole (length name) })) (first_exact name count xs)

abbrev pub spans_or : Template → Option (List (Option Span)) → Option Chosen → Option Chosen
spans_or r None later = later
spans_or r (Some l) later = Some (record { reading = r; spans = l })

-- the earliest of the patterns for that many children that matches the name
abbrev pub first_match : Rule → List ℕ → ℕ → List Standing → Option Chosen
first_match rule name n [] = None
first_match rule name n (x ∷ xs) =
    cond (x.matcher.pattern && counts n x.matcher.children) (spans_or x.reading (rule.spans x.matcher.bytes name) (first_match rule name n xs)) (first_match rule name n xs)

abbrev pub or_else : {A : Type 0} → Option A → A → A
or_else None y = y
or_else (Some x) y = x

-- exact with that child count, exact without one, the earliest matching pattern, the fallback
abbrev pub choosing : Rule → List Standing → Template → Choosing
choosing rule xs fallback name n =
    or_else (first_exact name (Some n) xs) (or_else (first_exact name None xs) (or_else (first_match rule name n xs) (record { reading = fallback; spans = whole (length name) })))
