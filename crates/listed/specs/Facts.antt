-- The rule that rows give: the unlawful ones, and those against an earlier kept one, are passed over.
use Rattle.std.specs.Prelude.{ℕ, Bool, true, false, cond, not, ◌&&◌, ◌||◌, List, [], ◌∷◌, length, Some, None, Option, ◌==◌, nat_le}
use Rattle.std.specs.List.{list_all}
use Rattle.std.specs.Str.{bytes_eq}
use Rattle.engine.specs.declared.span.Span.{Span}
use Rattle.engine.specs.Rules.{Rule}

-- what a row says: the text has that count, and matches the name with these spans
pub record Fact : Type 0 where
  pub text : List ℕ
  pub count : ℕ
  pub name : List ℕ
  pub spans : List (Option Span)

-- ---- lawful rows
abbrev pub lies : ℕ → Option Span → Bool
lies size None = true
lies size (Some s) = nat_le s.from s.to && nat_le s.to size

abbrev pub all_lie : ℕ → List (Option Span) → Bool
all_lie size l = list_all (lies size) l

abbrev pub is_whole : ℕ → List (Option Span) → Bool
is_whole size [] = false
is_whole size (None ∷ l) = false
is_whole size (Some s ∷ l) = s.from == 0 && s.to == size

-- as many spans as the count, a name of at most 255 bytes, span 0 the whole of it, and the others in it
abbrev pub lawful_row : Fact → Bool
lawful_row f = length f.spans == f.count && (nat_le (length f.name) 255 && (is_whole (length f.name) f.spans && all_lie (length f.name) f.spans))

-- ---- rows against each other
abbrev pub same_span : Option Span → Option Span → Bool
same_span None None = true
same_span None (Some t) = false
same_span (Some s) None = false
same_span (Some s) (Some t) = s.from == t.from && s.to == t.to

abbrev pub same_spans : List (Option Span) → List (Option Span) → Bool
same_spans [] [] = true
same_spans [] (t ∷ ts) = false
same_spans (s ∷ ss) [] = false
same_spans (s ∷ ss) (t ∷ ts) = same_span s t && same_spans ss ts

-- another count for the same text, or other spans for the same text and name
abbrev pub against : Fact → Fact → Bool
against f g = bytes_eq f.text g.text && (not (f.count == g.count) || (bytes_eq f.name g.name && not (same_spans f.spans g.spans)))

abbrev pub agrees : Fact → List Fact → Bool
agrees f [] = true
agrees f (g ∷ gs) = not (against f g) && agrees f gs

-- ---- the rows that are kept, where those in `earlier` are kept already
abbrev pub kept_from : List Fact → List Fact → List Fact
kept_from earlier [] = []
kept_from earlier (f ∷ fs) = cond (lawful_row f && agrees f earlier) (f ∷ kept_from (f ∷ earlier) fs) (kept_from earlier fs)

abbrev pub kept : List Fact → List Fact
kept fs = kept_from [] fs

-- ---- what rows say
abbrev pub count_in : List Fact → List ℕ → Option ℕ
count_in [] text = None
count_in (f ∷ fs) text = cond (bytes_eq f.text text) (Some f.count) (count_in fs text)

abbrev pub spans_in : List Fact → List ℕ → List ℕ → Option (List (Option Span))
spans_in [] text name = None
spans_in (f ∷ fs) text name = cond (bytes_eq f.text text && bytes_eq f.name name) (Some f.spans) (spans_in fs text name)

-- the rule of the kept rows
abbrev pub rule_of : List Fact → Rule
rule_of fs = record { count = count_in (kept fs); spans = spans_in (kept fs) }
