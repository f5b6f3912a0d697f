-- What a definition is with an engine, or why it is none; and what checking it leaves the engine holding.
use Rattle.std.specs.Prelude.{◌≡◌, ℕ, true, false, cond, List, Some, None, Ok, Err, Option, Result, nat_lt}
use Rattle.engine.specs.Holdings.{Held, View, Took, Kept, unprepared, load, refusal_of, count_at}
use Rattle.engine.specs.Rules.{Rule}
use Rattle.engine.specs.declared.error.PatternError.{PatternError}
use Rattle.engine.specs.declared.ticket.Ticket.{Ticket}
use Rattle.grammar.specs.Deep.{deep_at, greatest}
use Rattle.grammar.specs.Matchers.{Matched, definition_at}
use Rattle.grammar.specs.Readings.{Template}
use Rattle.grammar.specs.Results.{on_ok, on_err}
use Rattle.displays.specs.declared.error.ConversionError.{ConversionError}
use Rattle.displays.specs.declared.error.ConversionError.TheVariants.{Definition, Regex, FormatterParseError, FormatterExpectsRegex, RegexNotEnoughCaptures}

-- the group count, none for an exact matcher, goes with the greatest capture, if there is one: captures are numbered below the count
abbrev pub captures_fit : Option ℕ → Option ℕ → Result (Unit {0}) ConversionError
captures_fit g None = Ok tt
captures_fit None (Some k) = Err FormatterExpectsRegex
captures_fit (Some n) (Some k) = cond (nat_lt k n) (Ok tt) (Err RegexNotEnoughCaptures)

-- the count of a text that is prepared, or why it is not
abbrev pub prepared_count : Option PatternError → Option ℕ → Result (Option ℕ) ConversionError
prepared_count None count = Ok count
prepared_count (Some e) count = Err (Regex e)

-- the group count of a matcher's pattern, where so many of the holdings are taken; an exact matcher has none
abbrev pub grouped : Rule → (load size : ℕ) → Matched → Result (Option ℕ) ConversionError
grouped rule load size m =
    cond m.pattern (prepared_count (unprepared (rule.count m.bytes) load size) (rule.count m.bytes)) (Ok None)

-- the matcher and the reading of a definition, or why it is refused
abbrev pub checked : Rule → (load size : ℕ) → List ℕ → List ℕ → Result (Matched × Template) ConversionError
checked rule load size m t =
    on_ok (on_err Definition (definition_at m t)) (λ p.
    on_ok (grouped rule load size p.0) (λ g.
    on_ok (on_err FormatterParseError (deep_at t)) (λ r.
    on_ok (captures_fit g (greatest r)) (λ u. Ok (p.0, r)))))

-- with an engine as it stands
abbrev pub checked_by : View → List ℕ → List ℕ → Result (Matched × Template) ConversionError
checked_by v m t = checked v.rule (load v) v.size m t

-- the template's captures, those of its separators included, go with the group count
abbrev pub fits : List ℕ → Option ℕ → Result (Unit {0}) ConversionError
fits t g = on_ok (on_err FormatterParseError (deep_at t)) (λ r. captures_fit g (greatest r))

-- they go with what a number holds
abbrev pub held_fits : View → ℕ → List ℕ → Result (Unit {0}) ConversionError
held_fits v n t = on_ok (on_err Regex (count_at v n)) (λ k. fits t (Some k))

-- a text is prepared, and they go with it
abbrev pub pattern_fits : View → List ℕ → List ℕ → Result (Unit {0}) ConversionError
pattern_fits v text t = on_ok (prepared_count (refusal_of v text) (v.rule.count text)) (fits t)

-- for an exact matcher nothing more is held and there is no ticket; the ticket of a pattern names what now holds it
abbrev pub Handed : Held → Held → Matched → Option Ticket → Type 0
Handed before after m None = (m.pattern ≡ false) × Kept before after
Handed before after m (Some t) = (m.pattern ≡ true) × Took before after t.number m.bytes

-- the definition is accepted, and its matcher's ticket handed on
pub record Accepted (c : Result (Matched × Template) ConversionError) (before after : Held) (o : Option Ticket) : Type 0 where
  pub definition : Matched × Template
  pub accepted : c ≡ Ok definition
  pub handed : Handed before after definition.0 o
