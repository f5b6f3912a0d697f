-- What an engine means: its rule, and what its numbers hold; how a call changes that, and what the questions answer.
use Rattle.std.specs.Prelude.{◌≡◌, ℕ, zero, suc, ◌+◌, ◌≤◌, true, cond, List, is_some, Some, None, Ok, Err, Option, Result, ◌≢◌, nat_le}
use Rattle.engine.specs.declared.span.Span.{Span}
use Rattle.engine.specs.declared.error.PatternError.{PatternError}
use Rattle.engine.specs.declared.error.PatternError.TheVariants.{InvalidPattern, EngineFull, NothingHeld}
use Rattle.engine.specs.Rules.{Rule, Lawful}

abbrev pub Held : Type 0
Held = ℕ → Option (List ℕ)

-- the rule with its law, how many holdings there are, and the text that each number holds
pub record View : Type 0 where
  pub rule : Rule
  pub size : ℕ
  pub held : Held
  pub lawful : Lawful rule
  pub within : (k : ℕ) → size ≤ k → held k ≡ None

-- the rule and the number of holdings are as they were
pub record Fixed (before after : View) : Type 0 where
  pub rules : after.rule ≡ before.rule
  pub sizes : after.size ≡ before.size

-- n was free and now holds the text; every other number is as it was
pub record Took (before after : Held) (n : ℕ) (text : List ℕ) : Type 0 where
  pub free : before n ≡ None
  pub holds : after n ≡ Some text
  pub others : (k : ℕ) → (k ≢ n) → after k ≡ before k

-- n holds nothing; every other number is as it was
pub record Freed (before after : Held) (n : ℕ) : Type 0 where
  pub free : after n ≡ None
  pub others : (k : ℕ) → (k ≢ n) → after k ≡ before k

abbrev pub Kept : Held → Held → Type 0
Kept before after = (k : ℕ) → after k ≡ before k

-- how many of the numbers below n hold a text
abbrev pub one : Option (List ℕ) → ℕ
one None = 0
one (Some text) = 1

abbrev pub tally : ℕ → Held → ℕ
tally zero held = 0
tally (suc n) held = one (held n) + tally n held

-- why a text is not prepared, if it is not: it has no count, or then as many are held as can be
abbrev pub unprepared : Option ℕ → ℕ → ℕ → Option PatternError
unprepared None load size = Some InvalidPattern
unprepared (Some n) load size = cond (nat_le size load) (Some EngineFull) None

abbrev pub load : View → ℕ
load v = tally v.size v.held

abbrev pub refusal_of : View → List ℕ → Option PatternError
refusal_of v text = unprepared (v.rule.count text) (load v) v.size

abbrev pub unheld : Option (List ℕ) → Option PatternError
unheld None = Some NothingHeld
unheld (Some text) = None

-- the group count of what a number holds
abbrev pub counted : Option ℕ → Result ℕ PatternError
counted None = Err InvalidPattern
counted (Some n) = Ok n

abbrev pub count_of : Rule → Option (List ℕ) → Result ℕ PatternError
count_of r None = Err NothingHeld
count_of r (Some text) = counted (r.count text)

abbrev pub count_at : View → ℕ → Result ℕ PatternError
count_at v n = count_of v.rule (v.held n)

-- the match of what a number holds with a name
abbrev pub match_of : Rule → Option (List ℕ) → List ℕ → Result (Option (List (Option Span))) PatternError
match_of r None name = Err NothingHeld
match_of r (Some text) name = Ok (r.spans text name)

abbrev pub match_at : View → ℕ → List ℕ → Result (Option (List (Option Span))) PatternError
match_at v n name = match_of v.rule (v.held n) name

-- a match that an engine answers, seen as the spans that it has
abbrev pub seen_match : {M : Type 0} → (M → List (Option Span)) → Option M → Option (List (Option Span))
seen_match f None = None
seen_match f (Some m) = Some (f m)

abbrev pub seen : {M : Type 0} → (M → List (Option Span)) → Result (Option M) PatternError → Result (Option (List (Option Span))) PatternError
seen f (Ok o) = Ok (seen_match f o)
seen f (Err e) = Err e

-- every text that is held has a count
abbrev pub Counted : View → Type 0
Counted v = (k : ℕ) (text : List ℕ) → v.held k ≡ Some text → is_some (v.rule.count text) ≡ true
