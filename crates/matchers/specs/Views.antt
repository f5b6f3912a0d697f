-- What the reader answers, by the bytes that the answer borrows.
use Rattle.std.specs.Prelude.{Bool, true, false, Ok, Err, Result}
use Rattle.grammar.specs.Matchers.{Matched}
use Rattle.refusal.specs.declared.error.MatcherError.{MatcherError}
use Rattle.refusal.specs.declared.error.ParseError.{ParseError}
use Rattle.matchers.specs.declared.defns_const.MatcherConst.{MatcherConst}
use Rattle.matchers.specs.declared.defns_const.MatcherKindConst.{MatcherKindConst}
use Rattle.matchers.specs.declared.defns_const.MatcherKindConst.TheVariants.{Exact, Regex}

abbrev pub is_pattern : MatcherKindConst → Bool
is_pattern Exact = false
is_pattern Regex = true

abbrev pub matched : MatcherConst → Matched
matched m = record { pattern = is_pattern m.kind; bytes = m.«data».now; children = m.children }

abbrev pub seen_matcher : Result MatcherConst (ParseError MatcherError) → Result Matched (ParseError MatcherError)
seen_matcher (Ok m) = Ok (matched m)
seen_matcher (Err e) = Err e
