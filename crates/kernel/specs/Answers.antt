-- What the calls answer, by what the readers and the writers mean.
use Rattle.std.specs.Prelude.{ℕ, ◌+◌, ◌-◌, Bool, true, false, cond, List, ◌++◌, map, length, drop, is_some, Some, None, Ok, Err, Option, Result, nat_le}
use Rattle.refusal.specs.declared.error.DeepError.{DeepError}
use Rattle.refusal.specs.declared.error.FormatterError.{FormatterError}
use Rattle.refusal.specs.declared.error.MatcherError.{MatcherError}
use Rattle.refusal.specs.declared.error.ParseError.{ParseError}
use Rattle.grammar.specs.Matchers as matcher
use Rattle.templates.specs.Views.{Summary}
use Rattle.codes.specs.declared.error.CodeError.TheVariants.{BufferTooShort}
use Rattle.engine.specs.declared.error.PatternError.TheVariants.{InvalidPattern}
use Rattle.engine.specs.declared.span.Span.{Span}
use Rattle.kernel.specs.Faults.{accepted, of_formatter, of_deep, of_matcher, of_code, of_pattern}
use Rattle.kernel.specs.declared.records.Fault.{Fault}
use Rattle.kernel.specs.declared.records.Groups.{Groups}
use Rattle.kernel.specs.declared.records.Matched.{Matched}
use Rattle.kernel.specs.declared.records.Matcher.{Matcher}
use Rattle.kernel.specs.declared.records.Part.{Part}
use Rattle.kernel.specs.declared.records.Template.{Template}
use Rattle.kernel.specs.declared.records.Written.{Written}

abbrev pub flag : Bool → ℕ
flag true = 1
flag false = 0

abbrev pub or_zero : Option ℕ → ℕ
or_zero None = 0
or_zero (Some n) = n

-- the data stands behind the bracket and the slash, where these stand
abbrev pub matcher_answer : Result matcher.Matched (ParseError MatcherError) → Matcher
matcher_answer (Ok m) = record {
  fault = accepted;
  place = flag (is_some m.children) + flag m.pattern;
  length = length m.bytes;
  pattern = flag m.pattern;
  counted = flag (is_some m.children);
  children = or_zero m.children;
}
matcher_answer (Err e) = record { fault = of_matcher e; place = 0; length = 0; pattern = 0; counted = 0; children = 0 }

-- a template that is read, with its greatest capture
abbrev pub template_read : Summary → Option ℕ → Template
template_read s most = record {
  fault = accepted;
  place = s.start;
  length = length s.front - s.start;
  pieces = s.outputs;
  left = s.left;
  right = s.right;
  captures = flag (is_some most);
  capture = or_zero most;
}

abbrev pub template_refused : Fault → Template
template_refused f = record { fault = f; place = 0; length = 0; pieces = 0; left = 0; right = 0; captures = 0; capture = 0 }

-- separators unread
abbrev pub template_answer : Result Summary (ParseError FormatterError) → Template
template_answer (Ok s) = template_read s s.most
template_answer (Err e) = template_refused (of_formatter e)

-- separators read too
abbrev pub formatter_answer : Result (Summary × Option ℕ) (ParseError DeepError) → Template
formatter_answer (Ok p) = template_read p.0 p.1
formatter_answer (Err e) = template_refused (of_deep e)

abbrev pub written_answer : {E : Type 0} → (E → Fault) → Result ℕ E → Written
written_answer f (Ok n) = record { fault = accepted; length = n }
written_answer f (Err e) = record { fault = f e; length = 0 }

abbrev pub groups_answer : Option ℕ → Groups
groups_answer None = record { fault = of_pattern InvalidPattern; count = 0 }
groups_answer (Some n) = record { fault = accepted; count = n }

abbrev pub part_of : Option Span → Part
part_of None = record { taken = 0; from = 0; to = 0 }
part_of (Some s) = record { taken = 1; from = s.from; to = s.to }

-- no pattern, then no match, then no room for the parts
abbrev pub match_answer : Option ℕ → Option (List (Option Span)) → ℕ → Matched
match_answer None spans room = record { fault = of_pattern InvalidPattern; matches = 0; count = 0 }
match_answer (Some n) None room = record { fault = accepted; matches = 0; count = 0 }
match_answer (Some n) (Some l) room =
    cond (nat_le (length l) room) (record { fault = accepted; matches = 1; count = length l }) (record { fault = of_code BufferTooShort; matches = 0; count = 0 })

-- the parts of a match from the buffer's start on and the rest as it was, or all as it was
abbrev pub parts_after : Option (List (Option Span)) → List Part → List Part
parts_after None buffer = buffer
parts_after (Some l) buffer = cond (nat_le (length l) (length buffer)) (map part_of l ++ drop (length l) buffer) buffer
