-- What happens at the parts of a visit.
use Rattle.std.specs.Prelude.{ℕ, suc, ◌+◌, Bool, cond, List, [], ◌++◌, length, take, drop, Option, ◌==◌, slice_index}
use Rattle.engine.specs.declared.span.Span.{Span}
use Rattle.lines.specs.Chosen.{Choosing, spans_by}
use Rattle.lines.specs.Events.{Event, Context, enclosed, line}
use Rattle.terms.specs.Source.{Source}
use Rattle.wire.specs.Ahead.{ahead}
use Rattle.wire.specs.declared.commands.Command.{Command}
use Rattle.moves.specs.Ends.{bracketed}
use Rattle.moves.specs.Walk.{amid, row_by, range_by, plain, inside, part_of, outside}
use Rattle.print.specs.declared.job.Job.{Job}
use Rattle.print.specs.declared.row.Row.{Row}
use Rattle.wire.specs.Cursor.{ahead_of}

abbrev pub powers_of : Row → Bool → Bool → Context
powers_of w = amid w.outer.left w.middle.left w.middle.right w.outer.right

-- the children of a row in a source
abbrev pub children_of : Source → Row → List ℕ
children_of m w = drop w.first (take w.end (m.children w.parent))

-- f gives the spans of a match
module _ {C S M : Type 0} (ch : Choosing) (m : Source) (f : M → List (Option Span)) (j : Job C S M) where
  -- what happens at a child
  abbrev pub below : ℕ → Context → List Event
  below = line ch m (suc j.depth)

  abbrev pub spans_of : List (Option Span)
  spans_of = spans_by f (length j.name.now) j.found

  -- a command at the term u
  abbrev pub plain_at : ℕ → Command → List Event
  plain_at u k = plain m below j.term j.name.now spans_of u k

  -- the commands of a separator
  abbrev pub inside_at : ℕ → List Command → List Event
  inside_at u ks = inside m below j.term j.name.now spans_of u ks

  -- a command of the template, with the commands behind it
  abbrev pub part_at : ℕ → Command → List Command → List Event
  part_at u k ks = part_of m below j.term j.name.now spans_of u k ks

  -- the commands of the template
  abbrev pub outside_at : ℕ → List Command → List Event
  outside_at u ks = outside m below j.term j.name.now spans_of u ks

  -- the child at a place of a row, with what stands before it
  abbrev pub one_at : Row → ℕ → List Event
  one_at w place = cond (place == w.first) [] (inside_at j.term (ahead_of w.between)) ++ below (slice_index (m.children w.parent) place) (powers_of w (place == w.first) (place + 1 == w.end))

  -- a row, from the child at which it stands
  abbrev pub row_at : Row → Bool → List ℕ → List Event
  row_at w first cs = row_by below (powers_of w) (inside_at j.term (ahead_of w.between)) first cs

  -- with its outer separators
  abbrev pub range_at : Row → List ℕ → List Event
  range_at w cs = range_by below (powers_of w) (inside_at j.term (ahead_of w.before)) (inside_at j.term (ahead_of w.between)) (inside_at j.term (ahead_of w.behind)) cs

  -- the whole template, in brackets if the powers beside it ask for them
  abbrev pub enclosed_at : ℕ → ℕ → List Event
  enclosed_at a b = enclosed (bracketed (ahead j.code.now 0) a b) (outside_at j.term (ahead j.code.now 0))
