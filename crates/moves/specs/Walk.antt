-- What happens while the commands of a code are carried out, one by one.
use Rattle.std.specs.Prelude.{ℕ, zero, suc, Bool, true, false, cond, List, [], ◌∷◌, ◌++◌, Some, None, Option}
use Rattle.engine.specs.declared.span.Span.{Span}
use Rattle.grammar.specs.Numbers.{bits}
use Rattle.grammar.specs.declared.defns.ChildIndex.{ChildIndex}
use Rattle.lines.specs.Children.{child_of, selected}
use Rattle.lines.specs.Events.{Event, byte, Context, context, bytes, captured, or_missing, is_last}
use Rattle.terms.specs.Source.{Source}
use Rattle.wire.specs.Ahead.{is_end, is_range, past}
use Rattle.wire.specs.declared.commands.Command.{Command}
use Rattle.wire.specs.declared.commands.Command.TheVariants.{End, Power, Byte, Step, Child, Range, Capture}

abbrev pub or_else : ℕ → Option ℕ → ℕ
or_else t None = t
or_else t (Some u) = u

-- the child of a term that an index names
abbrev pub reached : Source → ℕ → ChildIndex → Option ℕ
reached m u i = child_of m u (bits i.0)

-- the term at which the command behind this one is carried out: a step leads down, behind every other command it is the term itself again
abbrev pub onward : Source → ℕ → ℕ → Command → ℕ
onward m t u End = t
onward m t u (Power l r) = t
onward m t u (Byte b) = t
onward m t u (Step i) = or_else t (reached m u i)
onward m t u (Child i l r) = t
onward m t u (Range f g l a b r) = t
onward m t u (Capture k) = t

-- three separators stand behind a RANGE
abbrev pub skips : Command → ℕ
skips k = cond (is_range k) 3 0

abbrev pub over : Command → List Command → List Command
over k ks = cond (is_range k) (past (past (past ks))) ks

-- the powers round a child of a range: its left and right outside, the middle ones between two children
abbrev pub amid : ℕ → ℕ → ℕ → ℕ → Bool → Bool → Context
amid l a b r first last = context (cond first l b) (cond last r a)

-- children in a row, with what stands between them; and with what stands round them, if there are any
module _ (show : ℕ → Context → List Event) (powers : Bool → Bool → Context) where
  abbrev pub row_by : List Event → Bool → List ℕ → List Event
  row_by gap first [] = []
  row_by gap first (c ∷ cs) = cond first [] gap ++ (show c (powers first (is_last cs)) ++ row_by gap false cs)

  abbrev pub range_by : List Event → List Event → List Event → List ℕ → List Event
  range_by before gap behind [] = []
  range_by before gap behind (c ∷ cs) = before ++ (row_by gap true (c ∷ cs) ++ behind)

-- the commands of the term t with that name and those spans; `show` tells what happens at a child
module _ (m : Source) (show : ℕ → Context → List Event) (t : ℕ) (name : List ℕ) (spans : List (Option Span)) where
  -- one command at the term u; a RANGE has its separators behind it, so it is not told here
  abbrev pub plain : ℕ → Command → List Event
  plain u End = []
  plain u (Power l r) = []
  plain u (Byte b) = byte b ∷ []
  plain u (Step i) = or_missing (reached m u i) (λ v. [])
  plain u (Child i l r) = or_missing (reached m u i) (λ c. show c (context l r))
  plain u (Range f g l a b r) = []
  plain u (Capture k) = bytes (captured name spans k)

  -- the commands up to END, passing over so many readings first; `part` tells what happens at one of them
  abbrev pub walk : (ℕ → Command → List Command → List Event) → ℕ → ℕ → List Command → List Event
  walk part n u [] = []
  walk part (suc n) u (k ∷ ks) = cond (is_end k) (walk part n u ks) (walk part (suc n) u ks)
  walk part zero u (k ∷ ks) = cond (is_end k) [] (part u k ks ++ walk part (skips k) (onward m t u k) ks)

  -- the commands of a separator
  abbrev pub inside : ℕ → List Command → List Event
  inside u ks = walk (λ v k js. plain v k) 0 u ks

  -- a command of a template, with the commands behind it
  abbrev pub part_of : ℕ → Command → List Command → List Event
  part_of u End ks = []
  part_of u (Power l r) ks = []
  part_of u (Byte b) ks = plain u (Byte b)
  part_of u (Step i) ks = plain u (Step i)
  part_of u (Child i l r) ks = plain u (Child i l r)
  part_of u (Range f g l a b r) ks =
      range_by show (amid l a b r) (inside t ks) (inside t (past ks)) (inside t (past (past ks))) (selected m u (bits f.0) (bits g.0))
  part_of u (Capture k) ks = plain u (Capture k)

  -- the commands of a template
  abbrev pub outside : ℕ → List Command → List Event
  outside u ks = walk part_of 0 u ks
