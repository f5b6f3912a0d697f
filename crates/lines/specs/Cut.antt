-- How the limits and the room cut a line.
use Rattle.std.specs.Prelude.{ℕ, zero, suc, cond, List, [], ◌∷◌, ◌++◌, length, drop, Some, None, Ok, Err, Option, Result, nat_le, nat_lt}
use Rattle.terms.specs.Source.{Source}
use Rattle.lines.specs.declared.answer.Printed.{Printed}
use Rattle.lines.specs.declared.answer.Unfinished.{Unfinished}
use Rattle.lines.specs.declared.error.LineError.{LineError}
use Rattle.lines.specs.declared.error.LineError.TheVariants.{NoSuchTerm, MissingChild, TooDeep, TooManyVisits, OutputFull}
use Rattle.lines.specs.Chosen.{Choosing}
use Rattle.lines.specs.Events.{Event, visit, byte, missing, line, alone}

-- the visits of one print
abbrev pub visit_limit : ℕ
visit_limit = 65535

-- how deep visits may be nested, the first being at depth 1
abbrev pub depth_limit : ℕ
depth_limit = 128

-- what is printed of a line: its bytes, how many visits there were, and the refusal that ended it, if one did
pub record Cut : Type 0 where
  pub bytes : List ℕ
  pub visits : ℕ
  pub end : Option LineError

abbrev pub stopped : ℕ → LineError → Cut
stopped v e = record { bytes = []; visits = v; end = Some e }

abbrev pub after : ℕ → Cut → Cut
after b c = record { bytes = b ∷ c.bytes; visits = c.visits; end = c.end }

-- v visits were made before; a visit over the limit, then one that is too deep, a missing child, and a byte for which there is no room each end it
abbrev pub cut : (room v : ℕ) → List Event → Cut
cut room v [] = record { bytes = []; visits = v; end = None }
cut room v (visit t d ∷ es) = cond (nat_lt v visit_limit) (cond (nat_le d depth_limit) (cut room (suc v) es) (stopped v TooDeep)) (stopped v TooManyVisits)
cut zero v (byte b ∷ es) = stopped v OutputFull
cut (suc room) v (byte b ∷ es) = after b (cut room v es)
cut room v (missing ∷ es) = stopped v MissingChild

-- the print of a term into so much room
abbrev pub printing : Choosing → Source → ℕ → ℕ → Cut
printing ch m t room = cond (nat_lt t m.count) (cut room 0 (line ch m 1 t alone)) (stopped 0 NoSuchTerm)

abbrev pub ended : ℕ → ℕ → Option LineError → Result Printed Unfinished
ended n v None = Ok (record { visits = v; count = n })
ended n v (Some e) = Err (record { kind = e; count = n })

-- what a print answers, and what it leaves in a buffer
abbrev pub answer : Cut → Result Printed Unfinished
answer c = ended (length c.bytes) c.visits c.end

abbrev pub left : Cut → List ℕ → List ℕ
left c buffer = c.bytes ++ drop (length c.bytes) buffer
