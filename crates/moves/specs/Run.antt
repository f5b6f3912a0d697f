-- What events do to a buffer: one after the other, until one is refused.
use Rattle.std.specs.Prelude.{◌≡◌, ℕ, ◌+◌, cond, List, [], ◌∷◌, ◌++◌, take, drop, Ok, Err, Result, nat_le, nat_lt}
use Rattle.lines.specs.Cut.{visit_limit, depth_limit}
use Rattle.lines.specs.Events.{Event, visit, byte, missing}
use Rattle.lines.specs.declared.answer.Printed.{Printed}
use Rattle.lines.specs.declared.error.LineError.{LineError}
use Rattle.lines.specs.declared.error.LineError.TheVariants.{MissingChild, TooDeep, TooManyVisits, OutputFull}
use Rattle.moves.specs.declared.writing.LinePen.{LinePen}
use Rattle.pen.specs.Pen.{Page, blank, behind}

-- the buffer that is written into, its bytes, and the visits so far
pub record State : Type 0 where
  pub buffer : ℕ
  pub page : Page
  pub visits : ℕ

-- the state that is left, and whether an event was refused
pub record Outcome : Type 0 where
  pub state : State
  pub end : Result (Unit {0}) LineError

abbrev pub state : LinePen → State
state p = record { buffer = p.out.ghost_name; page = record { written = take p.at p.out.now; rest = drop p.at p.out.now }; visits = p.visits }

-- before anything is written or visited
abbrev pub fresh : ℕ → List ℕ → State
fresh b l = record { buffer = b; page = blank l; visits = 0 }

-- behind the first `at` bytes and so many visits
abbrev pub resumed : ℕ → ℕ → ℕ → List ℕ → State
resumed b at n l = record { buffer = b; page = behind at l; visits = n }

-- behind what a print has printed so far into a buffer with these bytes
abbrev pub standing : ℕ → List ℕ → Printed → State
standing b l p = resumed b p.count p.visits l

abbrev pub ended : State → Result (Unit {0}) LineError → Outcome
ended s r = record { state = s; end = r }

abbrev pub outcome : LinePen → Result (Unit {0}) LineError → Outcome
outcome p r = ended (state p) r

abbrev pub done : State → Outcome
done s = record { state = s; end = Ok tt }

abbrev pub refused : LineError → State → Outcome
refused e s = record { state = s; end = Err e }

abbrev pub go : State → Result (Unit {0}) LineError → (State → Outcome) → Outcome
go s (Ok x) k = k s
go s (Err e) k = refused e s

abbrev pub then : Outcome → (State → Outcome) → Outcome
then o k = go o.state o.end k

-- a byte behind the others, if there is room for it
abbrev pub inked : ℕ → State → List ℕ → Outcome
inked b s [] = refused OutputFull s
inked b s (x ∷ rest) = done (record { buffer = s.buffer; page = record { written = s.page.written ++ b ∷ []; rest = rest }; visits = s.visits })

-- how many visits there are with one more at a depth
abbrev pub visited : ℕ → ℕ → Result ℕ LineError
visited n d = cond (nat_lt n visit_limit) (cond (nat_le d depth_limit) (Ok (n + 1)) (Err TooDeep)) (Err TooManyVisits)

-- one event: a visit is counted, a byte is written
abbrev pub one : Event → State → Outcome
one (visit t d) s =
    cond (nat_lt s.visits visit_limit)
    (cond (nat_le d depth_limit) (done (record { buffer = s.buffer; page = s.page; visits = s.visits + 1 })) (refused TooDeep s))
    (refused TooManyVisits s)
one (byte b) s = inked b s s.page.rest
one missing s = refused MissingChild s

abbrev pub run : List Event → State → Outcome
run [] s = done s
run (e ∷ es) s = then (one e s) (run es)

-- event lists that do the same
abbrev pub Like : List Event → List Event → Type 0
Like es fs = (s : State) → run es s ≡ run fs s
