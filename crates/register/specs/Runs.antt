-- Any string of calls on a freshly opened book. Each call has the next `room` bytes of an area for its buffer.
use Rattle.std.specs.Prelude.{◌≡◌, ℕ, List, [], ◌∷◌, ◌++◌, length, take, drop, Ok, Err}
use Rattle.std.specs.Borrow.{Bor}
use Rattle.std.specs.List.{AllByRecursion}
use Rattle.codes.specs.Calls.{filled, after}
use Rattle.engine.specs.Rules.{Rule}
use Rattle.grammar.specs.Matchers.{Matched}
use Rattle.grammar.specs.Readings.{Template, Byte}
use Rattle.lines.specs.Cut.{printing, answer, left}
use Rattle.terms.specs.Source.{Source}
use Rattle.register.specs.declared.answer.Answer.{Answer}
use Rattle.register.specs.declared.answer.Answer.TheVariants.{Done, Refused}
use Rattle.register.specs.declared.call.Call.{Call}
use Rattle.register.specs.declared.call.Call.TheVariants.{Define, Withdraw, NewFallback, LookUp, ReadBack, Print}
use Rattle.register.specs.declared.error.BookError.{BookError}
use Rattle.register.specs.Calls.{admits, names, looked_up, read_back, too_short, wrote, done, printed, on_accepted}
use Rattle.register.specs.Contents.{Contents, contents_of}
use Rattle.register.specs.Register.{Register, opening, served, chosen, added, removed, replaced}

abbrev pub room_of : Call → ℕ
room_of (Define m t) = 0
room_of (Withdraw m) = 0
room_of (NewFallback t) = 0
room_of (LookUp name n room) = room
room_of (ReadBack m room) = room
room_of (Print t room) = room

module _ (rule : Rule) (size : ℕ) (source : Source) where
  -- one call on the register g with a buffer: its answer, the buffer then, and the register then
  pub data Turn : Register → Call → List ℕ → Answer → List ℕ → Register → Type 0 where
    defines : {g : Register} {m t : Bor (List ℕ)} {b : List ℕ} {p : Matched × Template} → admits rule size g m.now t.now ≡ Ok p → Turn g (Define m t) b Done b (added g (record { matcher = p.0; template = t.now }))
    refuses_definition : {g : Register} {m t : Bor (List ℕ)} {b : List ℕ} {e : BookError} → admits rule size g m.now t.now ≡ Err e → Turn g (Define m t) b (Refused e) b g
    withdraws : {g : Register} {m : Bor (List ℕ)} {b : List ℕ} {i : ℕ} → names g m.now ≡ Ok i → Turn g (Withdraw m) b Done b (removed g i)
    refuses_withdrawal : {g : Register} {m : Bor (List ℕ)} {b : List ℕ} {e : BookError} → names g m.now ≡ Err e → Turn g (Withdraw m) b (Refused e) b g
    replaces : {g : Register} {t : Bor (List ℕ)} {b : List ℕ} {r : Template} → served t.now ≡ Ok r → Turn g (NewFallback t) b Done b (replaced g t.now)
    refuses_fallback : {g : Register} {t : Bor (List ℕ)} {b : List ℕ} {e : BookError} → served t.now ≡ Err e → Turn g (NewFallback t) b (Refused e) b g
    looks_up : {g : Register} {name : Bor (List ℕ)} {n room : ℕ} {b : List ℕ} → Turn g (LookUp name n room) b (wrote (filled too_short (looked_up rule g name.now n) b)) (after (looked_up rule g name.now n) b) g
    reads_back : {g : Register} {m : Bor (List ℕ)} {room : ℕ} {b : List ℕ} → Turn g (ReadBack m room) b (wrote (filled too_short (read_back g m.now) b)) (after (read_back g m.now) b) g
    prints : {g : Register} {t room : ℕ} {b : List ℕ} → Turn g (Print t room) b (printed (answer (printing (chosen rule g) source t (length b)))) (left (printing (chosen rule g) source t (length b)) b) g

  -- a string of calls: the answers, the area then, and the register then
  pub data Run : Register → List Call → List ℕ → List Answer → List ℕ → Register → Type 0 where
    ends : {g : Register} {area : List ℕ} → Run g [] area [] area g
    turns : {g h k : Register} {c : Call} {cs : List Call} {area mine rest : List ℕ} {a : Answer} {later : List Answer}
        → Turn g c (take (room_of c) area) a mine h → Run h cs (drop (room_of c) area) later rest k → Run g (c ∷ cs) area (a ∷ later) (mine ++ rest) k

  -- the same by computation
  abbrev pub stepped : Register → Call → Register
  stepped g (Define m t) = on_accepted (admits rule size g m.now t.now) g (λ p. added g (record { matcher = p.0; template = t.now }))
  stepped g (Withdraw m) = on_accepted (names g m.now) g (removed g)
  stepped g (NewFallback t) = on_accepted (served t.now) g (λ r. replaced g t.now)
  stepped g (LookUp name n room) = g
  stepped g (ReadBack m room) = g
  stepped g (Print t room) = g

  abbrev pub said : Register → Call → List ℕ → Answer
  said g (Define m t) b = done (admits rule size g m.now t.now)
  said g (Withdraw m) b = done (names g m.now)
  said g (NewFallback t) b = done (served t.now)
  said g (LookUp name n room) b = wrote (filled too_short (looked_up rule g name.now n) b)
  said g (ReadBack m room) b = wrote (filled too_short (read_back g m.now) b)
  said g (Print t room) b = printed (answer (printing (chosen rule g) source t (length b)))

  abbrev pub leaves : Register → Call → List ℕ → List ℕ
  leaves g (Define m t) b = b
  leaves g (Withdraw m) b = b
  leaves g (NewFallback t) b = b
  leaves g (LookUp name n room) b = after (looked_up rule g name.now n) b
  leaves g (ReadBack m room) b = after (read_back g m.now) b
  leaves g (Print t room) b = left (printing (chosen rule g) source t (length b)) b

  abbrev pub register_after : Register → List Call → Register
  register_after g [] = g
  register_after g (c ∷ cs) = register_after (stepped g c) cs

  abbrev pub answers_of : Register → List Call → List ℕ → List Answer
  answers_of g [] area = []
  answers_of g (c ∷ cs) area = said g c (take (room_of c) area) ∷ answers_of (stepped g c) cs (drop (room_of c) area)

  abbrev pub area_after : Register → List Call → List ℕ → List ℕ
  area_after g [] area = area
  area_after g (c ∷ cs) area = leaves g c (take (room_of c) area) ++ area_after (stepped g c) cs (drop (room_of c) area)

-- the bytes that a call puts into the register are bytes
abbrev pub Typed : Call → Type 0
Typed (Define m t) = AllByRecursion Byte t.now
Typed (Withdraw m) = Unit {0}
Typed (NewFallback t) = AllByRecursion Byte t.now
Typed (LookUp name n room) = Unit {0}
Typed (ReadBack m room) = Unit {0}
Typed (Print t room) = Unit {0}

module _ (rule : Rule) (size : ℕ) (source : Source) where
  -- a string of calls on a freshly opened book was carried out: the book has what the register gives, and every call answered and wrote what the
  -- register as it stood before it gives
  pub record Carried (calls : List Call) (before : List ℕ) (answers : List Answer) (area : List ℕ) (book : Contents) : Type 0 where
    pub register : Register
    pub typed : AllByRecursion Typed calls
    pub run : Run rule size source opening calls before answers area register
    pub contents : book ≡ contents_of register
