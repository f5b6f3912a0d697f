-- Events one after the other.
use Rattle.std.proofs.Common.{◌≡◌, ℕ, suc, ◌+◌, ◌<◌, ◌≤◌, Bool, true, false, cond, ltb, leb, List, [], ◌∷◌, ◌++◌, length, get_or, take, drop, set, IsErrAnd, Some, None, Ok, Err, Option, Result, sym, refl, ap, ◌∙◌, append_assoc, arith}
use Rattle.std.proofs.lemmas.List.{append-nil, at_drop_more, drop_all, drop_more, take_more_set, drop-set-lt}
use Rattle.std.proofs.lemmas.Result.{err_from_is_err_and}
use Rattle.lines.specs.Cut.{Cut, cut, stopped, after, visit_limit, depth_limit}
use Rattle.lines.specs.Events.{Event, visit, byte, missing, bytes}
use Rattle.lines.specs.declared.error.LineError.{LineError}
use Rattle.lines.specs.declared.error.LineError.TheVariants.{MissingChild, TooDeep, TooManyVisits, OutputFull}
use Rattle.moves.specs.Run.{State, Outcome, done, refused, go, then, inked, one, run, Like}

then-then : (o : Outcome) (j k : State → Outcome) → then o (λ s. then (j s) k) ≡ then (then o j) k
then-then o j k = by o.state o.end
  where
    by : (s : State) (r : Result (Unit {0}) LineError) → go s r (λ s. then (j s) k) ≡ then (go s r j) k
    by s (Ok x) = refl
    by s (Err e) = refl

pub run_append : (es fs : List Event) (s : State) → run (es ++ fs) s ≡ then (run es s) (run fs)
run_append [] fs s = refl
run_append (e ∷ es) fs s = ap (then (one e s)) (λ i z. run_append es fs z i) ∙ then-then (one e s) (run es) (run fs)

-- what follows an outcome
pub thence : (es fs : List Event) (s : State) {o : Outcome} → o ≡ run es s → then o (run fs) ≡ run (es ++ fs) s
thence es fs s h = ap (λ o. then o (run fs)) h ∙ sym (run_append es fs s)

pub like_append : (es es' fs fs' : List Event) → Like es es' → Like fs fs' → Like (es ++ fs) (es' ++ fs')
like_append es es' fs fs' p q s = run_append es fs s ∙ (λ i. then (p s i) (λ z. q z i)) ∙ sym (run_append es' fs' s)

-- what a `?` returns
abbrev pub with_end : State → Result (Unit {0}) LineError → Outcome
with_end s r = record { state = s; end = r }

pub broke : {s : State} {o : Outcome} {r : Result (Unit {0}) LineError} {e : LineError} → IsErrAnd r (λ y. y ≡ e) → with_end s (Err e) ≡ o → with_end s r ≡ o
broke {s} {r = r} h w = let q = err_from_is_err_and r h in ap (with_end s) (q.1 ∙ ap Err q.2) ∙ w

-- ---- bytes
-- one more byte of a text
pub byte_more : (bs : List ℕ) (i : ℕ) (s : State) {b : ℕ} {o : Outcome} → i < length bs → b ≡ get_or bs i 0 → o ≡ run (byte b ∷ []) s → then o (run (bytes (drop (i + 1) bs))) ≡ run (bytes (drop i bs)) s
byte_more bs i s {b} lt e h =
    thence (byte b ∷ []) (bytes (drop (i + 1) bs)) s h ∙ ap (λ b. run (byte b ∷ bytes (drop (i + 1) bs)) s) e ∙ sym (at_drop_more (λ r. run (bytes r) s) bs i 0 lt)

module _ (b : ℕ) (name : ℕ) (l : List ℕ) (at v : ℕ) where
  abbrev pub at_place : State
  at_place = record { buffer = name; page = record { written = take at l; rest = drop at l }; visits = v }

  pub byte_full : length l ≤ at → refused OutputFull at_place ≡ run (byte b ∷ []) at_place
  byte_full h = sym (ap (λ r. then (inked b at_place r) (run [])) (drop_all at l h))

  pub byte_ran : at < length l → done (record { buffer = name; page = record { written = take (at + 1) (set l at b); rest = drop (at + 1) (set l at b) }; visits = v }) ≡ run (byte b ∷ []) at_place
  byte_ran h =
      let t : take (at + 1) (set l at b) ≡ take at l ++ b ∷ [] = take_more_set l at b h in
      let d : drop (at + 1) (set l at b) ≡ drop (at + 1) l = drop-set-lt (at + 1) l at b (omega arith) in
      (λ i. done (record { buffer = name; page = record { written = t i; rest = d i }; visits = v }))
      ∙ sym (ap (λ r. then (inked b at_place r) (run [])) (drop_more l at 0 h))

-- ---- the limits and the room
abbrev pub end_of : Option LineError → Result (Unit {0}) LineError
end_of None = Ok tt
end_of (Some e) = Err e

-- what a line leaves behind the bytes w, when it is cut so
abbrev pub leaves : ℕ → List ℕ → List ℕ → Cut → Outcome
leaves b w rest c = record {
  state = record { buffer = b; page = record { written = w ++ c.bytes; rest = drop (length c.bytes) rest }; visits = c.visits };
  end = end_of c.end;
}

module _ (b : ℕ) where
  abbrev pub left_at : List ℕ → List ℕ → ℕ → State
  left_at w rest v = record { buffer = b; page = record { written = w; rest = rest }; visits = v }

  stays : (w rest : List ℕ) (v : ℕ) (e : Option LineError) → ◌≡◌ {A = Outcome} (record { state = left_at w rest v; end = end_of e }) (leaves b w rest (record { bytes = []; visits = v; end = e }))
  stays w rest v e = ap (λ l. record { state = left_at l rest v; end = end_of e }) (sym (append-nil w))

  -- a byte behind the bytes w
  grows : (w rest : List ℕ) (x y : ℕ) (c : Cut) → leaves b (w ++ y ∷ []) rest c ≡ leaves b w (x ∷ rest) (after y c)
  grows w rest x y c = ap (λ l. record { state = left_at l (drop (length c.bytes) rest) c.visits; end = end_of c.end }) (append_assoc w (y ∷ []) c.bytes)

  pub run-cut : (es : List Event) (w rest : List ℕ) (v : ℕ) → run es (left_at w rest v) ≡ leaves b w rest (cut (length rest) v es)
  run-cut [] w rest v = stays w rest v None
  run-cut (visit t d ∷ es) w rest v = by (ltb v visit_limit) (leb d depth_limit) (ap (λ n. run es (left_at w rest n)) next ∙ run-cut es w rest (suc v))
    where
      next : v + 1 ≡ suc v
      next = omega arith

      by : (p q : Bool) → run es (left_at w rest (v + 1)) ≡ leaves b w rest (cut (length rest) (suc v) es)
          → then (cond p (cond q (done (left_at w rest (v + 1))) (refused TooDeep (left_at w rest v))) (refused TooManyVisits (left_at w rest v))) (run es)
          ≡ leaves b w rest (cond p (cond q (cut (length rest) (suc v) es) (stopped v TooDeep)) (stopped v TooManyVisits))
      by true true h = h
      by true false h = stays w rest v (Some TooDeep)
      by false q h = stays w rest v (Some TooManyVisits)
  run-cut (byte y ∷ es) w [] v = stays w [] v (Some OutputFull)
  run-cut (byte y ∷ es) w (x ∷ rest) v = run-cut es (w ++ y ∷ []) rest v ∙ grows w rest x y (cut (length rest) v es)
  run-cut (missing ∷ es) w rest v = stays w rest v (Some MissingChild)

-- ---- the buffer stays the same
abbrev visited : State → State
visited s = record { buffer = s.buffer; page = s.page; visits = s.visits + 1 }

pub same_buffer : (es : List Event) (s : State) → (run es s).state.buffer ≡ s.buffer
same_buffer [] s = refl
same_buffer (visit t d ∷ es) s = by (same_buffer es) (ltb s.visits visit_limit) (leb d depth_limit)
  where
    by : ((s : State) → (run es s).state.buffer ≡ s.buffer) → (p q : Bool) → (then (cond p (cond q (done (visited s)) (refused TooDeep s)) (refused TooManyVisits s)) (run es)).state.buffer ≡ s.buffer
    by all true true = all (visited s)
    by all true false = refl
    by all false q = refl
same_buffer (byte y ∷ es) s = by (same_buffer es) s.page.rest
  where
    by : ((s : State) → (run es s).state.buffer ≡ s.buffer) → (rest : List ℕ) → (then (inked y s rest) (run es)).state.buffer ≡ s.buffer
    by all [] = refl
    by all (x ∷ rest) = all (record { buffer = s.buffer; page = record { written = s.page.written ++ y ∷ []; rest = rest }; visits = s.visits })
same_buffer (missing ∷ es) s = refl
