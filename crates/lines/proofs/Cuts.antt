-- How the limits and the room cut events.
use Rattle.std.proofs.Common.{◌≡◌, ℕ, zero, suc, ◌+◌, ◌<◌, ◌≤◌, Bool, true, false, cond, ltb, leb, List, [], ◌∷◌, ◌++◌, length, Some, None, sym, refl, ap, ◌∙◌, subst, arith}
use Rattle.std.proofs.lemmas.Bool.{ltb-true, ltb-false, leb-true, leb-false, lt-ltb, le-leb, cond-true, cond-false}
use Rattle.std.specs.List.{AllByRecursion as All}
use Rattle.grammar.proofs.Chains.{nothing, same_some}
use Rattle.lines.specs.Cut.{Cut, cut, stopped, after, visit_limit, depth_limit}
use Rattle.lines.specs.Events.{Event, visit, byte, missing}
use Rattle.lines.specs.Laws.{visits_in, bytes_in, Allowed, uncut, Ends, Breaks, many, deep, lost, full, FirstBreach}
use Rattle.lines.specs.declared.error.LineError.{LineError}
use Rattle.lines.specs.declared.error.LineError.TheVariants.{MissingChild, TooDeep, TooManyVisits, OutputFull}

-- when v visits were made before
record FitsFrom (room v : ℕ) (es : List Event) : Type 0 where
  allowed : All Allowed es
  visits : v + visits_in es ≤ visit_limit
  bytes : length (bytes_in es) ≤ room

-- the refusal that stopped it is no end
stopped_end : (v : ℕ) (e : LineError) {P : Type 0} → (stopped v e).end ≡ None → P
stopped_end v e h = nothing e (sym h)

ends_forth : (room v : ℕ) (es : List Event) → v ≤ visit_limit → (cut room v es).end ≡ None → FitsFrom room v es
ends_forth room v [] l h = record { allowed = tt; visits = omega arith; bytes = omega arith }
ends_forth room v (visit t d ∷ es) l h = by (ltb v visit_limit) (leb d depth_limit) refl refl h (ends_forth room (suc v) es)
  where
    by : (a b : Bool) → ltb v visit_limit ≡ a → leb d depth_limit ≡ b → (cond a (cond b (cut room (suc v) es) (stopped v TooDeep)) (stopped v TooManyVisits)).end ≡ None
        → (suc v ≤ visit_limit → (cut room (suc v) es).end ≡ None → FitsFrom room (suc v) es) → FitsFrom room v (visit t d ∷ es)
    by true true p q h r = let k = ltb-true v visit_limit p in let f = r (omega arith) h in record { allowed = (leb-true d depth_limit q, f.allowed); visits = omega (arith, f.visits); bytes = f.bytes }
    by true false p q h r = stopped_end v TooDeep h
    by false b p q h r = stopped_end v TooManyVisits h
ends_forth zero v (byte b ∷ es) l h = stopped_end v OutputFull h
ends_forth (suc room) v (byte b ∷ es) l h = let f = ends_forth room v es l h in record { allowed = (tt, f.allowed); visits = f.visits; bytes = omega (arith, f.bytes) }
ends_forth room v (missing ∷ es) l h = stopped_end v MissingChild h

ends-back : (room v : ℕ) (es : List Event) → FitsFrom room v es → cut room v es ≡ uncut (bytes_in es) (v + visits_in es)
ends-back room v [] f = let z : v ≡ v + 0 = omega arith in ap (uncut []) z
ends-back room v (visit t d ∷ es) f =
    let n = f.visits in
    let r = ends-back room (suc v) es (record { allowed = f.allowed.1; visits = omega arith; bytes = f.bytes }) in
    let z : suc v + visits_in es ≡ v + suc (visits_in es) = omega arith in
    cond-true _ _ _ (lt-ltb v visit_limit (omega arith)) ∙ cond-true _ _ _ (le-leb d depth_limit f.allowed.0) ∙ r ∙ ap (uncut (bytes_in es)) z
ends-back zero v (byte b ∷ es) f = let n = f.bytes in absurd (omega arith)
ends-back (suc room) v (byte b ∷ es) f = let n = f.bytes in ap (after b) (ends-back room v es (record { allowed = f.allowed.1; visits = f.visits; bytes = omega arith }))
ends-back room v (missing ∷ es) f = absurd f.allowed.0

pub ends_hold : Ends
ends_hold = record {
  forth = λ room es h. let f = ends_forth room 0 es (omega arith) h in record { allowed = f.allowed; visits = omega (arith, f.visits); bytes = f.bytes };
  back = λ room es f. ends-back room 0 es (record { allowed = f.allowed; visits = omega (arith, f.visits); bytes = f.bytes }) ∙ (let z : 0 + visits_in es ≡ visits_in es = omega arith in ap (uncut (bytes_in es)) z);
}

-- ---- the first breach, when v visits were made before
record BreachFrom (room v : ℕ) (es : List Event) (e : LineError) : Type 0 where
  before : List Event
  first : Event
  behind : List Event
  parts : es ≡ before ++ first ∷ behind
  fits : FitsFrom room v before
  printed : (cut room v es).bytes ≡ bytes_in before
  visited : (cut room v es).visits ≡ v + visits_in before
  breaks : Breaks room (length (bytes_in before)) (v + visits_in before) first e

-- at once
breach_here : (room v : ℕ) (x : Event) (es : List Event) (e k : LineError) → v ≤ visit_limit → cut room v (x ∷ es) ≡ stopped v k → Some k ≡ Some e → Breaks room 0 (v + 0) x k → BreachFrom room v (x ∷ es) e
breach_here room v x es e k l c h b =
    let z : v ≡ v + 0 = omega arith in
    record {
      before = [];
      first = x;
      behind = es;
      parts = refl;
      fits = record { allowed = tt; visits = omega arith; bytes = omega arith };
      printed = ap (λ (c : Cut). c.bytes) c;
      visited = ap (λ (c : Cut). c.visits) c ∙ z;
      breaks = subst (Breaks room 0 (v + 0) x) (same_some k e h) b;
    }

-- behind a visit, and behind a byte
behind_visit : (room v t d : ℕ) (es : List Event) (e : LineError) → v < visit_limit → d ≤ depth_limit → BreachFrom room (suc v) es e → BreachFrom room v (visit t d ∷ es) e
behind_visit room v t d es e l k r =
    let same : cut room v (visit t d ∷ es) ≡ cut room (suc v) es = cond-true _ _ _ (lt-ltb v visit_limit l) ∙ cond-true _ _ _ (le-leb d depth_limit k) in
    let z : suc v + visits_in r.before ≡ v + suc (visits_in r.before) = omega arith in
    record {
      before = visit t d ∷ r.before;
      first = r.first;
      behind = r.behind;
      parts = ap (λ es. visit t d ∷ es) r.parts;
      fits = record { allowed = (k, r.fits.allowed); visits = omega (arith, r.fits.visits); bytes = r.fits.bytes };
      printed = ap (λ (c : Cut). c.bytes) same ∙ r.printed;
      visited = ap (λ (c : Cut). c.visits) same ∙ r.visited ∙ z;
      breaks = subst (λ n. Breaks room (length (bytes_in r.before)) n r.first e) z r.breaks;
    }

one_more : (room n v : ℕ) (x : Event) (e : LineError) → Breaks room n v x e → Breaks (suc room) (suc n) v x e
one_more room n v x e (many t d h) = many t d h
one_more room n v x e (deep t d h k) = deep t d h k
one_more room n v x e lost = lost
one_more room n v x e (full b h) = full b (ap suc h)

behind_byte : (room v b : ℕ) (es : List Event) (e : LineError) → BreachFrom room v es e → BreachFrom (suc room) v (byte b ∷ es) e
behind_byte room v b es e r =
    record {
      before = byte b ∷ r.before;
      first = r.first;
      behind = r.behind;
      parts = ap (λ es. byte b ∷ es) r.parts;
      fits = record { allowed = (tt, r.fits.allowed); visits = r.fits.visits; bytes = omega (arith, r.fits.bytes) };
      printed = ap (λ bs. b ∷ bs) r.printed;
      visited = r.visited;
      breaks = one_more room (length (bytes_in r.before)) (v + visits_in r.before) r.first e r.breaks;
    }

breach_from : (room v : ℕ) (es : List Event) (e : LineError) → v ≤ visit_limit → (cut room v es).end ≡ Some e → BreachFrom room v es e
breach_from room v [] e l h = nothing e h
breach_from room v (visit t d ∷ es) e l h = by (ltb v visit_limit) (leb d depth_limit) refl refl h (breach_from room (suc v) es e)
  where
    by : (a b : Bool) → ltb v visit_limit ≡ a → leb d depth_limit ≡ b → (cond a (cond b (cut room (suc v) es) (stopped v TooDeep)) (stopped v TooManyVisits)).end ≡ Some e
        → (suc v ≤ visit_limit → (cut room (suc v) es).end ≡ Some e → BreachFrom room (suc v) es e) → BreachFrom room v (visit t d ∷ es) e
    by true true p q h r = let k = ltb-true v visit_limit p in behind_visit room v t d es e k (leb-true d depth_limit q) (r (omega arith) h)
    by true false p q h r =
        let k = ltb-true v visit_limit p in
        breach_here room v (visit t d) es e TooDeep l (cond-true _ _ _ p ∙ cond-false _ _ _ q) h (deep t d (omega arith) (leb-false d depth_limit q))
    by false b p q h r =
        let k = ltb-false v visit_limit p in
        breach_here room v (visit t d) es e TooManyVisits l (cond-false _ _ _ p) h (many t d (omega arith))
breach_from zero v (byte b ∷ es) e l h = breach_here zero v (byte b) es e OutputFull l refl h (full b refl)
breach_from (suc room) v (byte b ∷ es) e l h = behind_byte room v b es e (breach_from room v es e l h)
breach_from room v (missing ∷ es) e l h = breach_here room v missing es e MissingChild l refl h lost

pub breach_holds : FirstBreach
breach_holds room es e h =
    let r = breach_from room 0 es e (omega arith) h in
    let z : 0 + visits_in r.before ≡ visits_in r.before = omega arith in
    record {
      before = r.before;
      first = r.first;
      behind = r.behind;
      parts = r.parts;
      fits = record { allowed = r.fits.allowed; visits = omega (arith, r.fits.visits); bytes = r.fits.bytes };
      printed = r.printed;
      visited = r.visited ∙ z;
      breaks = subst (λ n. Breaks room (length (bytes_in r.before)) n r.first e) z r.breaks;
    }
