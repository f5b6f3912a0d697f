-- A string of calls has one outcome.
use Rattle.std.proofs.Common.{◌≡◌, ℕ, List, [], ◌∷◌, ◌++◌, take, drop, Ok, Err, Result, sym, refl, ap, ◌∙◌}
use Rattle.engine.specs.Rules.{Rule}
use Rattle.terms.specs.Source.{Source}
use Rattle.register.specs.declared.answer.Answer.{Answer}
use Rattle.register.specs.declared.call.Call.{Call}
use Rattle.register.specs.declared.call.Call.TheVariants.{Define, Withdraw, NewFallback, LookUp, ReadBack, Print}
use Rattle.register.specs.declared.error.BookError.{BookError}
use Rattle.register.specs.Calls.{admits, names, done, on_accepted}
use Rattle.register.specs.Laws.{OneOutcome}
use Rattle.register.specs.Register.{Register, served, added, removed, replaced}
use Rattle.register.specs.Runs.{room_of, Turn, defines, refuses_definition, withdraws, refuses_withdrawal, replaces, refuses_fallback, looks_up, reads_back, prints, Run, ends, turns, stepped, said, leaves, register_after, answers_of, area_after}

module _ (rule : Rule) (size : ℕ) (m : Source) where
  -- ---- the computed outcome is one
  turned : (g : Register) (c : Call) (b : List ℕ) → Turn rule size m g c b (said rule size m g c b) (leaves rule size m g c b) (stepped rule size m g c)
  turned g (Define a t) b = go (admits rule size g a.now t.now) refl
    where
      go : (r : Result _ BookError) → admits rule size g a.now t.now ≡ r → Turn rule size m g (Define a t) b (done r) b (on_accepted r g (λ p. added g (record { matcher = p.0; template = t.now })))
      go (Ok p) e = defines e
      go (Err x) e = refuses_definition e
  turned g (Withdraw a) b = go (names g a.now) refl
    where
      go : (r : Result ℕ BookError) → names g a.now ≡ r → Turn rule size m g (Withdraw a) b (done r) b (on_accepted r g (removed g))
      go (Ok i) e = withdraws e
      go (Err x) e = refuses_withdrawal e
  turned g (NewFallback t) b = go (served t.now) refl
    where
      go : (r : Result _ BookError) → served t.now ≡ r → Turn rule size m g (NewFallback t) b (done r) b (on_accepted r g (λ q. replaced g t.now))
      go (Ok q) e = replaces e
      go (Err x) e = refuses_fallback e
  turned g (LookUp name n room) b = looks_up
  turned g (ReadBack a room) b = reads_back
  turned g (Print t room) b = prints

  pub run_computed : (g : Register) (cs : List Call) (area : List ℕ) → Run rule size m g cs area (answers_of rule size m g cs area) (area_after rule size m g cs area) (register_after rule size m g cs)
  run_computed g [] area = ends
  run_computed g (c ∷ cs) area = turns (turned g c (take (room_of c) area)) (run_computed (stepped rule size m g c) cs (drop (room_of c) area))

  -- ---- and there is no other
  record Same (g h : Register) (c : Call) (b b' : List ℕ) (a : Answer) : Type 0 where
    answer : a ≡ said rule size m g c b
    buffer : b' ≡ leaves rule size m g c b
    register : h ≡ stepped rule size m g c

  turn_same : {g h : Register} {c : Call} {b b' : List ℕ} {a : Answer} → Turn rule size m g c b a b' h → Same g h c b b' a
  turn_same (defines {g} {t} e) = record { answer = sym (ap done e); buffer = refl; register = sym (ap (λ r. on_accepted r g (λ p. added g (record { matcher = p.0; template = t.now }))) e) }
  turn_same (refuses_definition {g} {t} e) = record { answer = sym (ap done e); buffer = refl; register = sym (ap (λ r. on_accepted r g (λ p. added g (record { matcher = p.0; template = t.now }))) e) }
  turn_same (withdraws {g} e) = record { answer = sym (ap done e); buffer = refl; register = sym (ap (λ r. on_accepted r g (removed g)) e) }
  turn_same (refuses_withdrawal {g} e) = record { answer = sym (ap done e); buffer = refl; register = sym (ap (λ r. on_accepted r g (removed g)) e) }
  turn_same (replaces {g} {t} e) = record { answer = sym (ap done e); buffer = refl; register = sym (ap (λ r. on_accepted r g (λ q. replaced g t.now)) e) }
  turn_same (refuses_fallback {g} {t} e) = record { answer = sym (ap done e); buffer = refl; register = sym (ap (λ r. on_accepted r g (λ q. replaced g t.now)) e) }
  turn_same looks_up = record { answer = refl; buffer = refl; register = refl }
  turn_same reads_back = record { answer = refl; buffer = refl; register = refl }
  turn_same prints = record { answer = refl; buffer = refl; register = refl }

  run_same : {g h : Register} {cs : List Call} {area after : List ℕ} {xs : List Answer} → Run rule size m g cs area xs after h
      → (xs ≡ answers_of rule size m g cs area) × (after ≡ area_after rule size m g cs area) × (h ≡ register_after rule size m g cs)
  run_same ends = (refl, refl, refl)
  run_same (turns {g} {h} {k} {c} {cs} {area} {mine} {rest} {a} {later} t r) =
      let s = turn_same t in
      let q = run_same r in
      let e = s.register in (
        ap (λ x. x ∷ later) s.answer ∙ ap (λ l. said rule size m g c (take (room_of c) area) ∷ l) (q.0 ∙ ap (λ j. answers_of rule size m j cs (drop (room_of c) area)) e),
        ap (λ l. l ++ rest) s.buffer ∙ ap (λ l. leaves rule size m g c (take (room_of c) area) ++ l) (q.1 ∙ ap (λ j. area_after rule size m j cs (drop (room_of c) area)) e),
        q.2 ∙ ap (λ j. register_after rule size m j cs) e,
      )

pub one-outcome : OneOutcome
one-outcome = record { there = run_computed; only = λ rule size m g h cs area after xs r. run_same rule size m r }
