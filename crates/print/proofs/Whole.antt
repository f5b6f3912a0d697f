-- What a print answers and leaves, from what its events do.
use Rattle.std.proofs.Common.{◌≡◌, ℕ, ◌<◌, ◌≤◌, List, [], ◌++◌, length, Some, None, Ok, Err, Option, Result, sym, refl, ap, ◌∙◌}
use Rattle.std.proofs.lemmas.List.{take-append-drop}
use Rattle.std.proofs.lemmas.Bool.{cond-true, cond-false, lt-ltb, le-ltb}
use Rattle.lines.specs.Chosen.{Choosing}
use Rattle.lines.specs.Cut.{cut, stopped, printing, ended, answer, left}
use Rattle.lines.specs.Events.{line, alone}
use Rattle.lines.specs.declared.answer.Printed.{Printed}
use Rattle.lines.specs.declared.answer.Unfinished.{Unfinished}
use Rattle.lines.specs.declared.error.LineError.{LineError}
use Rattle.lines.specs.declared.error.LineError.TheVariants.{NoSuchTerm}
use Rattle.terms.specs.Source.{Source}
use Rattle.moves.proofs.Runs.{end_of, leaves, run-cut, same_buffer}
use Rattle.moves.specs.Run.{Outcome, State, state, fresh, outcome, run}
use Rattle.moves.specs.declared.writing.LinePen.{LinePen}

-- the answer to an outcome
abbrev pub told : State → Result (Unit {0}) LineError → Result Printed Unfinished
told s (Ok x) = Ok (record { visits = s.visits; count = length s.page.written })
told s (Err e) = Err (record { kind = e; count = length s.page.written })

told_ended : (s : State) (e : Option LineError) → told s (end_of e) ≡ ended (length s.page.written) s.visits e
told_ended s None = refl
told_ended s (Some e) = refl

module _ (ch : Choosing) (m : Source) (t : ℕ) (name : ℕ) (out : List ℕ) where
  whole : t < m.count → cut (length out) 0 (line ch m 1 t alone) ≡ printing ch m t (length out)
  whole l = sym (cond-true _ _ _ (lt-ltb t m.count l))

  module _ (pen : LinePen) (r : Result (Unit {0}) LineError) (l : t < m.count) (h : outcome pen r ≡ run (line ch m 1 t alone) (fresh name out)) where
    all : outcome pen r ≡ leaves name [] out (printing ch m t (length out))
    all = h ∙ run-cut name (line ch m 1 t alone) [] out 0 ∙ ap (leaves name [] out) (whole l)

    pub answers : told (state pen) r ≡ answer (printing ch m t (length out))
    answers =
        let c = printing ch m t (length out) in
        ap (λ (o : Outcome). told o.state o.end) all ∙ told_ended (leaves name [] out c).state c.end

    pub leaves_so : pen.out.now ≡ left (printing ch m t (length out)) out
    leaves_so = sym (take-append-drop pen.at pen.out.now) ∙ ap (λ (o : Outcome). o.state.page.written ++ o.state.page.rest) all

    pub same : pen.out.ghost_name ≡ name
    same = ap (λ (o : Outcome). o.state.buffer) h ∙ same_buffer (line ch m 1 t alone) (fresh name out)

  none : m.count ≤ t → stopped 0 NoSuchTerm ≡ printing ch m t (length out)
  none l = sym (cond-false _ _ _ (le-ltb t m.count l))

  pub answers_none : m.count ≤ t → Err (record { kind = NoSuchTerm; count = 0 }) ≡ answer (printing ch m t (length out))
  answers_none l = ap answer (none l)

  pub leaves_none : m.count ≤ t → out ≡ left (printing ch m t (length out)) out
  leaves_none l = ap (λ c. left c out) (none l)
