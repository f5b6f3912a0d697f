use Rattle.std.proofs.Common.{◌≡◌, rules, ◌<◌, ◌≤◌, Ok, Err, ap, ◌∙◌, arith}
use Rattle.lines.proofs.Whole.{laws_hold}
use Rattle.moves.specs.Run.{run}
use Rattle.lines.specs.Events.{line, alone}
use Rattle.print.proofs.Whole.{answers, leaves_so, answers_none, leaves_none}
use Rattle.print.proofs.printing.print.Goals as goal

pub returns-in-Ok : goal.returns-in-Ok
returns-in-Ok g c =
    let ch = (g.C.Chooser.choices c.args.chooser.now).chosen in
    let m = g.S.TermSource.view c.args.source.now in
    let t = c.args.term in
    let out = c.args.out.now in
    let l : t < m.count = omega arith in
    let h = c.in-Ok.ensures.shown ∙ ap (run (line ch m 1 t alone)) c.new-pen.ensures.state in
    let k : _ ≡ c.begin-shown.new.pen.out.now = search rules in
    record {
      answer = (λ i. Ok (record { visits = c.printed-printed.ensures.visits i; count = c.printed-printed.ensures.count i })) ∙ answers ch m t _ out c.begin-shown.new.pen (Ok c.in-Ok.field-0) l h;
      buffer = k ∙ leaves_so ch m t _ out c.begin-shown.new.pen (Ok c.in-Ok.field-0) l h;
      laws = laws_hold;
    }

pub returns-in-Err : goal.returns-in-Err
returns-in-Err g c =
    let ch = (g.C.Chooser.choices c.args.chooser.now).chosen in
    let m = g.S.TermSource.view c.args.source.now in
    let t = c.args.term in
    let out = c.args.out.now in
    let l : t < m.count = omega arith in
    let h = c.in-Err.ensures.shown ∙ ap (run (line ch m 1 t alone)) c.new-pen.ensures.state in
    let k : _ ≡ c.begin-shown.new.pen.out.now = search rules in
    record {
      answer = (λ i. Err (record { kind = c.in-Err.kind; count = c.printed-printed.ensures.count i })) ∙ answers ch m t _ out c.begin-shown.new.pen (Err c.in-Err.kind) l h;
      buffer = k ∙ leaves_so ch m t _ out c.begin-shown.new.pen (Err c.in-Err.kind) l h;
      laws = laws_hold;
    }

pub returns-then-term-count : goal.returns-then-term-count
returns-then-term-count g c =
    let ch = (g.C.Chooser.choices c.args.chooser.now).chosen in
    let m = g.S.TermSource.view c.args.source.now in
    let l : m.count ≤ c.args.term = omega arith in
    record {
      answer = answers_none ch m c.args.term 0 c.args.out.now l;
      buffer = leaves_none ch m c.args.term 0 c.args.out.now l;
      laws = laws_hold;
    }
