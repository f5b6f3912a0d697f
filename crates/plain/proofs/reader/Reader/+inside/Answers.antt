use Rattle.std.proofs.Common.{◌+◌, ◌∷◌, length, drop, ap, ◌∙◌, arith, length-drop}
use Rattle.std.proofs.lemmas.List.{take_rest}
use Rattle.matching.specs.Reader.{times_at}
use Rattle.matching.proofs.Descends.{opened, closed, took, never_closed}
use Rattle.plain.proofs.reader.Reader.+inside.Goals as goal

pub returns-in_err-inside-in-40-clause-reads : goal.returns-in_err-inside-in-40-clause-reads
returns-in_err-inside-in-40-clause-reads t c =
    let r = c.loop-self.self in
    let n = c.add.new.self in
    let l = c.in_ok-left-in-40.ensures in
    λ ks h. rw c.from_residual-in_err-inside-in-40.ensures
    (c.loop-self.invariant.reads ks h
    ∙ opened r.rest.now n.rest.now ks r.groups n.groups r.len n.len r.items n.items (omega arith) (omega arith) c.add.ensures.groups c.add.ensures.len (c.add.ensures.rest ∙ take_rest r.rest.now 1) c.add.ensures.items c.in-40.is (omega arith)
    ∙ c.in_err-inside-in-40.ensures.reads (r.groups ∷ ks) (omega arith))

pub returns-in_default-rest-clause-reads : goal.returns-in_default-rest-clause-reads
returns-in_default-rest-clause-reads t c =
    let r = c.loop-self.self in
    let n = c.add.new.self in
    let i = c.inside.new.self in
    let l = c.in_ok-left-in-40.ensures in
    λ ks h. c.loop-self.invariant.reads ks h
    ∙ opened r.rest.now n.rest.now ks r.groups n.groups r.len n.len r.items n.items (omega arith) (omega arith) c.add.ensures.groups c.add.ensures.len (c.add.ensures.rest ∙ take_rest r.rest.now 1) c.add.ensures.items c.in-40.is (omega arith)
    ∙ c.in_ok-inside-in-40.ensures.reads (r.groups ∷ ks) (omega arith)
    ∙ never_closed i.rest.now r.groups ks i.groups i.len i.items (omega arith)

pub loop-self-preserved-in-40 : goal.loop-self-preserved-in-40
loop-self-preserved-in-40 t c =
    let r = c.loop-self.self in
    let n = c.add.new.self in
    let i = c.inside.new.self in
    let m = c.add-in-40.new.self in
    let l = c.in_ok-left-in-40.ensures in
    let opens = c.add.ensures.rest ∙ take_rest r.rest.now 1 in
    let closes = c.add-in-40.ensures.rest ∙ take_rest i.rest.now 1 in
    record {
      shorter = omega (arith, ap length opens, length-drop 1 r.rest.now, ap length closes, length-drop 1 i.rest.now, c.in_ok-inside-in-40.ensures.shorter);
      reads = λ ks h. c.loop-self.invariant.reads ks h
          ∙ opened r.rest.now n.rest.now ks r.groups n.groups r.len n.len r.items n.items (omega arith) (omega arith) c.add.ensures.groups c.add.ensures.len opens c.add.ensures.items c.in-40.is (omega arith)
          ∙ c.in_ok-inside-in-40.ensures.reads (r.groups ∷ ks) (omega arith)
          ∙ closed i.rest.now m.rest.now ks i.groups m.groups i.len m.len i.items m.items (omega arith) (omega arith) c.add-in-40.ensures.groups c.add-in-40.ensures.len r.groups closes c.add-in-40.ensures.items (c.in_ok-inside-in-40.ensures.stops (omega arith));
    }

pub loop-self-preserved : goal.loop-self-preserved
loop-self-preserved t c =
    let r = c.loop-self.self in
    let a = c.add-in_default-first in
    let n = a.new.self in
    let x = c.in_ok-set-in_default-first in
    let u = c.times-often.result in
    let first = take_rest r.rest.now 1 in
    let takes = a.ensures.rest ∙ take_rest _ (x.further + u.1) ∙ ap (drop (x.further + u.1)) first in
    record {
      shorter = omega (arith, ap length takes, length-drop (x.further + u.1) (drop 1 r.rest.now), length-drop 1 r.rest.now);
      reads = λ ks h. c.loop-self.invariant.reads ks h
          ∙ took r.rest.now n.rest.now ks r.groups n.groups r.len n.len r.items n.items (omega arith) (omega arith) a.ensures.groups a.ensures.len x.set u.0 x.further u.1 takes a.ensures.items (omega arith) (omega arith) x.ensures.set
          (c.times-often.ensures.times ∙ ap times_at (take_rest _ x.further ∙ ap (drop x.further) first));
    }
