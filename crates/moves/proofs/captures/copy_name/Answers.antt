use Rattle.std.proofs.Common.{◌≡◌, ◌<◌, ◌≤◌, [], ◌∷◌, ◌++◌, length, take, sym, ap, ◌∙◌, arith, length-set}
use Rattle.std.proofs.lemmas.List.{take_more, take_more_set, take_all}
use Rattle.moves.proofs.Spans.{sized, itemed}
use Rattle.moves.proofs.captures.copy_name.Goals as goal

pub loop-i-preserved : goal.loop-i-preserved
loop-i-preserved g c =
    let m = g.S.TermSource.view c.args.source.now in
    let n = m.name c.args.term in
    let o = c.loop-i.out in
    let i = c.loop-i.i in
    let sh : length n ≤ 255 = m.short c.args.term in
    let len = sized m.count c.args.term c.unwrap_or-len.result n c.name_len.result c.name_len.ensures c.unwrap_or-len.ensures (m.nameless c.args.term) in
    let q : i < length n = omega arith in
    let e = itemed i c.unwrap_or.result n c.name_byte.result q c.name_byte.ensures c.unwrap_or.ensures in
    let h : i < length o = omega (arith, q) in (
      length-set o i _ ∙ c.loop-i.invariant.0,
      take_more_set o i _ h ∙ ap (λ l. l ++ c.unwrap_or.result ∷ []) c.loop-i.invariant.1 ∙ ap (λ x. take i n ++ x ∷ []) e ∙ sym (take_more n i 0 q),
    )

pub returns : goal.returns
returns g c =
    let m = g.S.TermSource.view c.args.source.now in
    let n = m.name c.args.term in
    let q = sized m.count c.args.term c.unwrap_or-len.result n c.name_len.result c.name_len.ensures c.unwrap_or-len.ensures (m.nameless c.args.term) in
    let e : c.loop-i.i ≡ c.unwrap_or-len.result = omega arith in
    record {
      size = q;
      copied = ap (λ k. take k c.loop-i.out) (sym e) ∙ c.loop-i.invariant.1 ∙ take_all c.loop-i.i n (omega (arith, e, q));
    }
