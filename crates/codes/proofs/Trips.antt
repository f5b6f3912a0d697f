-- Codes of accepted templates: decoded, written back, and none begins another.
use Rattle.std.proofs.Common.{◌≡◌, ℕ, ◌*◌, ◌≤◌, true, not, ◌&&◌, eqb, leb, List, [], ◌∷◌, length, Some, sym, ap, ◌∙◌, subst, append-nil, arith}
use Rattle.std.proofs.lemmas.Bool.{and_parts, and_from}
use Rattle.grammar.specs.Deep.{within_by, limited_separator, limited_repeat, limited}
use Rattle.grammar.specs.Limits.{step_allowance, piece_allowance}
use Rattle.grammar.specs.Readings.{Piece, text, child, capture, repeat, Separator, Repeat, Template}
use Rattle.codes.specs.Acceptable.{code_limit, clear, separates, repeats, acceptable, decode, Coded, AcceptedAs, CodeOf}
use Rattle.codes.specs.Code.{code}
use Rattle.codes.specs.Formed.{FormedTemplate}
use Rattle.codes.specs.Laws.{PrefixFree, Decodes, DecodesAccepted, RoundTrip, SameCode, NoCodeBegins}
use Rattle.codes.specs.Written.{write}
use Rattle.codes.proofs.Accepted.{accepted_formed}
use Rattle.codes.proofs.Bounds.{bounded}
use Rattle.codes.proofs.Closing.{reads-back}
use Rattle.codes.proofs.WrittenBytes.{write_bytes}

-- ---- what is acceptable is within the limits
separator_limited : (r : Separator) → separates step_allowance r ≡ true → limited_separator r ≡ true
separator_limited r h = (and_parts (limited_separator r) (clear (not (eqb r.right 0)) r.pieces) h).0

repeat_limited : (x : Repeat) → repeats step_allowance x ≡ true → limited_repeat x ≡ true
repeat_limited x h =
    let p = and_parts (separates step_allowance x.before) (separates step_allowance x.between && separates step_allowance x.behind) h in
    let q = and_parts (separates step_allowance x.between) (separates step_allowance x.behind) p.1 in
    and_from _ _ (separator_limited x.before p.0) (and_from _ _ (separator_limited x.between q.0) (separator_limited x.behind q.1))

pieces_limited : (ps : List (Piece Repeat)) → within_by step_allowance (repeats step_allowance) ps ≡ true → within_by step_allowance limited_repeat ps ≡ true
pieces_limited [] h = h
pieces_limited (text b bs ∷ ps) h = pieces_limited ps h
pieces_limited (child s i l r ∷ ps) h =
    let p = and_parts (leb (length s) step_allowance) (within_by step_allowance (repeats step_allowance) ps) h in
    and_from _ _ p.0 (pieces_limited ps p.1)
pieces_limited (capture n ∷ ps) h = pieces_limited ps h
pieces_limited (repeat s x ∷ ps) h =
    let p = and_parts (leb (length s) step_allowance) (repeats step_allowance x && within_by step_allowance (repeats step_allowance) ps) h in
    let q = and_parts (repeats step_allowance x) (within_by step_allowance (repeats step_allowance) ps) p.1 in
    and_from _ _ p.0 (and_from _ _ (repeat_limited x q.0) (pieces_limited ps q.1))

template_limited : (r : Template) → acceptable step_allowance r ≡ true → limited r ≡ true
template_limited r h =
    let p = and_parts (leb (length r.pieces) piece_allowance) (within_by step_allowance (repeats step_allowance) r.pieces) h in
    and_from _ _ p.0 (pieces_limited r.pieces p.1)

-- ---- the template written back is accepted
four_times : (a b : ℕ) → a ≤ 4 * b → b ≤ 1024 → a ≤ 4096
four_times a b h k = omega arith

pub written_accepted : (r : Template) → FormedTemplate r → acceptable step_allowance r ≡ true → length (code r) ≤ code_limit → AcceptedAs (write r) r
written_accepted r f a h = record {
  typed = write_bytes r f;
  short = four_times (length (write r)) (length (code r)) (bounded r f) h;
  reads = reads-back r f a;
  within = template_limited r a;
}

coded_accepted : (c : List ℕ) (r : Template) → Coded step_allowance c r → AcceptedAs (write r) r
coded_accepted c r k = written_accepted r k.formed k.allowed (subst (λ (l : List ℕ). length l ≤ code_limit) k.is k.short)

pub decodes_accepted : Decodes → DecodesAccepted
decodes_accepted d c r = (forth, back)
  where
    forth : decode c ≡ Some r → CodeOf c r
    forth e =
        let k = (d step_allowance c r).0 e in
        record { template = write r; accepted = coded_accepted c r k; is = k.is; fits = k.short }

    back : CodeOf c r → decode c ≡ Some r
    back g =
        let f = accepted_formed g.template r g.accepted in
        (d step_allowance c r).1 (record { is = g.is; formed = f.0; allowed = f.1; short = g.fits })

pub round_trip : Decodes → RoundTrip
round_trip d c r e = let k = (d step_allowance c r).0 e in (coded_accepted c r k, sym k.is)

pub no_code-begins : PrefixFree → NoCodeBegins
no_code-begins p s t a b x g h e = (p a b x [] (accepted_formed s a g).0 (accepted_formed t b h).0 (e ∙ sym (append-nil (code b)))).0

pub same_code : PrefixFree → SameCode
same_code p s t a b g h = ((λ e. no_code-begins p s t a b [] g h (append-nil (code a) ∙ e)), λ e. ap code e)
