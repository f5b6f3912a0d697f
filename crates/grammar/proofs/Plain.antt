-- What holds no `)$` holds no repeat: it reads in the same way with repeats allowed and without.
use Rattle.std.proofs.Common.{◌≡◌, ℕ, suc, ◌≤◌, true, false, ◌&&◌, leb, List, [], ◌∷◌, ◌++◌, length, sym, refl, ap, ◌∙◌, subst, ap₂, append_assoc, arith}
use Rattle.std.proofs.lemmas.Bool.{and_parts, and_from, leb-true, le-leb, false≢true}
use Rattle.grammar.specs.Deep.{texted, plains, limited_by, limited_separator}
use Rattle.grammar.specs.Grammar.{is_child, is_capture, is_repeat, Body, over, control, words, Prefix, Suffix, ReadsBy, NoRepeat, ReadsSeparator}
use Rattle.grammar.specs.Limits.{step_allowance, piece_allowance}
use Rattle.grammar.specs.Marks.{closes, halve}
use Rattle.grammar.specs.Numbers.{numeral, bits}
use Rattle.grammar.specs.Paths.{steps_of}
use Rattle.grammar.specs.Readings.{Piece, text, child, capture, repeat, Reading, Separator, NoText}
use Rattle.grammar.specs.Shapes.{Shape, typed_text, typed_child, typed_repeat, typed_capture}
use Rattle.grammar.proofs.MarksFound.{closes-left, closes_right}
use Rattle.grammar.proofs.Unread.{unreads, stepped}

-- ---- a part of what holds no `)$` holds none
pub prefix_closes : {t rest : List ℕ} {n : ℕ} → Prefix t n rest → closes t ≡ false → closes rest ≡ false
prefix_closes (Prefix.absent e) h = h
prefix_closes (Prefix.stands {n} {t} w) h =
    closes_right (36 ∷ numeral n ++ 36 ∷ []) t (subst (λ (l : List ℕ). closes (36 ∷ l) ≡ false) (sym (append_assoc (numeral n) (36 ∷ []) t)) h)

suffix_closes : {t body : List ℕ} {n : ℕ} → Suffix t n body → closes t ≡ false → closes body ≡ false
suffix_closes (Suffix.absent e) h = h
suffix_closes (Suffix.stands {n} {t} w) h = closes-left t (36 ∷ numeral n ++ 36 ∷ []) h

repeat_closes : {P : Type 0} (t rest : List ℕ) → closes ((36 ∷ 40 ∷ 35 ∷ t ++ 41 ∷ 36 ∷ []) ++ rest) ≡ false → P
repeat_closes t rest h =
    absurd (false≢true (sym (closes_right t (41 ∷ 36 ∷ rest) (subst (λ (l : List ℕ). closes l ≡ false) (append_assoc t (41 ∷ 36 ∷ []) rest) h))))

-- ---- the pieces that are no repeats
abbrev pub shed : {R : Type 0} → List (Piece R) → List (Piece ⊥)
shed [] = []
shed (text b bs ∷ ps) = text b bs ∷ shed ps
shed (child s i l r ∷ ps) = child s i l r ∷ shed ps
shed (capture n ∷ ps) = capture n ∷ shed ps
shed (repeat s x ∷ ps) = shed ps

-- pieces without repeats, where repeats may stand
abbrev pub embed : {R : Type 0} → List (Piece ⊥) → List (Piece R)
embed [] = []
embed (text b bs ∷ qs) = text b bs ∷ embed qs
embed (child s i l r ∷ qs) = child s i l r ∷ embed qs
embed (capture n ∷ qs) = capture n ∷ embed qs
embed (repeat s x ∷ qs) = absurd x

abbrev pub shedding : {R : Type 0} → Reading R → Separator
shedding r = record { left = r.left; right = r.right; pieces = shed r.pieces }

abbrev pub embedded : {R : Type 0} → Separator → Reading R
embedded r = record { left = r.left; right = r.right; pieces = embed r.pieces }

pub shed_embed : (R : Type 0) (qs : List (Piece ⊥)) → shed {R = R} (embed qs) ≡ qs
shed_embed R [] = refl
shed_embed R (text b bs ∷ qs) = ap (λ l. text b bs ∷ l) (shed_embed R qs)
shed_embed R (child s i l r ∷ qs) = ap (λ m. child s i l r ∷ m) (shed_embed R qs)
shed_embed R (capture n ∷ qs) = ap (λ l. capture n ∷ l) (shed_embed R qs)
shed_embed R (repeat s x ∷ qs) = absurd x

texted_shed : {R : Type 0} (u : List ℕ) (ps : List (Piece R)) → shed (texted u ps) ≡ texted u (shed ps)
texted_shed [] ps = refl
texted_shed (b ∷ bs) ps = refl

pub plains_shed : (ss : List Shape) → plains ss ≡ shed (unreads ss)
plains_shed [] = refl
plains_shed (typed_text t ∷ ss) = ap (texted (halve 36 t)) (plains_shed ss) ∙ sym (texted_shed (halve 36 t) (unreads ss))
plains_shed (typed_child p i b ∷ ss) = ap (λ l. child (steps_of p) (bits i.0) b.left b.right ∷ l) (plains_shed ss)
plains_shed (typed_repeat x ∷ ss) = plains_shed ss
plains_shed (typed_capture n ∷ ss) = ap (λ l. capture n ∷ l) (plains_shed ss)

embed_no_text : (R : Type 0) (qs : List (Piece ⊥)) → NoText qs → NoText (embed {R = R} qs)
embed_no_text R [] n = tt
embed_no_text R (text b bs ∷ qs) n = n
embed_no_text R (child s i l r ∷ qs) n = tt
embed_no_text R (capture k ∷ qs) n = tt
embed_no_text R (repeat s x ∷ qs) n = absurd x

-- ---- without the repeats, and back
module _ {R : Type 0} {Q : List ℕ → List ℕ → R → Type 0} where
  shed_no_text : {t : List ℕ} {ps : List (Piece R)} → Body Q t ps → closes t ≡ false → NoText ps → NoText (shed ps)
  shed_no_text over h n = tt
  shed_no_text (control (is_child g k) b) h n = tt
  shed_no_text (control (is_capture g) b) h n = tt
  shed_no_text (control {t = rest} (is_repeat {t} g) b) h n = repeat_closes t rest h
  shed_no_text (words g m b) h n = absurd n

  body_shed : {t : List ℕ} {ps : List (Piece R)} → Body Q t ps → closes t ≡ false → Body NoRepeat t (shed ps)
  body_shed over h = over
  body_shed (control {c} {t} (is_child g k) b) h = control (is_child g k) (body_shed b (closes_right c t h))
  body_shed (control {c} {t} (is_capture g) b) h = control (is_capture g) (body_shed b (closes_right c t h))
  body_shed (control {t = rest} (is_repeat {t} g) b) h = repeat_closes t rest h
  body_shed (words {c} {t} g n b) h = words g (shed_no_text b (closes_right c t h) n) (body_shed b (closes_right c t h))

  pub reads_shed : {t : List ℕ} {r : Reading R} → ReadsBy Q t r → closes t ≡ false → ReadsSeparator t (shedding r)
  reads_shed g h = record {
    rest = g.rest;
    body = g.body;
    prefix = g.prefix;
    suffix = g.suffix;
    pieces = body_shed g.pieces (suffix_closes g.suffix (prefix_closes g.prefix h));
  }

  body_embed : {t : List ℕ} {qs : List (Piece ⊥)} → Body NoRepeat t qs → Body Q t (embed qs)
  body_embed over = over
  body_embed (control (is_child g k) b) = control (is_child g k) (body_embed b)
  body_embed (control (is_capture g) b) = control (is_capture g) (body_embed b)
  body_embed (control (is_repeat g) b) = absurd g
  body_embed (words {ps = qs} g n b) = words g (embed_no_text R qs n) (body_embed b)

  pub reads_embed : {t : List ℕ} {r : Separator} → ReadsSeparator t r → ReadsBy Q t (embedded r)
  reads_embed g = record { rest = g.rest; body = g.body; prefix = g.prefix; suffix = g.suffix; pieces = body_embed g.pieces }

-- ---- limits
shed_length : {R : Type 0} (ps : List (Piece R)) → length (shed ps) ≤ length ps
shed_length [] = omega arith
shed_length (text b bs ∷ ps) = omega (arith, shed_length ps)
shed_length (child s i l r ∷ ps) = omega (arith, shed_length ps)
shed_length (capture n ∷ ps) = omega (arith, shed_length ps)
shed_length (repeat s x ∷ ps) = omega (arith, shed_length ps)

shed_within : {R : Type 0} (ps : List (Piece R)) → stepped ps ≡ true → stepped (shed ps) ≡ true
shed_within [] h = refl
shed_within (text b bs ∷ ps) h = shed_within ps h
shed_within (child s i l r ∷ ps) h =
    let p = and_parts (leb (length s) step_allowance) (stepped ps) h in
    and_from (leb (length s) step_allowance) (stepped (shed ps)) p.0 (shed_within ps p.1)
shed_within (capture n ∷ ps) h = shed_within ps h
shed_within (repeat s x ∷ ps) h = shed_within ps (and_parts (leb (length s) step_allowance) (stepped ps) h).1

pub shed_limited : {R : Type 0} (r : Reading R) → limited_by (λ x. true) r ≡ true → limited_separator (shedding r) ≡ true
shed_limited r h =
    let p = and_parts (leb (length r.pieces) piece_allowance) (stepped r.pieces) h in
    and_from (leb (length (shed r.pieces)) piece_allowance) (stepped (shed r.pieces))
    (le-leb (length (shed r.pieces)) piece_allowance (omega (arith, shed_length r.pieces, leb-true (length r.pieces) piece_allowance p.0)))
    (shed_within r.pieces p.1)

embed_length : (R : Type 0) (qs : List (Piece ⊥)) → length (embed {R = R} qs) ≡ length qs
embed_length R [] = refl
embed_length R (text b bs ∷ qs) = ap suc (embed_length R qs)
embed_length R (child s i l r ∷ qs) = ap suc (embed_length R qs)
embed_length R (capture n ∷ qs) = ap suc (embed_length R qs)
embed_length R (repeat s x ∷ qs) = absurd x

embed_within : (R : Type 0) (qs : List (Piece ⊥)) → stepped (embed {R = R} qs) ≡ stepped qs
embed_within R [] = refl
embed_within R (text b bs ∷ qs) = embed_within R qs
embed_within R (child s i l r ∷ qs) = ap (λ b. leb (length s) step_allowance && b) (embed_within R qs)
embed_within R (capture n ∷ qs) = embed_within R qs
embed_within R (repeat s x ∷ qs) = absurd x

pub embed_limited : (R : Type 0) (r : Separator) → limited_separator r ≡ true → limited_by {R = R} (λ x. true) (embedded r) ≡ true
embed_limited R r h = ap₂ (λ n b. leb n piece_allowance && b) (embed_length R r.pieces) (embed_within R r.pieces) ∙ h
