-- The pieces of a body are read as the grammar and the limits have it.
use Rattle.std.proofs.Common.{◌≡◌, ℕ, zero, suc, ◌+◌, ◌≤◌, true, false, cond, eqb, leb, List, [], ◌∷◌, ◌++◌, length, take, drop, Some, None, Ok, Option, Result, sym, refl, ap, ◌∙◌, subst, arith}
use Rattle.std.proofs.lemmas.List.{take_at, drop_at, take-append-drop}
use Rattle.std.proofs.lemmas.Bool.{and_parts, and_from, cond-false, ne_eqb}
use Rattle.refusal.specs.declared.error.FormatterError.TheVariants.{TooManyPieces}
use Rattle.grammar.specs.Controls.{control_at}
use Rattle.grammar.specs.Deep.{texted}
use Rattle.grammar.specs.Grammar.{Control, Doubled, done, mark, other, Body, over, control, words}
use Rattle.grammar.specs.Limits.{step_allowance}
use Rattle.grammar.specs.Marks.{begins, unpaired, halve}
use Rattle.grammar.specs.Readings.{Piece, text, child, capture, repeat, RepeatOf, NoText}
use Rattle.grammar.specs.Results.{on_ok, on_some, refusal, Fault}
use Rattle.grammar.specs.Shapes.{Shape, typed_text}
use Rattle.grammar.specs.Templates.{leading, piece_at, body_at}
use Rattle.grammar.proofs.Chains.{by_on_ok, same_ok, refused}
use Rattle.grammar.proofs.TextsRead.{Stops, halve_doubled, unpaired_stops, unpaired_doubled, control_starts, body_no_text, body_stops, text_doubled, text_stops, text_long}
use Rattle.grammar.proofs.Unread.{Raw, unreads, stepped, ControlRead, ControlForth, ControlFound, ControlBack}

-- a piece whose separators are still texts
abbrev pub RawPiece : Type 0
RawPiece = Piece (RepeatOf (List ℕ))

-- ---- the limit of steps
pub stepped-join : {R : Type 0} (p : Piece R) (ps : List (Piece R)) → stepped (p ∷ []) ≡ true → stepped ps ≡ true → stepped (p ∷ ps) ≡ true
stepped-join (text b bs) ps e h = h
stepped-join (child s i l r) ps e h = and_from (leb (length s) step_allowance) (stepped ps) (and_parts (leb (length s) step_allowance) true e).0 h
stepped-join (capture n) ps e h = h
stepped-join (repeat s x) ps e h = and_from (leb (length s) step_allowance) (stepped ps) (and_parts (leb (length s) step_allowance) true e).0 h

pub stepped_head : {R : Type 0} (p : Piece R) (ps : List (Piece R)) → stepped (p ∷ ps) ≡ true → stepped (p ∷ []) ≡ true
stepped_head (text b bs) ps e = refl
stepped_head (child s i l r) ps e = and_from (leb (length s) step_allowance) true (and_parts (leb (length s) step_allowance) (stepped ps) e).0 refl
stepped_head (capture n) ps e = refl
stepped_head (repeat s x) ps e = and_from (leb (length s) step_allowance) true (and_parts (leb (length s) step_allowance) (stepped ps) e).0 refl

pub stepped_tail : {R : Type 0} (p : Piece R) (ps : List (Piece R)) → stepped (p ∷ ps) ≡ true → stepped ps ≡ true
stepped_tail (text b bs) ps e = e
stepped_tail (child s i l r) ps e = (and_parts (leb (length s) step_allowance) (stepped ps) e).1
stepped_tail (capture n) ps e = e
stepped_tail (repeat s x) ps e = (and_parts (leb (length s) step_allowance) (stepped ps) e).1

-- ---- one piece
pub data PieceRead (cs : List ℕ) : Option (Shape × ℕ) → Type 0 where
  ended : cs ≡ [] → PieceRead cs None
  controlled : {q : Shape × ℕ} (c rest : List ℕ) (p : RawPiece) → cs ≡ c ++ rest → length c ≡ q.1 → Control Raw c p
      → ((ss : List Shape) → unreads (q.0 ∷ ss) ≡ p ∷ unreads ss) → stepped (p ∷ []) ≡ true → PieceRead cs (Some q)
  worded : {q : Shape × ℕ} (c rest u : List ℕ) → cs ≡ c ++ rest → length c ≡ q.1 → Doubled c u → Stops rest → q.0 ≡ typed_text c → PieceRead cs (Some q)

control_read : (q : Shape × ℕ) (c : ℕ) (cs : List ℕ) → c ≡ 36 → ControlRead cs q.0 q.1 → (n : ℕ) → n ≡ suc q.1 → PieceRead (c ∷ cs) (Some (q.0, n))
control_read q c cs e r n m =
    controlled (36 ∷ r.front) r.rest r.piece (cc) (ap suc r.long ∙ sym m) r.control r.means r.steps

leading_forth : ControlForth → (place : ℕ) (cs : List ℕ) (o : Option (Shape × ℕ)) → Stops cs → leading place cs ≡ Ok o → PieceRead cs o
leading_forth f place [] o s e = subst (PieceRead []) (same_ok None o e) (ended refl)
leading_forth f place (c ∷ cs) o s e =
    let v = by_on_ok (control_at (place + 1) cs) _ o e in
    let q = v.0 in
    subst (PieceRead (c ∷ cs)) (same_ok (Some (q.0, suc q.1)) o v.2) (control_read q c cs s.0 (f (place + 1) cs q.0 q.1 v.1) (suc q.1) refl)

worded_forth : (cs : List ℕ) (k : ℕ) (o : Option (Shape × ℕ)) → k ≡ unpaired 36 cs → ◌≡◌ {A = Result (Option (Shape × ℕ)) Fault} (Ok (Some (typed_text (take k cs), k))) (Ok o) → PieceRead cs o
worded_forth cs k o z e =
    let d : Doubled (take k cs) (halve 36 (take k cs)) = subst (λ (m : ℕ). Doubled (take m cs) (halve 36 (take m cs))) (sym z) (text_doubled cs) in
    let s : Stops (drop k cs) = subst (λ (m : ℕ). Stops (drop m cs)) (sym z) (text_stops cs) in
    subst (PieceRead cs) (same_ok (Some (typed_text (take k cs), k)) o e)
    (worded (take k cs) (drop k cs) (halve 36 (take k cs)) (sym (take-append-drop k cs)) (subst (λ (m : ℕ). length (take m cs) ≡ m) (sym z) (text_long cs)) d s refl)

pub piece_forth : ControlForth → (place : ℕ) (cs : List ℕ) (o : Option (Shape × ℕ)) → piece_at place cs ≡ Ok o → PieceRead cs o
piece_forth f place cs o e = go (unpaired 36 cs) refl e
  where
    go : (k : ℕ) → k ≡ unpaired 36 cs → on_ok (leading (place + k) (drop k cs)) (λ next. cond (eqb k 0) (Ok next) (Ok (Some (typed_text (take k cs), k)))) ≡ Ok o → PieceRead cs o
    go zero z h =
        let v = by_on_ok (leading (place + 0) cs) _ o h in
        leading_forth f (place + 0) cs o (subst (λ (m : ℕ). Stops (drop m cs)) (sym z) (text_stops cs)) (v.1 ∙ v.2)
    go (suc k) z h =
        let v = by_on_ok (leading (place + suc k) (drop (suc k) cs)) _ o h in
        worded_forth cs (suc k) o z (sym (cond-false (eqb (suc k) 0) (Ok v.0) (Ok (Some (typed_text (take (suc k) cs), suc k))) (ne_eqb (suc k) 0 (λ y. omega arith))) ∙ v.2)

-- ---- the pieces in a row
pub record BodyRead (left : ℕ) (cs : List ℕ) (ss : List Shape) : Type 0 where
  pub pieces : Body Raw cs (unreads ss)
  pub count : length (unreads ss) ≤ left
  pub steps : stepped (unreads ss) ≡ true

text_in_front : {R : Type 0} {Q : List ℕ → List ℕ → R → Type 0} {c u t : List ℕ} {ps : List (Piece R)} → Doubled c u → NoText ps → Body Q t ps → Body Q (c ++ t) (texted u ps)
text_in_front done n b = b
text_in_front (mark d) n b = words (mark d) n b
text_in_front (other h d) n b = words (other h d) n b

texted_long : {R : Type 0} (u : List ℕ) (ps : List (Piece R)) → length (texted u ps) ≤ suc (length ps)
texted_long [] ps = omega arith
texted_long (b ∷ bs) ps = omega arith

texted-steps : {R : Type 0} (u : List ℕ) (ps : List (Piece R)) → stepped (texted u ps) ≡ stepped ps
texted-steps [] ps = refl
texted-steps (b ∷ bs) ps = refl

controlled_more : (left : ℕ) (c t : List ℕ) (p : RawPiece) (s : Shape) (ss : List Shape) → Control Raw c p → unreads (s ∷ ss) ≡ p ∷ unreads ss → stepped (p ∷ []) ≡ true
    → BodyRead left t ss → BodyRead (suc left) (c ++ t) (s ∷ ss)
controlled_more left c t p s ss k m h r =
    let n = r.count in
    record {
      pieces = subst (λ (l : List RawPiece). Body Raw (c ++ t) l) (sym m) (control k r.pieces);
      count = subst (λ (l : List RawPiece). length l ≤ suc left) (sym m) (omega arith);
      steps = subst (λ (l : List RawPiece). stepped l ≡ true) (sym m) (stepped-join p (unreads ss) h r.steps);
    }

worded_more : (left : ℕ) (c t u : List ℕ) (ss : List Shape) → Doubled c u → Stops t → BodyRead left t ss → BodyRead (suc left) (c ++ t) (typed_text c ∷ ss)
worded_more left c t u ss d h r =
    let m : unreads (typed_text c ∷ ss) ≡ texted u (unreads ss) = ap (λ (l : List ℕ). texted l (unreads ss)) (halve_doubled d) in
    let n = r.count in
    let long = texted_long u (unreads ss) in
    record {
      pieces = subst (λ (l : List RawPiece). Body Raw (c ++ t) l) (sym m) (text_in_front d (body_no_text h r.pieces) r.pieces);
      count = subst (λ (l : List RawPiece). length l ≤ suc left) (sym m) (omega arith);
      steps = ap stepped m ∙ texted-steps u (unreads ss) ∙ r.steps;
    }

body_more : (left : ℕ) (cs : List ℕ) (q : Shape × ℕ) (ss : List Shape) → PieceRead cs (Some q) → BodyRead left (drop q.1 cs) ss → BodyRead (suc left) cs (q.0 ∷ ss)
body_more left cs q ss (controlled c rest p is long k m h) r =
    subst (λ (l : List ℕ). BodyRead (suc left) l (q.0 ∷ ss)) (sym is)
    (controlled_more left c rest p q.0 ss k (m ss) h (subst (λ (l : List ℕ). BodyRead left l ss) (ap (drop q.1) is ∙ drop_at c rest q.1 long) r))
body_more left cs q ss (worded c rest u is long d h e) r =
    subst (λ (l : List ℕ). BodyRead (suc left) l (q.0 ∷ ss)) (sym is)
    (subst (λ (s : Shape). BodyRead (suc left) (c ++ rest) (s ∷ ss)) (sym e)
    (worded_more left c rest u ss d h (subst (λ (l : List ℕ). BodyRead left l ss) (ap (drop q.1) is ∙ drop_at c rest q.1 long) r)))

body_ended : (left : ℕ) (cs : List ℕ) (ss : List Shape) → PieceRead cs None → ◌≡◌ {A = Result (List Shape) Fault} (Ok []) (Ok ss) → BodyRead left cs ss
body_ended left cs ss (ended z) e =
    subst (BodyRead left cs) (same_ok [] ss e) (subst (λ (l : List ℕ). BodyRead left l []) (sym z) (record { pieces = over; count = omega arith; steps = refl }))

pub body_forth : ControlForth → (left place : ℕ) (cs : List ℕ) (ss : List Shape) → body_at left place cs ≡ Ok ss → BodyRead left cs ss
body_forth f zero place cs ss e =
    let v = by_on_ok (piece_at place cs) _ ss e in
    go v.0 (piece_forth f place cs v.0 v.1) v.2
  where
    go : (o : Option (Shape × ℕ)) → PieceRead cs o → on_some o (Ok []) (λ p. refusal TooManyPieces place p.1) ≡ Ok ss → BodyRead 0 cs ss
    go None r h = body_ended 0 cs ss r h
    go (Some p) r h = refused _ _ h
body_forth f (suc left) place cs ss e =
    let v = by_on_ok (piece_at place cs) _ ss e in
    go (λ q ts. body_forth f left (place + q.1) (drop q.1 cs) ts) v.0 (piece_forth f place cs v.0 v.1) v.2
  where
    go : ((q : Shape × ℕ) (ts : List Shape) → body_at left (place + q.1) (drop q.1 cs) ≡ Ok ts → BodyRead left (drop q.1 cs) ts) → (o : Option (Shape × ℕ)) → PieceRead cs o
        → on_some o (Ok []) (λ p. on_ok (body_at left (place + p.1) (drop p.1 cs)) (λ ts. Ok (p.0 ∷ ts))) ≡ Ok ss → BodyRead (suc left) cs ss
    go ih None r h = body_ended (suc left) cs ss r h
    go ih (Some q) r h =
        let w = by_on_ok (body_at left (place + q.1) (drop q.1 cs)) _ ss h in
        subst (BodyRead (suc left) cs) (same_ok (q.0 ∷ w.0) ss w.2) (body_more left cs q w.0 r (ih q w.0 w.1))

-- ---- what the grammar has is read
abbrev pub piece_by : ℕ → List ℕ → ℕ → Result (Option (Shape × ℕ)) Fault
piece_by place cs k = on_ok (leading (place + k) (drop k cs)) (λ next. cond (eqb k 0) (Ok next) (Ok (Some (typed_text (take k cs), k))))

piece_is : (place : ℕ) (cs : List ℕ) (k : ℕ) → unpaired 36 cs ≡ k → piece_at place cs ≡ piece_by place cs k
piece_is place cs k e = ap (piece_by place cs) e

body_next : (left place : ℕ) (cs : List ℕ) (q : Shape × ℕ) (ss : List Shape) → piece_at place cs ≡ Ok (Some q) → body_at left (place + q.1) (drop q.1 cs) ≡ Ok ss → body_at (suc left) place cs ≡ Ok (q.0 ∷ ss)
body_next left place cs q ss e h =
    ap (λ (m : Result (Option (Shape × ℕ)) Fault). on_ok m (λ o. on_some o (Ok []) (λ p. on_ok (body_at left (place + p.1) (drop p.1 cs)) (λ ts. Ok (p.0 ∷ ts))))) e
    ∙ ap (λ (m : Result (List Shape) Fault). on_ok m (λ ts. Ok (q.0 ∷ ts))) h

control_leads : (place : ℕ) (front t : List ℕ) (p : RawPiece) (f : ControlFound (place + 1) front t p) → leading place (36 ∷ front ++ t) ≡ Ok (Some (f.shape, suc (length front)))
control_leads place front t p f = ap (λ (m : Result (Shape × ℕ) Fault). on_ok m (λ q. Ok (Some (q.0, suc q.1)))) f.reads

control_found : ControlBack → {c : List ℕ} {p : RawPiece} (k : Control Raw c p) → stepped (p ∷ []) ≡ true → (place : ℕ) (t : List ℕ) → ControlFound place (control_starts k).front t p
control_found g {c} {p} k h place t = g place (control_starts k).front t p (subst (λ (l : List ℕ). Control Raw l p) (control_starts k).is k) h

-- what follows a text is read for itself before the text counts
leads : ControlBack → {t : List ℕ} {ps : List RawPiece} → NoText ps → Body Raw t ps → stepped ps ≡ true → (place : ℕ) → (o : Option (Shape × ℕ)) × (leading place t ≡ Ok o)
leads g n over h place = (None, refl)
leads g n (control {c} {t} {p} {ps} k b) h place =
    let s = control_starts k in
    let f = control_found g k (stepped_head p ps h) (place + 1) t in
    (Some (f.shape, suc (length s.front)), ap (λ (l : List ℕ). leading place (l ++ t)) s.is ∙ control_leads place s.front t p f)
leads g n (words d m b) h place = absurd n

pub record BodyFound (left place : ℕ) (cs : List ℕ) (ps : List RawPiece) : Type 0 where
  pub shapes : List Shape
  pub reads : body_at left place cs ≡ Ok shapes
  pub means : unreads shapes ≡ ps

body_over : (left place : ℕ) → BodyFound left place [] []
body_over zero place = record { shapes = []; reads = refl; means = refl }
body_over (suc left) place = record { shapes = []; reads = refl; means = refl }

control_first_lem : (left place : ℕ) (front t : List ℕ) (p : RawPiece) (ps : List RawPiece) → begins 36 (front ++ t) ≡ false → ControlFound (place + 0 + 1) front t p
    → BodyFound left (place + suc (length front)) t ps → BodyFound (suc left) place (36 ∷ front ++ t) (p ∷ ps)
control_first_lem left place front t p ps a f r =
    let e = piece_is place (36 ∷ front ++ t) 0 (unpaired_stops (36 ∷ front ++ t) (refl, a)) in
    let h : piece_at place (36 ∷ front ++ t) ≡ Ok (Some (f.shape, suc (length front))) = e ∙ ap (λ (m : Result (Option (Shape × ℕ)) Fault). on_ok m (λ o. Ok o)) (control_leads (place + 0) front t p f) in
    record {
      shapes = f.shape ∷ r.shapes;
      reads = body_next left place (36 ∷ front ++ t) (f.shape, suc (length front)) r.shapes h
          (ap (body_at left (place + suc (length front))) (drop_at front t (length front) refl) ∙ r.reads);
      means = f.means r.shapes ∙ ap (λ (l : List RawPiece). p ∷ l) r.means;
    }

doubled_long : {c : List ℕ} {b : ℕ} {bs : List ℕ} → Doubled c (b ∷ bs) → length c ≡ 0 → ⊥
doubled_long (mark d) e = omega arith
doubled_long (other n d) e = omega arith

words_piece : (place : ℕ) (c t : List ℕ) (b : ℕ) (bs : List ℕ) (o : Option (Shape × ℕ)) → Doubled c (b ∷ bs) → Stops t → leading (place + length c) t ≡ Ok o → piece_at place (c ++ t) ≡ Ok (Some (typed_text c, length c))
words_piece place c t b bs o d s e =
    let l : leading (place + length c) (drop (length c) (c ++ t)) ≡ Ok o = ap (leading (place + length c)) (drop_at c t (length c) refl) ∙ e in
    piece_is place (c ++ t) (length c) (unpaired_doubled t d s)
    ∙ ap (λ (m : Result (Option (Shape × ℕ)) Fault). on_ok m (λ next. cond (eqb (length c) 0) (Ok next) (Ok (Some (typed_text (take (length c) (c ++ t)), length c))))) l
    ∙ cond-false (eqb (length c) 0) (Ok o) (Ok (Some (typed_text (take (length c) (c ++ t)), length c))) (ne_eqb (length c) 0 (doubled_long d))
    ∙ ap (λ (m : List ℕ). Ok (Some (typed_text m, length c))) (take_at c t (length c) refl)

words_first : (left place : ℕ) (c t : List ℕ) (b : ℕ) (bs : List ℕ) (ps : List RawPiece) (o : Option (Shape × ℕ)) → Doubled c (b ∷ bs) → Stops t → leading (place + length c) t ≡ Ok o
    → BodyFound left (place + length c) t ps → BodyFound (suc left) place (c ++ t) (text b bs ∷ ps)
words_first left place c t b bs ps o d s e r =
    record {
      shapes = typed_text c ∷ r.shapes;
      reads = body_next left place (c ++ t) (typed_text c, length c) r.shapes (words_piece place c t b bs o d s e)
          (ap (body_at left (place + length c)) (drop_at c t (length c) refl) ∙ r.reads);
      means = ap (λ (l : List ℕ). texted l (unreads r.shapes)) (halve_doubled d) ∙ ap (λ (l : List RawPiece). text b bs ∷ l) r.means;
    }

pub body_back : ControlBack → {cs : List ℕ} {ps : List RawPiece} → Body Raw cs ps → (left : ℕ) → length ps ≤ left → stepped ps ≡ true → (place : ℕ) → BodyFound left place cs ps
body_back g over left m h place = body_over left place
body_back g (control {c} {t} {p} {ps} k b) zero m h place = absurd (omega arith)
body_back g (control {c} {t} {p} {ps} k b) (suc left) m h place =
    let s = control_starts k in
    let m' : length ps ≤ left = omega arith in
    subst (λ (l : List ℕ). BodyFound (suc left) place (l ++ t) (p ∷ ps)) (sym s.is)
    (control_first_lem left place s.front t p ps (s.alone t) (control_found g k (stepped_head p ps h) (place + 0 + 1) t)
    (body_back g b left m' (stepped_tail p ps h) (place + suc (length s.front))))
body_back g (words {c} {t} {b} {bs} {ps} d n w) zero m h place = absurd (omega arith)
body_back g (words {c} {t} {b} {bs} {ps} d n w) (suc left) m h place =
    let m' : length ps ≤ left = omega arith in
    let l = leads g n w h (place + length c) in
    words_first left place c t b bs ps l.0 d (body_stops n w) l.1 (body_back g w left m' h (place + length c))
