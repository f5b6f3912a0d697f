-- Texts: where they stop, and what they stand for.
use Rattle.std.proofs.Common.{◌≡◌, ℕ, suc, Bool, true, false, eqb, List, [], ◌∷◌, ◌++◌, length, take, drop, sym, refl, ap, ◌∙◌, subst}
use Rattle.std.proofs.lemmas.List.{take_at, drop_at}
use Rattle.std.proofs.lemmas.Bool.{true≢false, eqb-true, eqb-false, ne_eqb}
use Rattle.grammar.specs.Grammar.{Control, is_child, is_capture, is_repeat, Doubled, done, mark, other, Body, over, control, words}
use Rattle.grammar.specs.Marks.{begins, unpaired, halve}
use Rattle.grammar.specs.Numbers.{numeral}
use Rattle.grammar.specs.Readings.{Piece, NoText}
use Rattle.grammar.proofs.MarksFound.{halve_other, unpaired_other}

-- what stops a text: the end, or a `$` with no second one behind it
abbrev pub Stops : List ℕ → Type 0
Stops [] = Unit {0}
Stops (c ∷ cs) = (c ≡ 36) × (begins 36 cs ≡ false)

pub halve_doubled : {c u : List ℕ} → Doubled c u → halve 36 c ≡ u
halve_doubled done = refl
halve_doubled (mark d) = ap (λ (l : List ℕ). 36 ∷ l) (halve_doubled d)
halve_doubled (other {c} {t} ne d) = halve_other 36 c t (ne_eqb c 36 ne) ∙ ap (λ (l : List ℕ). c ∷ l) (halve_doubled d)

pub unpaired_stops : (t : List ℕ) → Stops t → unpaired 36 t ≡ 0
unpaired_stops [] s = refl
unpaired_stops (c ∷ []) s = rw s.0
unpaired_stops (c ∷ d ∷ cs) s = rw (s.0, s.1)

pub unpaired_doubled : {c u : List ℕ} (t : List ℕ) → Doubled c u → Stops t → unpaired 36 (c ++ t) ≡ length c
unpaired_doubled t done s = unpaired_stops t s
unpaired_doubled t (mark d) s = ap (λ (n : ℕ). suc (suc n)) (unpaired_doubled t d s)
unpaired_doubled t (other {c} {t = t'} ne d) s = unpaired_other 36 c (t' ++ t) (ne_eqb c 36 ne) ∙ ap suc (unpaired_doubled t d s)

-- the text in front, and what stops it
pub record TextRead (cs : List ℕ) : Type 0 where
  pub front : List ℕ
  pub rest : List ℕ
  pub read : List ℕ
  pub is : cs ≡ front ++ rest
  pub doubled : Doubled front read
  pub stops : Stops rest

none_read : (cs : List ℕ) → Stops cs → TextRead cs
none_read cs s = record { front = []; rest = cs; read = []; is = refl; doubled = done; stops = s }

other_read : (c : ℕ) (cs : List ℕ) → eqb c 36 ≡ false → TextRead cs → TextRead (c ∷ cs)
other_read c cs e r = record {
  front = c ∷ r.front;
  rest = r.rest;
  read = c ∷ r.read;
  is = ap (λ (l : List ℕ). c ∷ l) r.is;
  doubled = other (eqb-false c 36 e) r.doubled;
  stops = r.stops;
}

mark_read : (c d : ℕ) (cs : List ℕ) → eqb c 36 ≡ true → eqb d 36 ≡ true → TextRead cs → TextRead (c ∷ d ∷ cs)
mark_read c d cs e f r =
    rw (eqb-true c 36 e, eqb-true d 36 f)
    (record { front = 36 ∷ 36 ∷ r.front; rest = r.rest; read = 36 ∷ r.read; is = ap (λ (l : List ℕ). 36 ∷ 36 ∷ l) r.is; doubled = mark r.doubled; stops = r.stops })

pub text_read : (cs : List ℕ) → TextRead cs
text_read [] = none_read [] tt
text_read (c ∷ []) = go (eqb c 36) refl
  where
    go : (b : Bool) → eqb c 36 ≡ b → TextRead (c ∷ [])
    go true e = none_read (c ∷ []) (eqb-true c 36 e, refl)
    go false e = other_read c [] e (none_read [] tt)
text_read (c ∷ d ∷ cs) = go (eqb c 36) refl (eqb d 36) refl (text_read cs) (text_read (d ∷ cs))
  where
    go : (a : Bool) → eqb c 36 ≡ a → (b : Bool) → eqb d 36 ≡ b → TextRead cs → TextRead (d ∷ cs) → TextRead (c ∷ d ∷ cs)
    go true e true f r s = mark_read c d cs e f r
    go true e false f r s = none_read (c ∷ d ∷ cs) (eqb-true c 36 e, f)
    go false e b f r s = other_read c (d ∷ cs) e s

-- ---- what follows a text
-- a control begins with a `$` and has no second one behind it, whatever follows
pub record Starts (c : List ℕ) : Type 0 where
  pub front : List ℕ
  pub is : c ≡ 36 ∷ front
  pub alone : (t : List ℕ) → begins 36 (front ++ t) ≡ false

pub control_starts : {R : Type 0} {Q : List ℕ → List ℕ → R → Type 0} {c : List ℕ} {p : Piece R} → Control Q c p → Starts c
control_starts (is_child {t} {u} h k) = record { front = 91 ∷ 35 ∷ (t ++ u) ++ 93 ∷ 36 ∷ []; is = refl; alone = λ r. refl }
control_starts (is_capture {n} h) = record { front = 123 ∷ numeral n ++ 125 ∷ 36 ∷ []; is = refl; alone = λ r. refl }
control_starts (is_repeat {t} h) = record { front = 40 ∷ 35 ∷ t ++ 41 ∷ 36 ∷ []; is = refl; alone = λ r. refl }

pub starts_stops : (c t : List ℕ) → Starts c → Stops (c ++ t)
starts_stops c t s = subst (λ (l : List ℕ). Stops (l ++ t)) (sym s.is) (refl, s.alone t)

pub control_no_text : {R : Type 0} {Q : List ℕ → List ℕ → R → Type 0} {c : List ℕ} {p : Piece R} (ps : List (Piece R)) → Control Q c p → NoText (p ∷ ps)
control_no_text ps (is_child h k) = tt
control_no_text ps (is_capture h) = tt
control_no_text ps (is_repeat h) = tt

text_goes_on : {P : Type 0} {c : List ℕ} {b : ℕ} {bs : List ℕ} (t : List ℕ) → Doubled c (b ∷ bs) → Stops (c ++ t) → P
text_goes_on t (mark d) s = absurd (true≢false s.1)
text_goes_on t (other ne d) s = absurd (ne s.0)

pub body_no_text : {R : Type 0} {Q : List ℕ → List ℕ → R → Type 0} {t : List ℕ} {ps : List (Piece R)} → Stops t → Body Q t ps → NoText ps
body_no_text s over = tt
body_no_text s (control {ps} k b) = control_no_text ps k
body_no_text s (words {t} d n b) = text_goes_on t d s

pub body_stops : {R : Type 0} {Q : List ℕ → List ℕ → R → Type 0} {t : List ℕ} {ps : List (Piece R)} → NoText ps → Body Q t ps → Stops t
body_stops n over = tt
body_stops n (control {c} {t} k b) = starts_stops c t (control_starts k)
body_stops n (words d m b) = absurd n

-- ---- by the place where a text stops
pub stop_is : (cs : List ℕ) (r : TextRead cs) → unpaired 36 cs ≡ length r.front
stop_is cs r = ap (unpaired 36) r.is ∙ unpaired_doubled r.rest r.doubled r.stops

pub front_is : (cs : List ℕ) (r : TextRead cs) → take (unpaired 36 cs) cs ≡ r.front
front_is cs r = ap (λ (l : List ℕ). take (unpaired 36 cs) l) r.is ∙ take_at r.front r.rest (unpaired 36 cs) (sym (stop_is cs r))

pub rest_is : (cs : List ℕ) (r : TextRead cs) → drop (unpaired 36 cs) cs ≡ r.rest
rest_is cs r = ap (λ (l : List ℕ). drop (unpaired 36 cs) l) r.is ∙ drop_at r.front r.rest (unpaired 36 cs) (sym (stop_is cs r))

pub text_doubled : (cs : List ℕ) → Doubled (take (unpaired 36 cs) cs) (halve 36 (take (unpaired 36 cs) cs))
text_doubled cs =
    let r = text_read cs in
    subst (λ (l : List ℕ). Doubled l (halve 36 l)) (sym (front_is cs r)) (subst (Doubled r.front) (sym (halve_doubled r.doubled)) r.doubled)

pub text_stops : (cs : List ℕ) → Stops (drop (unpaired 36 cs) cs)
text_stops cs = let r = text_read cs in subst Stops (sym (rest_is cs r)) r.stops

pub text_long : (cs : List ℕ) → length (take (unpaired 36 cs) cs) ≡ unpaired 36 cs
text_long cs = let r = text_read cs in ap length (front_is cs r) ∙ sym (stop_is cs r)
