-- The reader of controls accepts just the controls of the grammar.
use Rattle.std.proofs.Common.{◌≡◌, ℕ, suc, ◌+◌, Bool, true, false, cond, eqb, leb, List, [], ◌∷◌, ◌++◌, length, take, drop, Some, None, Ok, Option, Result, sym, refl, ap, ◌∙◌, subst, ap₂, append_assoc, arith, length-append}
use Rattle.std.proofs.lemmas.Bool.{eqb-true, and_from, and_parts}
use Rattle.refusal.specs.declared.error.ClosingMark.{ClosingMark}
use Rattle.refusal.specs.declared.error.ClosingMark.TheVariants.{Square, Round, Curly}
use Rattle.refusal.specs.declared.error.FormatterError.TheVariants.{MissingControl, IncorrectControl}
use Rattle.grammar.specs.Controls.{child_at, repeat_at, capture_at, closed_by}
use Rattle.grammar.specs.Grammar.{Path, ChildPowers, Control, is_child, is_capture, is_repeat}
use Rattle.grammar.specs.Limits.{step_allowance}
use Rattle.grammar.specs.Marks.{first_mark, closes}
use Rattle.grammar.specs.Numbers.{bits, numeral, int}
use Rattle.grammar.specs.Paths.{steps_of}
use Rattle.grammar.specs.Powers.{asymmetric}
use Rattle.grammar.specs.Readings.{Piece, child, capture, repeat, RepeatOf, Capture}
use Rattle.grammar.specs.Results.{on_ok, on_some, refusal, Fault}
use Rattle.grammar.specs.Shapes.{Shape, typed_child, typed_repeat, typed_capture}
use Rattle.grammar.proofs.Chains.{by_on_ok, same_ok, refused}
use Rattle.grammar.proofs.ChildrenRead.{child_forth, child_back, child_without, capture_forth, capture_back}
use Rattle.grammar.proofs.MarksFound.{mark_found, take_front}
use Rattle.grammar.proofs.Numerals.{bits-int, numeral-without}
use Rattle.grammar.proofs.Opens.{closing_found, closing-first}
use Rattle.grammar.proofs.RepeatsRead.{mark_cut, repeat_forth, repeat_back_lem, path_index}
use Rattle.grammar.proofs.Unread.{Raw, unread_repeat, unreads, stepped, ControlRead, ControlForth, ControlFound, ControlBack}

-- ---- what a mark closes
record Closed (b : ℕ) (f : ℕ → List ℕ → Result Shape Fault) (place : ℕ) (cs : List ℕ) (s : Shape) (n : ℕ) : Type 0 where
  at : ℕ
  mark : first_mark b 36 0 cs ≡ Some at
  reads : f place (take at cs) ≡ Ok s
  long : n ≡ at + 3

closed_forth : (b : ℕ) (m : ClosingMark) (f : ℕ → List ℕ → Result Shape Fault) (place : ℕ) (cs : List ℕ) (s : Shape) (n : ℕ) → closed_by b m f place cs ≡ Ok (s, n) → Closed b f place cs s n
closed_forth b m f place cs s n e = go (first_mark b 36 0 cs) refl e
  where
    go : (o : Option ℕ) → first_mark b 36 0 cs ≡ o → on_some o (refusal {X = Shape × ℕ} (MissingControl m) place (length cs)) (λ at. on_ok (f place (take at cs)) (λ s. Ok (s, at + 3))) ≡ Ok (s, n) → Closed b f place cs s n
    go None p q = refused _ _ q
    go (Some at) p q =
        let d = by_on_ok (f place (take at cs)) (λ s. Ok (s, at + 3)) (s, n) q in
        let k = same_ok _ _ d.2 in
        record { at = at; mark = p; reads = d.1 ∙ ap (λ (x : Shape × ℕ). Ok x.0) k; long = sym (ap (λ (x : Shape × ℕ). x.1) k) }

-- a control with its bracket c, and b before its last `$`
made : (c b : ℕ) (cs : List ℕ) (s : Shape) (n at : ℕ) (p : Piece (RepeatOf (List ℕ))) → first_mark b 36 0 cs ≡ Some at → n ≡ at + 3 → Control Raw (36 ∷ c ∷ take at cs ++ b ∷ 36 ∷ []) p
    → ((ss : List Shape) → unreads (s ∷ ss) ≡ p ∷ unreads ss) → stepped (p ∷ []) ≡ true → ControlRead (c ∷ cs) s n
made c b cs s n at p m long g h k =
    let t = mark_cut b 36 cs at m in
    record {
      front = c ∷ take at cs ++ b ∷ 36 ∷ [];
      rest = drop (at + 2) cs;
      piece = p;
      is = ap (λ (l : List ℕ). c ∷ l) (t.0 ∙ sym (append_assoc (take at cs) (b ∷ 36 ∷ []) (drop (at + 2) cs)));
      long = rw (length-append (take at cs) (b ∷ 36 ∷ [])) (omega (arith, t.1));
      control = g;
      means = h;
      steps = k;
    }

closed_back : (c b : ℕ) (m : ClosingMark) (f : ℕ → List ℕ → Result Shape Fault) (place : ℕ) (inside rest : List ℕ) (s : Shape) → first_mark b 36 0 (inside ++ b ∷ 36 ∷ rest) ≡ Some (0 + length inside) → f place inside ≡ Ok s
    → closed_by b m f place ((inside ++ b ∷ 36 ∷ []) ++ rest) ≡ Ok (s, length (c ∷ inside ++ b ∷ 36 ∷ []))
closed_back c b m f place inside rest s k e =
    let none : 0 + length inside ≡ length inside = omega arith in
    let long : length inside + 3 ≡ length (c ∷ inside ++ b ∷ 36 ∷ []) = rw (length-append inside (b ∷ 36 ∷ [])) (omega arith) in
    rw (append_assoc inside (b ∷ 36 ∷ []) rest, k, none, take_front inside (b ∷ 36 ∷ rest), e) (ap (λ (n : ℕ). Ok (s, n)) long)

-- ---- repeats
repeat_steps : (s : List ℕ) (x : RepeatOf (List ℕ)) → leb (length s) step_allowance ≡ true → stepped (repeat s x ∷ []) ≡ true
repeat_steps s x h = and_from _ _ h refl

repeats_forth : (place : ℕ) (cs : List ℕ) (s : Shape) (n : ℕ) → closed_by 41 Round repeat_at place cs ≡ Ok (s, n) → ControlRead (40 ∷ cs) s n
repeats_forth place cs s n e =
    let c = closed_forth 41 Round repeat_at place cs s n e in
    let r = repeat_forth place (take c.at cs) s c.reads in
    let f = closing-first 0 cs c.at c.mark in
    let same : f.0 ≡ c.at = omega (arith, f.1) in
    let none : closes (35 ∷ r.inside) ≡ false = subst (λ (l : List ℕ). closes l ≡ false) (ap (λ (k : ℕ). take k cs) same ∙ r.is) f.2 in
    let g : Control Raw (36 ∷ 40 ∷ take c.at cs ++ 41 ∷ 36 ∷ []) (repeat (steps_of r.typed.path) (unread_repeat r.typed)) =
    subst (λ (l : List ℕ). Control Raw (36 ∷ 40 ∷ l ++ 41 ∷ 36 ∷ []) (repeat (steps_of r.typed.path) (unread_repeat r.typed))) (sym r.is) (is_repeat (r.raw none)) in
    made 40 41 cs s n c.at _ c.mark c.long g (λ ss. ap (λ (x : Shape). unreads (x ∷ ss)) r.shape) (repeat_steps (steps_of r.typed.path) (unread_repeat r.typed) r.few)

repeats-back : (place : ℕ) (t s rest : List ℕ) (x : RepeatOf (List ℕ)) → Raw t s x → stepped (repeat s x ∷ []) ≡ true → ControlFound place (40 ∷ 35 ∷ t ++ 41 ∷ 36 ∷ []) rest (repeat s x)
repeats-back place t s rest x g h =
    let f = repeat_back_lem (place + 1) t s x g (and_parts (leb (length s) step_allowance) true h).0 in
    record {
      shape = typed_repeat f.typed;
      reads = closed_back 40 41 Round repeat_at (place + 1) (35 ∷ t) rest (typed_repeat f.typed) (closing_found 0 (35 ∷ t) rest g.first) f.reads;
      means = λ ss. ap₂ (λ (a : List ℕ) (b : RepeatOf (List ℕ)). repeat a b ∷ unreads ss) f.steps f.means;
    }

-- ---- children
child_steps : (s : List ℕ) (i l r : ℕ) → leb (length s) step_allowance ≡ true → stepped {R = RepeatOf (List ℕ)} (child s i l r ∷ []) ≡ true
child_steps s i l r h = and_from _ _ h refl

children_forth : (place : ℕ) (cs : List ℕ) (s : Shape) (n : ℕ) → closed_by 93 Square child_at place cs ≡ Ok (s, n) → ControlRead (91 ∷ cs) s n
children_forth place cs s n e =
    let c = closed_forth 93 Square child_at place cs s n e in
    let r = child_forth place (take c.at cs) s c.reads in
    let piece = child (steps_of r.path) (bits r.index.0) r.pair.left r.pair.right in
    let g : Control Raw (36 ∷ 91 ∷ take c.at cs ++ 93 ∷ 36 ∷ []) piece =
    subst (λ (l : List ℕ). Control Raw (36 ∷ 91 ∷ l ++ 93 ∷ 36 ∷ []) piece) (sym r.text) (is_child r.steps r.powers) in
    made 91 93 cs s n c.at piece c.mark c.long g (λ ss. ap (λ (x : Shape). unreads (x ∷ ss)) r.is) (child_steps (steps_of r.path) (bits r.index.0) r.pair.left r.pair.right r.few)

children_back : (place : ℕ) {t u s : List ℕ} {i l r : ℕ} (rest : List ℕ) → Path t s i → ChildPowers u l r → stepped {R = RepeatOf (List ℕ)} (child s i l r ∷ []) ≡ true
    → ControlFound place (91 ∷ 35 ∷ (t ++ u) ++ 93 ∷ 36 ∷ []) rest (child s i l r)
children_back place {t} {u} {s} {i} {l} {r} rest p q h =
    let f = child_back (place + 1) p q (and_parts (leb (length s) step_allowance) true h).0 in
    record {
      shape = typed_child f.path (record { 0 = int i }) (asymmetric l r);
      reads = closed_back 91 93 Square child_at (place + 1) (35 ∷ (t ++ u)) rest _ (mark_found 93 36 0 (35 ∷ (t ++ u)) rest (child_without 93 refl refl refl p q)) f.reads;
      means = λ ss. ap₂ (λ (a : List ℕ) (b : ℕ). child a b l r ∷ unreads ss) f.steps (bits-int i (path_index p).0);
    }

-- ---- captures
captures_forth : (place : ℕ) (cs : List ℕ) (s : Shape) (n : ℕ) → closed_by 125 Curly capture_at place cs ≡ Ok (s, n) → ControlRead (123 ∷ cs) s n
captures_forth place cs s n e =
    let c = closed_forth 125 Curly capture_at place cs s n e in
    let r = capture_forth place (take c.at cs) s c.reads in
    let g : Control Raw (36 ∷ 123 ∷ take c.at cs ++ 125 ∷ 36 ∷ []) (capture r.n) =
    subst (λ (l : List ℕ). Control Raw (36 ∷ 123 ∷ l ++ 125 ∷ 36 ∷ []) (capture r.n)) (sym r.text) (is_capture r.small) in
    made 123 125 cs s n c.at (capture r.n) c.mark c.long g (λ ss. ap (λ (x : Shape). unreads (x ∷ ss)) r.is) refl

captures_back : (place n : ℕ) (rest : List ℕ) → Capture n → ControlFound place (123 ∷ numeral n ++ 125 ∷ 36 ∷ []) rest (capture n)
captures_back place n rest h =
    record {
      shape = typed_capture n;
      reads = closed_back 123 125 Curly capture_at (place + 1) (numeral n) rest (typed_capture n) (mark_found 125 36 0 (numeral n) rest (numeral-without 125 refl n (omega arith))) (capture_back (place + 1) n h);
      means = λ ss. refl;
    }

-- ---- the theorems
opened : (c d : ℕ) (cs : List ℕ) (s : Shape) (n : ℕ) → eqb c d ≡ true → ControlRead (d ∷ cs) s n → ControlRead (c ∷ cs) s n
opened c d cs s n e h = subst (λ (x : ℕ). ControlRead (x ∷ cs) s n) (sym (eqb-true c d e)) h

pub control_forth : ControlForth
control_forth place [] s n e = refused _ _ e
control_forth place (c ∷ cs) s n e = go (eqb c 91) refl (eqb c 40) refl (eqb c 123) refl e
  where
    go : (x : Bool) → eqb c 91 ≡ x → (y : Bool) → eqb c 40 ≡ y → (z : Bool) → eqb c 123 ≡ z
        → cond x (closed_by 93 Square child_at (place + 1) cs) (cond y (closed_by 41 Round repeat_at (place + 1) cs) (cond z (closed_by 125 Curly capture_at (place + 1) cs) (refusal IncorrectControl place (suc (length cs))))) ≡ Ok (s, n)
        → ControlRead (c ∷ cs) s n
    go true p y q z r h = opened c 91 cs s n p (children_forth (place + 1) cs s n h)
    go false p true q z r h = opened c 40 cs s n q (repeats_forth (place + 1) cs s n h)
    go false p false q true r h = opened c 123 cs s n r (captures_forth (place + 1) cs s n h)
    go false p false q false r h = refused _ _ h

pub control_back : ControlBack
control_back place front rest p (is_child a b) h = children_back place rest a b h
control_back place front rest p (is_capture {n} a) h = captures_back place n rest a
control_back place front rest p (is_repeat {t} {s} {x} a) h = repeats-back place t s rest x a h
