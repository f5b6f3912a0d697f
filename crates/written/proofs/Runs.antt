-- What is left to write, command by command.
use Rattle.std.proofs.Common.{◌≡◌, ℕ, zero, suc, Bool, true, false, cond, not, ◌&&◌, ◌||◌, eqb, ◌<◌, ◌≤◌, ◌+◌, List, [], ◌∷◌, ◌++◌, length, get_or, drop, sym, refl, ap, ◌∙◌, append_assoc, subst, arith}
use Rattle.std.proofs.lemmas.List.{drop_more}
use Rattle.codes.specs.Written.{empty, marked, prefixed, around}
use Rattle.grammar.specs.Marks.{begins, ends}
use Rattle.wire.specs.declared.commands.Command.{Command}
use Rattle.wire.specs.declared.commands.Command.TheVariants.{End, Power, Byte, Step, Child, Range, Capture}
use Rattle.written.proofs.Inks.{inks_append, then}
use Rattle.wire.specs.Ahead.{is_end, is_range, past}
use Rattle.written.specs.Ahead.{over, is_step, is_mark, of_first, bare_run}
use Rattle.written.specs.Pens.{State, ink, inks, held, Writes}
use Rattle.written.specs.declared.pen.Pen.{Pen}
use Rattle.written.specs.Spelled.{texted, spelled, run_back, three_of, separators_of, body_of}

-- of what has to be written from the pen p on, so much is left to the pen q
pub record Left (rest whole : List ℕ) (p q : Pen) : Type 0 where
  pub owed : inks rest (held q) ≡ inks whole (held p)
  pub same : q.out.ghost_name ≡ p.out.ghost_name

-- the first of it is written
one_less : {u v w : List ℕ} {p q r : Pen} → Left (u ++ v) w p q → Writes u q r → Left v w p r
one_less {u} {v} {w} {p} {q} l e = record { owed = ap (inks v) e.wrote ∙ sym (inks_append u v (held q)) ∙ l.owed; same = e.same ∙ l.same }

-- one byte more of a list
pub byte_less : {w : List ℕ} {p q r : Pen} (bs : List ℕ) (i : ℕ) → i < length bs → Left (drop i bs) w p q → Writes (get_or bs i 0 ∷ []) q r → Left (drop (i + 1) bs) w p r
byte_less {w} {p} {q} bs i h l e = one_less (subst (λ t. Left t w p q) (drop_more bs i 0 h) l) e

-- ---- a run in a separator
pub run_more : {whole : List ℕ} {p q r : Pen} (w b : Bool) (k : Command) (ws ks : List Command) → ws ≡ k ∷ ks → false ≡ over k → Left (run_back w ws) whole p q → Writes (spelled true w k ks) q r → b ≡ is_step k → Left (run_back b ks) whole p r
run_more {whole} {p} {q} {r} w b k ws ks e o l f s =
    subst (λ b. Left (run_back b ks) whole p r) (sym s)
    (one_less (subst (λ t. Left t whole p q) (ap (run_back w) e ∙ ap (λ b. cond b [] (spelled true w k ks ++ run_back (is_step k) ks)) (sym o)) l) f)

-- ---- the run of a template
body_past : (n : ℕ) (w : Bool) (ks : List Command) → body_of (suc n) w ks ≡ body_of n w (past ks)
body_past zero w [] = refl
body_past (suc n) w [] = refl
body_past n w (k ∷ ks) = go (is_end k) (body_past n w ks)
  where
    go : (b : Bool) → body_of (suc n) w ks ≡ body_of n w (past ks) → cond b (body_of n w ks) (body_of (suc n) w ks) ≡ body_of n w (cond b ks (past ks))
    go true h = refl
    go false h = h

pub past_three : (ks : List Command) → body_of 3 false ks ≡ body_of 0 false (past (past (past ks)))
past_three ks = body_past 2 false ks ∙ body_past 1 false (past ks) ∙ body_past 0 false (past (past ks))

abbrev pub rest : Command → List Command → List ℕ
rest k ks = cond (is_range k) (separators_of ks ++ 41 ∷ 36 ∷ body_of 3 false ks) (body_of 0 (is_step k) ks)

range_no_step : (k : Command) → is_range k ≡ true → is_step k ≡ false
range_no_step End h = refl
range_no_step (Power l r) h = refl
range_no_step (Byte b) h = refl
range_no_step (Step i) h = sym h
range_no_step (Child i l r) h = refl
range_no_step (Range f t l a b r) h = refl
range_no_step (Capture n) h = refl

rest_parts : (k : Command) (ks : List Command) (b : Bool) → is_range k ≡ b → rest k ks ≡ cond b (separators_of ks ++ 41 ∷ 36 ∷ []) [] ++ body_of 0 (is_step k) (cond b (past (past (past ks))) ks)
rest_parts k ks false e = ap (λ b. cond b (separators_of ks ++ 41 ∷ 36 ∷ body_of 3 false ks) (body_of 0 (is_step k) ks)) e
rest_parts k ks true e =
    ap (λ b. cond b (separators_of ks ++ 41 ∷ 36 ∷ body_of 3 false ks) (body_of 0 (is_step k) ks)) e
    ∙ ap (λ l. separators_of ks ++ 41 ∷ 36 ∷ l) (past_three ks ∙ ap (λ w. body_of 0 w (past (past (past ks)))) (sym (range_no_step k e)))
    ∙ sym (append_assoc (separators_of ks) (41 ∷ 36 ∷ []) (body_of 0 (is_step k) (past (past (past ks)))))

pub body_more : {whole : List ℕ} {p q r t : Pen} (w b : Bool) (k : Command) (ws ks next : List Command) → ws ≡ k ∷ ks → false ≡ over k → next ≡ cond (is_range k) (past (past (past ks))) ks → Left (body_of 0 w ws) whole p q
    → Writes (spelled false w k ks) q r → Writes (cond (is_range k) (separators_of ks ++ 41 ∷ 36 ∷ []) []) r t → b ≡ is_step k → Left (body_of 0 b next) whole p t
body_more {whole} {p} {q} {r} {t} w b k ws ks next e o n l f g s =
    subst (λ b. Left (body_of 0 b next) whole p t) (sym s) (subst (λ l. Left (body_of 0 (is_step k) l) whole p t) (sym n)
    (one_less (subst (λ l. Left l whole p r) (rest_parts k ks (is_range k) refl)
    (one_less (subst (λ t. Left t whole p q) (ap (body_of 0 w) e ∙ ap (λ b. cond b [] (spelled false w k ks ++ rest k ks)) (sym o)) l) f)) g))

-- ---- fewer commands are left
past-shorter : (ks : List Command) → length (past ks) ≤ length ks
past-shorter [] = omega arith
past-shorter (k ∷ ks) = go (is_end k) (past-shorter ks)
  where
    go : (b : Bool) → length (past ks) ≤ length ks → length (cond b ks (past ks)) ≤ suc (length ks)
    go true h = omega arith
    go false h = omega arith

pub fewer : (k : Command) (ws ks next : List Command) → ws ≡ k ∷ ks → next ≡ cond (is_range k) (past (past (past ks))) ks → length next < length ws
fewer k ws ks next e n = rw (e, n) (go (is_range k))
  where
    go : (b : Bool) → length (cond b (past (past (past ks))) ks) < suc (length ks)
    go true = omega (arith, past-shorter ks, past-shorter (past ks), past-shorter (past (past ks)))
    go false = omega arith

-- ---- how a run begins
text_begins : (n : Bool) (b : ℕ) (t : List ℕ) → (eqb b 36 ≡ begins 36 (texted n b ++ t)) × (false ≡ empty (texted n b ++ t))
text_begins n b t = go (eqb b 36 || (n && eqb b 124))
  where
    go : (d : Bool) → (eqb b 36 ≡ begins 36 (cond d (b ∷ b ∷ []) (b ∷ []) ++ t)) × (false ≡ empty (cond d (b ∷ b ∷ []) (b ∷ []) ++ t))
    go true = (refl, refl)
    go false = (refl, refl)

-- what is written for a command begins with a `$` or not, and is not empty
spelled-begins : (n : Bool) (k : Command) (ks : List Command) (t : List ℕ) → over k ≡ false → (is_mark k ≡ begins 36 (spelled n false k ks ++ t)) × (false ≡ empty (spelled n false k ks ++ t))
spelled-begins n End ks t h = let z : ◌≡◌ {A = ℕ} 0 1 = cc in absurd (omega arith)
spelled-begins n (Power l r) ks t h = let z : ◌≡◌ {A = ℕ} 0 1 = cc in absurd (omega arith)
spelled-begins n (Byte b) ks t h = text_begins n b t
spelled-begins n (Step i) ks t h = (refl, refl)
spelled-begins n (Child i l r) ks t h = (refl, refl)
spelled-begins n (Range f o l a b r) ks t h = (refl, refl)
spelled-begins n (Capture m) ks t h = (refl, refl)

over_mark : (k : Command) → over k ≡ true → is_mark k ≡ false
over_mark End h = refl
over_mark (Power l r) h = refl
over_mark (Byte b) h = let z : ◌≡◌ {A = ℕ} 0 1 = cc in absurd (omega arith)
over_mark (Step i) h = sym h
over_mark (Child i l r) h = sym h
over_mark (Range f t l a b r) h = sym h
over_mark (Capture n) h = sym h

-- w is what is written for the run ks: by its beginning, and whether it is empty
pub record Runs (ks : List Command) (w : List ℕ) : Type 0 where
  pub mark : of_first is_mark ks ≡ begins 36 w
  pub none : bare_run ks ≡ empty w

first_runs : (n : Bool) (k : Command) (ks : List Command) (t : List ℕ) (b : Bool) → over k ≡ b → Runs (k ∷ ks) (cond b [] (spelled n false k ks ++ t))
first_runs n k ks t true e = record { mark = over_mark k e; none = e }
first_runs n k ks t false e = let p = spelled-begins n k ks t e in record { mark = p.0; none = e ∙ p.1 }

pub run_runs : (ks : List Command) → Runs ks (run_back false ks)
run_runs [] = record { mark = refl; none = refl }
run_runs (k ∷ ks) = first_runs true k ks (run_back (is_step k) ks) (over k) refl

pub body_runs : (ks : List Command) → Runs ks (body_of 0 false ks)
body_runs [] = record { mark = refl; none = refl }
body_runs (k ∷ ks) = first_runs false k ks (rest k ks) (over k) refl

-- ---- prefix and suffix
ends_last : (w : List ℕ) (s : State) → (not (empty w) && eqb (inks w s).last 36) ≡ ends 36 w
ends_last [] s = refl
ends_last (c ∷ []) s = refl
ends_last (c ∷ d ∷ w) s = ends_last (d ∷ w) (ink c s)

pub around_written : {a b c d : Pen} (l r : ℕ) (ks : List Command) (w : List ℕ) → Runs ks w
    → Writes (marked (not (eqb l 0) || (of_first is_mark ks || (bare_run ks && not (eqb r 0)))) l) a b → Writes w b c
    → Writes (marked (not (eqb r 0) || (not (bare_run ks) && eqb c.last 36)) r) c d → Writes (around l r w) a d
around_written {a} {b} {c} {d} l r ks w h e f g =
    let p : (not (eqb l 0) || (of_first is_mark ks || (bare_run ks && not (eqb r 0)))) ≡ prefixed l r w = λ i. not (eqb l 0) || (h.mark i || (h.none i && not (eqb r 0))) in
    let q : (not (bare_run ks) && eqb c.last 36) ≡ ends 36 w = (λ i. not (h.none i) && eqb (f.wrote i).last 36) ∙ ends_last w (held b) in
    then (subst (λ t. Writes (marked t l) a b) p e) (then f (subst (λ t. Writes (marked (not (eqb r 0) || t) r) c d) q g))

-- ---- the separators of a repeat
pub separators_written : {a b c : Pen} (xs ys zs : List Command) → ys ≡ past xs → zs ≡ past ys → Writes (three_of xs ys zs) a b → Writes (41 ∷ 36 ∷ []) b c → Writes (separators_of xs ++ 41 ∷ 36 ∷ []) a c
separators_written {a} {b} xs ys zs e f g h = then (subst (λ l. Writes l a b) (λ i. three_of xs (e i) ((f ∙ ap past e) i)) g) h
