-- What is left of a reading gives the whole answer, from command to command.
use Rattle.std.proofs.Common.{◌≡◌, ℕ, Bool, true, false, cond, not, ◌&&◌, eqb, leb, List, length, is_some, Some, None, Option, sym, refl, ap, ◌∙◌, arith}
use Rattle.grammar.specs.Limits.{step_allowance, piece_allowance}
use Rattle.grammar.specs.Numbers.{bits}
use Rattle.grammar.specs.Readings.{Piece, Reading, Separator, Repeat, Template}
use Rattle.grammar.specs.declared.defns.ChildIndex.{ChildIndex}
use Rattle.codes.specs.Acceptable.{separates, repeats, acceptable}
use Rattle.codes.specs.Code.{Command, byte, step, point, range, hold}
use Rattle.codes.specs.Decode.{Got, on_some, nothing, group, body_at, separator_at, repeat_at}
use Rattle.codes.specs.Forward.{grouped, counted, stepped_by, ranges_by, clear_by}
use Rattle.codes.proofs.Forward.{grouped_forward, within_forward, stepped_forward}
use Rattle.codes.proofs.ClearRuns.{clear_forward}
use Rattle.wire.specs.declared.commands.Command.{Command as Read}
use Rattle.wire.specs.declared.commands.Command.TheVariants.{End, Power, Byte, Step, Child, Range, Capture}
use Rattle.decode.specs.declared.walks.Walk.{Walk}
use Rattle.decode.specs.Walking.{start, one_piece, walked, walked_inside, closing}
use Rattle.decode.specs.Behind.{behind_separator, behind_three, behind_command, allowed_from, judged, run_from, rest_inside, rest_outside}
use Rattle.decode.proofs.Turns.{more, judged-more, turn_byte, turn_hold, turn_step, turn_point, turn_range}
use Rattle.decode.proofs.Ties.{after, no_range, ranged, three}

-- ---- in a separator
unless : {A D : Type 0} (b : Bool) (o : Option A) (K : A → Option D) → cond (not b) (on_some o K) None ≡ on_some (cond b None o) K
unless true o K = refl
unless false o K = refl

pub turn_inside : (m : Bool) (w : Walk) (c : Bool) (k : Read) (rest : List ℕ) → (k ≡ End → ⊥) → judged w (clear_by m c) (after nothing no_range k rest) ≡ on_some (walked_inside w c k) (λ v. rest_inside m v (closing k) rest)
turn_inside m w c End rest h = absurd (h refl)
turn_inside m w c (Power l r) rest h = refl
turn_inside m w c (Byte b) rest h = judged-more w (clear_by m c) (clear_by m (eqb b 41)) (byte b) (run_from nothing rest) (walked w (Byte b)) (not (c && eqb b 36)) (turn_byte w b) (λ ks. refl) ∙ unless (c && eqb b 36) (walked w (Byte b)) _
turn_inside m w c (Step i) rest h = judged-more w (clear_by m c) (clear_by m false) (step (bits i.0)) (run_from nothing rest) (walked w (Step i)) (not c) (turn_step w (bits i.0) i) (λ ks. refl) ∙ unless c (walked w (Step i)) _
turn_inside m w c (Child i l r) rest h = judged-more w (clear_by m c) (clear_by m false) (point (bits i.0) l r) (run_from nothing rest) (walked w (Child i l r)) (not c) (turn_point w (bits i.0) l r i l r) (λ ks. refl) ∙ unless c (walked w (Child i l r)) _
turn_inside m w c (Range i j l a b r) rest h = refl
turn_inside m w c (Capture n) rest h = judged-more w (clear_by m c) (clear_by m false) (hold n) (run_from nothing rest) (walked w (Capture n)) (not c) (turn_hold w n) (λ ks. refl) ∙ unless c (walked w (Capture n)) _

-- ---- three separators
all_none : {A D : Type 0} (o : Option A) (K : A → Option D) → ((x : A) → K x ≡ None) → None ≡ on_some o K
all_none None K h = refl
all_none (Some x) K h = sym (h x)

abbrev kept : Repeat × List ℕ → Option (List ℕ)
kept x = cond (repeats step_allowance x.0) (Some x.1) None

abbrev pub kept_whole : Template × List ℕ → Option (List ℕ)
kept_whole p = cond (acceptable step_allowance p.0) (Some p.1) None

abbrev pub kept_separator : Separator × List ℕ → Option (List ℕ)
kept_separator p = cond (separates step_allowance p.0) (Some p.1) None

module _ (i j : ChildIndex) (l a b r : ℕ) where
  third : (x y : Separator) (o : Got Separator) (s t : Bool) → separates step_allowance x ≡ s → separates step_allowance y ≡ t
      → cond s (cond t (on_some o kept_separator) None) None ≡ on_some (on_some o (λ z. Some (ranged i j l a b r x y z.0, z.1))) kept
  third x y None true true e f = refl
  third x y None true false e f = refl
  third x y None false t e f = refl
  third x y (Some z) true true e f = rw (e, f)
  third x y (Some z) true false e f = rw (e, f)
  third x y (Some z) false t e f = rw e

  second : (x : Separator) (o : Got Separator) (s : Bool) → separates step_allowance x ≡ s
      → cond s (on_some (on_some o kept_separator) behind_separator) None ≡ on_some (on_some o (λ y. on_some (separator_at y.1) (λ z. Some (ranged i j l a b r x y.0 z.0, z.1)))) kept
  second x None true e = refl
  second x None false e = refl
  second x (Some y) s e = push s (separates step_allowance y.0) ∙ third x y.0 (separator_at y.1) s (separates step_allowance y.0) e refl
    where
      push : (s t : Bool) → cond s (on_some (cond t (Some y.1) None) behind_separator) None ≡ cond s (cond t (on_some (separator_at y.1) kept_separator) None) None
      push true true = refl
      push true false = refl
      push false t = refl

  pub three_behind : (cs : List ℕ) → behind_three cs ≡ on_some (three i j l a b r cs) kept
  three_behind cs = go (separator_at cs)
    where
      go : (o : Got Separator) → on_some (on_some o kept_separator) (λ x. on_some (behind_separator x) behind_separator)
          ≡ on_some (on_some o (λ x. on_some (separator_at x.1) (λ y. on_some (separator_at y.1) (λ z. Some (ranged i j l a b r x.0 y.0 z.0, z.1))))) kept
      go None = refl
      go (Some x) = push (separates step_allowance x.0) ∙ second x.0 (separator_at x.1) (separates step_allowance x.0) refl
        where
          push : (s : Bool) → on_some (cond s (Some x.1) None) (λ x. on_some (behind_separator x) behind_separator) ≡ cond s (on_some (on_some (separator_at x.1) kept_separator) behind_separator) None
          push true = refl
          push false = refl

-- ---- in a template
abbrev outside : List (Command Repeat) → Bool
outside = ranges_by (repeats step_allowance)

ranges_on : (w : Walk) (m : Got Repeat) → judged w outside (on_some m (λ x. more (range x.0) (run_from repeat_at x.1))) ≡ on_some (one_piece w false) (λ v. on_some (on_some m kept) (rest_outside v))
ranges_on w None = all_none (one_piece w false) _ (λ v. refl)
ranges_on w (Some x) =
    judged-more w outside outside (range x.0) (run_from repeat_at x.1) (one_piece w false) (repeats step_allowance x.0) (turn_range w x.0) (λ ks. refl)
    ∙ go (repeats step_allowance x.0) (one_piece w false)
  where
    go : (b : Bool) (o : Option Walk) → cond b (on_some o (λ v. rest_outside v x.1)) None ≡ on_some o (λ v. on_some (cond b (Some x.1) None) (rest_outside v))
    go true o = refl
    go false None = refl
    go false (Some v) = refl

pub turn_outside : (w : Walk) (k : Read) (rest : List ℕ) → (k ≡ End → ⊥) → judged w outside (after repeat_at three k rest) ≡ on_some (walked w k) (λ v. on_some (behind_command k rest) (rest_outside v))
turn_outside w End rest h = absurd (h refl)
turn_outside w (Power l r) rest h = refl
turn_outside w (Byte b) rest h = judged-more w outside outside (byte b) (run_from repeat_at rest) (walked w (Byte b)) true (turn_byte w b) (λ ks. refl)
turn_outside w (Step i) rest h = judged-more w outside outside (step (bits i.0)) (run_from repeat_at rest) (walked w (Step i)) true (turn_step w (bits i.0) i) (λ ks. refl)
turn_outside w (Child i l r) rest h = judged-more w outside outside (point (bits i.0) l r) (run_from repeat_at rest) (walked w (Child i l r)) true (turn_point w (bits i.0) l r i l r) (λ ks. refl)
turn_outside w (Range i j l a b r) rest h = ranges_on w (three i j l a b r rest) ∙ ap (λ o. on_some (one_piece w false) (λ v. on_some o (rest_outside v))) (sym (three_behind i j l a b r rest))
turn_outside w (Capture n) rest h = judged-more w outside outside (hold n) (run_from repeat_at rest) (walked w (Capture n)) true (turn_hold w n) (λ ks. refl)

-- ---- a whole reading
module _ (l r : ℕ) (rest : List ℕ) where
  abbrev made : {R : Type 0} → List (Piece R) → Got (Reading R)
  made ps = Some (record { left = l; right = r; pieces = ps }, rest)

  none-grouped : {R : Type 0} (ks : List (Command R)) (E : List (Command R) → Bool) → group ks ≡ None → None ≡ cond (allowed_from start ks && E ks) (Some rest) None
  none-grouped ks E e = let z : grouped false ks ≡ false = (grouped_forward ks).0 ∙ ap is_some e in rw z

  inside_grouped : (ks : List (Command ⊥)) (o : Option (List (Piece ⊥))) → group ks ≡ o → on_some (on_some o made) kept_separator ≡ cond (allowed_from start ks && clear_by (not (eqb r 0)) false ks) (Some rest) None
  inside_grouped ks None e = none-grouped ks (clear_by (not (eqb r 0)) false) e
  inside_grouped ks (Some ps) e =
      let z : grouped false ks ≡ true = (grouped_forward ks).0 ∙ ap is_some e in
      let n = (grouped_forward ks).1 ps e in
      let p : counted false ks ≡ length ps = omega arith in
      rw (z, p, stepped_forward step_allowance ks ps e, clear_forward (not (eqb r 0)) ks ps e)

  and_three : (a b c : Bool) → (a && (b && c)) ≡ ((a && b) && c)
  and_three true b c = refl
  and_three false b c = refl

  outside-grouped : (ks : List (Command Repeat)) (o : Option (List (Piece Repeat))) → group ks ≡ o → on_some (on_some o made) kept_whole ≡ cond (allowed_from start ks && outside ks) (Some rest) None
  outside-grouped ks None e = none-grouped ks outside e
  outside-grouped ks (Some ps) e =
      let z : grouped false ks ≡ true = (grouped_forward ks).0 ∙ ap is_some e in
      let n = (grouped_forward ks).1 ps e in
      let p : counted false ks ≡ length ps = omega arith in
      rw (z, p, ← within_forward step_allowance (repeats step_allowance) ks ps e) (ap (λ b. cond b (Some rest) None) (and_three (leb (length ps) piece_allowance) (stepped_by step_allowance 0 ks) (outside ks)))

pub body_inside : (l r : ℕ) (cs : List ℕ) → on_some (body_at nothing l r cs) kept_separator ≡ rest_inside (not (eqb r 0)) start false cs
body_inside l r cs = go (run_from nothing cs)
  where
    go : (m : Got (List (Command ⊥))) → on_some (on_some m (λ ks. on_some (group ks.0) (made l r ks.1))) kept_separator ≡ judged start (clear_by (not (eqb r 0)) false) m
    go None = refl
    go (Some ks) = inside_grouped l r ks.1 ks.0 (group ks.0) refl

pub body_outside : (l r : ℕ) (cs : List ℕ) → on_some (body_at repeat_at l r cs) kept_whole ≡ rest_outside start cs
body_outside l r cs = go (run_from repeat_at cs)
  where
    go : (m : Got (List (Command Repeat))) → on_some (on_some m (λ ks. on_some (group ks.0) (made l r ks.1))) kept_whole ≡ judged start outside m
    go None = refl
    go (Some ks) = outside-grouped l r ks.1 ks.0 (group ks.0) refl
