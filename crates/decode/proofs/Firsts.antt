-- The rest of a reading by the command that stands first.
use Rattle.std.proofs.Common.{◌≡◌, ℕ, suc, ◌<◌, ◌≤◌, Bool, true, false, cond, not, ◌&&◌, eqb, leb, List, [], ◌∷◌, length, is_some, Some, None, Option, sym, refl, ap, ◌∙◌, arith}
use Rattle.std.proofs.lemmas.Bool.{eqb-true, ne_eqb, le-leb, lt-leb, false≢true}
use Rattle.grammar.specs.Limits.{step_allowance}
use Rattle.grammar.specs.Readings.{Reading, Template}
use Rattle.codes.specs.Acceptable.{code_limit, repeats, acceptable, decode, CodeOf}
use Rattle.codes.specs.Code.{never, code_repeat}
use Rattle.codes.specs.Decode.{Got, on_some, byte_at, word_at, capture_at, body_at, reading_at, nothing, repeat_at, template_at}
use Rattle.codes.specs.Formed.{Never, FormedRepeat}
use Rattle.codes.specs.Forward.{ranges_by, clear_by}
use Rattle.codes.specs.Written.{empty}
use Rattle.codes.proofs.Templates.{no_repeats, repeats as repeat-codes}
use Rattle.codes.proofs.Trips.{decodes_accepted}
use Rattle.codes.proofs.Whole.{decodes}
use Rattle.std.specs.Bool.{then_some}
use Rattle.wire.specs.Ahead.{is_end}
use Rattle.wire.specs.Cursor.{bytes_of}
use Rattle.wire.specs.declared.cursor.Commands.{Commands}
use Rattle.wire.specs.Reading.{index_first, power_first, child_first, range_first, command_first}
use Rattle.wire.specs.declared.commands.Command.{Command as Read}
use Rattle.wire.specs.declared.commands.Command.TheVariants.{End, Power, Byte, Step, Child, Range, Capture}
use Rattle.decode.specs.declared.walks.Walk.{Walk}
use Rattle.decode.specs.Walking.{start, walked, walked_inside, closing, may_end}
use Rattle.decode.specs.Behind.{left_of, behind_separator, behind_command, behind_template, judged, rest_inside, rest_outside}
use Rattle.decode.proofs.Turns.{judged_end}
use Rattle.decode.proofs.Ties.{arm, arm_none, read_on, by_command, no_range, no_range_lem, three, range_tie}
use Rattle.decode.proofs.Rests.{turn_inside, turn_outside, kept_separator, kept_whole, body_inside, body_outside}

-- ---- a reading begins with POWER
abbrev pub powered_on : {R : Type 0} → (List ℕ → Got R) → (Reading R × List ℕ → Option (List ℕ)) → Read → List ℕ → Option (List ℕ)
powered_on f K End cs = None
powered_on f K (Power l r) cs = on_some (body_at f l r cs) K
powered_on f K (Byte b) cs = None
powered_on f K (Step i) cs = None
powered_on f K (Child i l r) cs = None
powered_on f K (Range i j l a b r) cs = None
powered_on f K (Capture n) cs = None

neither : {B D : Type 0} (t : Bool) (u v : Option B) (L : B → Option D) → None ≡ on_some u L → None ≡ on_some v L → None ≡ on_some (cond t u v) L
neither true u v L p q = p
neither false u v L p q = q

module _ {R : Type 0} (f : List ℕ → Got R) (K : Reading R × List ℕ → Option (List ℕ)) where
  abbrev powers : Read × List ℕ → Option (List ℕ)
  powers p = powered_on f K p.0 p.1

  powers_arm : (cs : List ℕ) → on_some (on_some (word_at cs) (λ l. on_some (word_at l.1) (λ r. body_at f l.0 r.0 r.1))) K ≡ on_some (power_first cs) powers
  powers_arm cs = arm (word_at cs) _ _ _ _ (λ l. arm (word_at l.1) _ _ _ _ (λ r. refl))

  range_none : (cs : List ℕ) → None ≡ on_some (range_first cs) powers
  range_none cs =
      arm_none (index_first cs) _ _ (λ i. arm_none (index_first i.1) _ _ (λ j. arm_none (word_at j.1) _ _ (λ l.
      arm_none (word_at l.1) _ _ (λ a. arm_none (word_at a.1) _ _ (λ b. arm_none (word_at b.1) _ _ (λ r. refl))))))

  none-begins : (cs : List ℕ) (o : ℕ) → None ≡ on_some (
      cond (eqb o 2) (on_some (byte_at cs) (λ b. Some (Byte b.0, b.1)))
      (cond (eqb o 3) (on_some (index_first cs) (λ i. Some (Step i.0, i.1)))
      (cond (eqb o 4) (child_first cs)
      (cond (eqb o 5) (range_first cs)
      (cond (eqb o 6) (on_some (capture_at cs) (λ n. Some (Capture n.0, n.1))) None))))) powers
  none-begins cs o =
      neither (eqb o 2) _ _ _ (arm_none (byte_at cs) _ _ (λ b. refl))
      (neither (eqb o 3) _ _ _ (arm_none (index_first cs) _ _ (λ j. refl))
      (neither (eqb o 4) _ _ _ (arm_none (index_first cs) _ _ (λ j. arm_none (word_at j.1) _ _ (λ l. arm_none (word_at l.1) _ _ (λ r. refl))))
      (neither (eqb o 5) _ _ _ (range_none cs)
      (neither (eqb o 6) _ _ _ (arm_none (capture_at cs) _ _ (λ n. refl)) refl))))

  first_one : (cs : List ℕ) (o : ℕ) (t : Bool)
      → on_some (cond t (on_some (word_at cs) (λ l. on_some (word_at l.1) (λ r. body_at f l.0 r.0 r.1))) None) K
      ≡ on_some (cond t (power_first cs) (
      cond (eqb o 2) (on_some (byte_at cs) (λ b. Some (Byte b.0, b.1)))
      (cond (eqb o 3) (on_some (index_first cs) (λ i. Some (Step i.0, i.1)))
      (cond (eqb o 4) (child_first cs)
      (cond (eqb o 5) (range_first cs)
      (cond (eqb o 6) (on_some (capture_at cs) (λ n. Some (Capture n.0, n.1))) None)))))) powers
  first_one cs o true = powers_arm cs
  first_one cs o false = none-begins cs o

  first-zero : (cs : List ℕ) (o : ℕ) (t : Bool) → eqb o 0 ≡ t → (u : Got Read) → on_some (reading_at f (o ∷ cs)) K ≡ on_some u powers → on_some (reading_at f (o ∷ cs)) K ≡ on_some (cond t (Some (End, cs)) u) powers
  first-zero cs o true e u h = ap (λ n. on_some (reading_at f (n ∷ cs)) K) (eqb-true o 0 e)
  first-zero cs o false e u h = h

  pub by_power : (cs : List ℕ) → on_some (reading_at f cs) K ≡ on_some (command_first cs) powers
  by_power [] = refl
  by_power (o ∷ cs) = first-zero cs o (eqb o 0) refl _ (first_one cs o (eqb o 1))

-- ---- whether a command ends its run
end_only : (k : Read) → true ≡ is_end k → k ≡ End
end_only End h = refl
end_only (Power l r) h = absurd (false≢true (sym h))
end_only (Byte b) h = absurd (false≢true (sym h))
end_only (Step i) h = absurd (false≢true (sym h))
end_only (Child i l r) h = absurd (false≢true (sym h))
end_only (Range i j l a b r) h = absurd (false≢true (sym h))
end_only (Capture n) h = absurd (false≢true (sym h))

no-end : (k : Read) → false ≡ is_end k → k ≡ End → ⊥
no-end k h q = false≢true (h ∙ ap is_end q)

left_then : (b : Bool) (d : Commands) → left_of (then_some b d) ≡ cond b (Some (bytes_of d)) None
left_then true d = refl
left_then false d = refl

-- ---- the rest in a separator
module _ (c : List ℕ) (m : Bool) (w : Walk) (b : Bool) where
  inside_by : (o : Got Read) → command_first c ≡ o → judged w (clear_by m b) (on_some o (read_on nothing no_range)) ≡ rest_inside m w b c
  inside_by o e = ap (λ q. judged w (clear_by m b) (on_some q (read_on nothing no_range))) (sym e) ∙ ap (judged w (clear_by m b)) (sym (by_command nothing never Never no_range no_repeats no_range_lem c))

  pub inside_none : command_first c ≡ None → None ≡ rest_inside m w b c
  inside_none e = inside_by None e

  pub inside_ends : (k : Read) (d : Commands) (x : Bool) (o : Option Commands) → command_first c ≡ Some (k, bytes_of d) → true ≡ is_end k → x ≡ may_end w b m → o ≡ then_some x d → left_of o ≡ rest_inside m w b c
  inside_ends k d x o e q f h =
      ap left_of h ∙ left_then x d ∙ ap (λ (x : Bool). cond x (Some (bytes_of d)) None) f
      ∙ sym (judged_end w (clear_by m b) (bytes_of d)) ∙ inside_by (Some (End, bytes_of d)) (e ∙ ap (λ k. Some (k, bytes_of d)) (end_only k q))

  pub inside_goes : (k : Read) (r : List ℕ) (o : Option Walk) → command_first c ≡ Some (k, r) → false ≡ is_end k → o ≡ walked_inside w b k → on_some o (λ v. rest_inside m v (closing k) r) ≡ rest_inside m w b c
  inside_goes k r o e h q = ap (λ o. on_some o (λ v. rest_inside m v (closing k) r)) q ∙ sym (turn_inside m w b k r (no-end k h)) ∙ inside_by (Some (k, r)) e

-- ---- and in a template
module _ (c : List ℕ) (w : Walk) where
  outside_by : (o : Got Read) → command_first c ≡ o → judged w (ranges_by (repeats step_allowance)) (on_some o (read_on repeat_at three)) ≡ rest_outside w c
  outside_by o e = ap (λ q. judged w (ranges_by (repeats step_allowance)) (on_some q (read_on repeat_at three))) (sym e) ∙ ap (judged w (ranges_by (repeats step_allowance))) (sym (by_command repeat_at code_repeat FormedRepeat three repeat-codes range_tie c))

  pub outside-none : command_first c ≡ None → None ≡ rest_outside w c
  outside-none e = outside_by None e

  pub outside-ends : (k : Read) (d : Commands) (x : Bool) (o : Option Commands) → command_first c ≡ Some (k, bytes_of d) → true ≡ is_end k → x ≡ may_end w false false → o ≡ then_some x d → left_of o ≡ rest_outside w c
  outside-ends k d x o e q f h =
      ap left_of h ∙ left_then x d ∙ ap (λ (x : Bool). cond x (Some (bytes_of d)) None) f
      ∙ sym (judged_end w (ranges_by (repeats step_allowance)) (bytes_of d)) ∙ outside_by (Some (End, bytes_of d)) (e ∙ ap (λ k. Some (k, bytes_of d)) (end_only k q))

  pub outside-goes : (k : Read) (r : List ℕ) (o : Option Walk) (q : Option (List ℕ)) → command_first c ≡ Some (k, r) → false ≡ is_end k → o ≡ walked w k → q ≡ behind_command k r
      → on_some o (λ v. on_some q (rest_outside v)) ≡ rest_outside w c
  outside-goes k r o q e h x y = ap (λ o. on_some o (λ v. on_some q (rest_outside v))) x ∙ ap (λ q. on_some (walked w k) (λ v. on_some q (rest_outside v))) y ∙ sym (turn_outside w k r (no-end k h)) ∙ outside_by (Some (k, r)) e

  pub outside_stops : (k : Read) (r : List ℕ) → command_first c ≡ Some (k, r) → false ≡ is_end k → None ≡ walked w k → None ≡ rest_outside w c
  outside_stops k r e h x = outside-goes k r None (behind_command k r) e h x refl

-- ---- behind a whole reading
pub separator_by : (c : List ℕ) (o : Got Read) → command_first c ≡ o → on_some o (λ p. powered_on nothing kept_separator p.0 p.1) ≡ behind_separator c
separator_by c o e = ap (λ q. on_some q (λ p. powered_on nothing kept_separator p.0 p.1)) (sym e) ∙ sym (by_power nothing kept_separator c)

pub separator_rest : (c r : List ℕ) (l p : ℕ) → command_first c ≡ Some (Power l p, r) → rest_inside (not (eqb p 0)) start false r ≡ behind_separator c
separator_rest c r l p e = sym (body_inside l p r) ∙ separator_by c (Some (Power l p, r)) e

pub template_by : (c : List ℕ) (o : Got Read) → command_first c ≡ o → on_some o (λ p. powered_on repeat_at kept_whole p.0 p.1) ≡ behind_template c
template_by c o e = ap (λ q. on_some q (λ p. powered_on repeat_at kept_whole p.0 p.1)) (sym e) ∙ sym (by_power repeat_at kept_whole c)

pub template_rest : (c r : List ℕ) (l p : ℕ) → command_first c ≡ Some (Power l p, r) → rest_outside start r ≡ behind_template c
template_rest c r l p e = sym (body_outside l p r) ∙ template_by c (Some (Power l p, r)) e

-- ---- the whole code
abbrev ended : Option (List ℕ) → Bool
ended None = false
ended (Some cs) = empty cs

decode-ended : (c : List ℕ) → leb (length c) code_limit ≡ true → ended (behind_template c) ≡ is_some (decode c)
decode-ended c h = rw h (go (template_at c))
  where
    at : (p : Template × List ℕ) (a e : Bool) → empty p.1 ≡ e → ended (cond a (Some p.1) None) ≡ is_some (cond (e && (true && a)) (Some p.0) None)
    at p true true q = q
    at p true false q = q
    at p false true q = refl
    at p false false q = refl

    go : (m : Got Template) → ended (on_some m kept_whole) ≡ is_some (on_some m (λ p. cond (empty p.1 && (true && acceptable step_allowance p.0)) (Some p.0) None))
    go None = refl
    go (Some p) = at p (acceptable step_allowance p.0) (empty p.1) refl

empty_by : (c : List ℕ) → eqb (length c) 0 ≡ empty c
empty_by [] = refl
empty_by (x ∷ c) = ne_eqb (suc (length c)) 0 (λ e. omega arith)

pub code_end : (c r : List ℕ) → length c ≤ code_limit → Some r ≡ behind_template c → eqb (length r) 0 ≡ is_some (decode c)
code_end c r h e = empty_by r ∙ ap ended e ∙ decode-ended c (le-leb _ _ h)

pub no_end : (c : List ℕ) → length c ≤ code_limit → None ≡ behind_template c → false ≡ is_some (decode c)
no_end c h e = ap ended e ∙ decode-ended c (le-leb _ _ h)

pub too_long : (c : List ℕ) → code_limit < length c → false ≡ is_some (decode c)
too_long c h = rw (lt-leb (length c) code_limit h) (go (template_at c))
  where
    at : (p : Template × List ℕ) (e : Bool) → false ≡ is_some (cond (e && false) (Some p.0) None)
    at p true = refl
    at p false = refl

    go : (m : Got Template) → false ≡ is_some (on_some m (λ p. cond (empty p.1 && false) (Some p.0) None))
    go None = refl
    go (Some p) = at p (empty p.1)

-- ---- in the subject's words
some_of : {A : Type 0} (o : Option A) → is_some o ≡ true → (x : A) × (o ≡ Some x)
some_of None e = let b : ◌≡◌ {A = Bool} false true = e in absurd (false≢true b)
some_of (Some x) e = (x, refl)

pub accepted-code : (c : List ℕ) → is_some (decode c) ≡ true → (x : Template) × CodeOf c x
accepted-code c h = let s = some_of (decode c) h in (s.0, (decodes_accepted decodes c s.0).0 s.1)

pub every_code : (c : List ℕ) (x : Template) → CodeOf c x → is_some (decode c) ≡ true
every_code c x k = ap is_some ((decodes_accepted decodes c x).1 k)
