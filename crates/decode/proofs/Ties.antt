-- The commands of a run by their operands.
use Rattle.std.proofs.Common.{◌≡◌, ℕ, Bool, true, false, cond, eqb, List, [], ◌∷◌, length, Some, None, Option, sym, refl, ap, ◌∙◌, arith}
use Rattle.std.proofs.lemmas.Bool.{eqb-true}
use Rattle.grammar.proofs.Numerals.{bits-int}
use Rattle.grammar.specs.Numbers.{bits}
use Rattle.grammar.specs.Readings.{Separator, Repeat}
use Rattle.grammar.specs.declared.defns.ChildIndex.{ChildIndex}
use Rattle.codes.specs.Code.{Command, byte, step, point, range, hold}
use Rattle.codes.specs.Decode.{Got, on_some, word_at, byte_at, index_at, capture_at, operands, run_at, nothing, separator_at, repeat_at}
use Rattle.codes.proofs.Runs.{Codes, run_turns, command_shrinks}
use Rattle.codes.proofs.Words.{words}
use Rattle.wire.specs.Commands.{index_of}
use Rattle.wire.specs.Reading.{index_first, power_first, child_first, range_first, command_first}
use Rattle.wire.specs.declared.commands.Command.{Command as Read}
use Rattle.wire.specs.declared.commands.Command.TheVariants.{End, Power, Byte, Step, Child, Range, Capture}
use Rattle.decode.specs.Behind.{run_from}
use Rattle.decode.proofs.Turns.{more}

-- ---- an index by its 32 bits
index_tie : (cs : List ℕ) → index_at cs ≡ on_some (index_first cs) (λ i. Some (bits i.0.0, i.1))
index_tie cs = go (word_at cs) refl
  where
    go : (m : Got ℕ) → word_at cs ≡ m
        → on_some m (λ i. cond (eqb i.0 2147483647) None (Some i))
        ≡ on_some (on_some {B = ChildIndex × List ℕ} (on_some m (λ i. cond (eqb i.0 2147483647) None (Some i))) (λ p. Some (index_of p.0, p.1))) (λ i. Some (bits i.0.0, i.1))
    go None q = refl
    go (Some p) q = at (eqb p.0 2147483647) (sym (bits-int p.0 (words.forth cs p.0 p.1 q).1))
      where
        at : (t : Bool) → p.0 ≡ bits (index_of p.0).0
            → cond t None (Some p) ≡ on_some (on_some {B = ChildIndex × List ℕ} (cond t None (Some p)) (λ p. Some (index_of p.0, p.1))) (λ i. Some (bits i.0.0, i.1))
        at true e = refl
        at false e = ap (λ n. Some (n, p.1)) e

-- ---- one turn of a run, with turns enough
pub run_turn : {R : Type 0} (f : List ℕ → Got R) (w : R → List ℕ → List ℕ) (F : R → Type 0) → Codes f w F → (o : ℕ) (cs : List ℕ)
    → run_from f (o ∷ cs) ≡ cond (eqb o 0) (Some ([], cs)) (on_some (operands f o cs) (λ k. more k.0 (run_from f k.1)))
run_turn {R} f w F g o cs = ap (λ (x : Got (List (Command R))). cond (eqb o 0) (Some ([], cs)) x) (go (operands f o cs) refl)
  where
    go : (q : Got (Command R)) → operands f o cs ≡ q
        → on_some {B = List (Command R) × List ℕ} q (λ k. more k.0 (run_at f (length cs) k.1)) ≡ on_some {B = List (Command R) × List ℕ} q (λ k. more k.0 (run_from f k.1))
    go None e = refl
    go (Some k) e = ap (more k.0) (run_turns f w F g (length cs) (length k.1) k.1 (command_shrinks f w F g o cs k e) (omega arith))

-- what a RANGE has behind its numbers
abbrev pub Ranged : Type 0 → Type 0
Ranged R = ChildIndex → ChildIndex → ℕ → ℕ → ℕ → ℕ → List ℕ → Got R

-- the run whose first command is known, with what stands behind its operands
abbrev pub after : {R : Type 0} → (List ℕ → Got R) → Ranged R → Read → List ℕ → Got (List (Command R))
after f g End cs = Some ([], cs)
after f g (Power l r) cs = None
after f g (Byte b) cs = more (byte b) (run_from f cs)
after f g (Step i) cs = more (step (bits i.0)) (run_from f cs)
after f g (Child i l r) cs = more (point (bits i.0) l r) (run_from f cs)
after f g (Range i j l a b r) cs = on_some (g i j l a b r cs) (λ x. more (range x.0) (run_from f x.1))
after f g (Capture n) cs = more (hold n) (run_from f cs)

-- operands taken one by one on both sides
pub arm : {X C D : Type 0} (m : Got X) (G : X × List ℕ → Option C) (K : C → Option D) (F : X × List ℕ → Got Read) (L : Read × List ℕ → Option D)
    → ((x : X × List ℕ) → on_some (G x) K ≡ on_some (F x) L) → on_some (on_some m G) K ≡ on_some (on_some m F) L
arm None G K F L t = refl
arm (Some x) G K F L t = t x

index_arm : {C D : Type 0} (cs : List ℕ) (G : ℕ × List ℕ → Option C) (K : C → Option D) (F : ChildIndex × List ℕ → Got Read) (L : Read × List ℕ → Option D)
    → ((i : ChildIndex × List ℕ) → on_some (G (bits i.0.0, i.1)) K ≡ on_some (F i) L) → on_some (on_some (index_at cs) G) K ≡ on_some (on_some (index_first cs) F) L
index_arm {C} {D} cs G K F L t = ap (λ (o : Got ℕ). on_some (on_some o G) K) (index_tie cs) ∙ go (index_first cs)
  where
    go : (m : Got ChildIndex) → on_some (on_some (on_some {B = ℕ × List ℕ} m (λ i. Some (bits i.0.0, i.1))) G) K ≡ on_some (on_some m F) L
    go None = refl
    go (Some i) = t i

pub arm_none : {X D : Type 0} (a : Got X) (F : X × List ℕ → Got Read) (L : Read × List ℕ → Option D) → ((x : X × List ℕ) → None ≡ on_some (F x) L) → None ≡ on_some (on_some a F) L
arm_none None F L t = refl
arm_none (Some x) F L t = t x

either : {A B D : Type 0} (t : Bool) (x y : Option A) (K : A → Option D) (u v : Option B) (L : B → Option D) → on_some x K ≡ on_some u L → on_some y K ≡ on_some v L → on_some (cond t x y) K ≡ on_some (cond t u v) L
either true x y K u v L p q = p
either false x y K u v L p q = q

abbrev pub as_range : {R : Type 0} → R × List ℕ → Got (Command R)
as_range x = Some (range x.0, x.1)

abbrev pub run_on : {R : Type 0} → (List ℕ → Got R) → Command R × List ℕ → Got (List (Command R))
run_on f k = more k.0 (run_from f k.1)

abbrev pub read_on : {R : Type 0} → (List ℕ → Got R) → Ranged R → Read × List ℕ → Got (List (Command R))
read_on f g p = after f g p.0 p.1

-- a RANGE is read alike by its numbers and as a whole
abbrev pub RangeTie : {R : Type 0} → (List ℕ → Got R) → Ranged R → Type 0
RangeTie f g = (cs : List ℕ) → on_some (on_some (f cs) as_range) (run_on f) ≡ on_some (range_first cs) (read_on f g)

module _ {R : Type 0} (f : List ℕ → Got R) (g : Ranged R) (tie : RangeTie f g) (o : ℕ) (cs : List ℕ) where
  abbrev others : Got Read
  others =
      cond (eqb o 2) (on_some (byte_at cs) (λ b. Some (Byte b.0, b.1)))
      (cond (eqb o 3) (on_some (index_first cs) (λ i. Some (Step i.0, i.1)))
      (cond (eqb o 4) (child_first cs)
      (cond (eqb o 5) (range_first cs)
      (cond (eqb o 6) (on_some (capture_at cs) (λ n. Some (Capture n.0, n.1))) None))))

  other_arms : on_some (operands f o cs) (run_on f) ≡ on_some others (read_on f g)
  other_arms =
      either (eqb o 2) _ _ _ _ _ _ (arm (byte_at cs) _ _ _ _ (λ b. refl))
      (either (eqb o 3) _ _ _ _ _ _ (index_arm cs _ _ _ _ (λ i. refl))
      (either (eqb o 4) _ _ _ _ _ _ (index_arm cs _ _ _ _ (λ i. arm (word_at i.1) _ _ _ _ (λ l. arm (word_at l.1) _ _ _ _ (λ r. refl))))
      (either (eqb o 5) _ _ _ _ _ _ (tie cs)
      (either (eqb o 6) _ _ _ _ _ _ (arm (capture_at cs) _ _ _ _ (λ n. refl)) refl))))

  power_arm : {A : Type 0} → (m : Option A) (K : A → Got (List (Command R))) → m ≡ None → on_some m K ≡ on_some (power_first cs) (read_on f g)
  power_arm m K h = rw h (arm_none (word_at cs) _ _ (λ l. arm_none (word_at l.1) _ _ (λ r. refl)))

  one_arm : (t : Bool) → eqb o 1 ≡ t → on_some (operands f o cs) (run_on f) ≡ on_some (cond t (power_first cs) others) (read_on f g)
  one_arm true h = power_arm (operands f o cs) (run_on f) (ap (λ n. operands f n cs) (eqb-true o 1 h))
  one_arm false h = other_arms

  all_arms : (t : Bool) → cond t (Some ([], cs)) (on_some (operands f o cs) (run_on f)) ≡ on_some (cond t (Some (End, cs)) (cond (eqb o 1) (power_first cs) others)) (read_on f g)
  all_arms true = refl
  all_arms false = one_arm (eqb o 1) refl

-- a run by the command that stands first
pub by_command : {R : Type 0} (f : List ℕ → Got R) (w : R → List ℕ → List ℕ) (F : R → Type 0) (g : Ranged R) → Codes f w F → RangeTie f g → (cs : List ℕ)
    → run_from f cs ≡ on_some (command_first cs) (read_on f g)
by_command f w F g cd tie [] = refl
by_command f w F g cd tie (o ∷ cs) = run_turn f w F cd o cs ∙ all_arms f g tie o cs (eqb o 0)

-- ---- in a separator no range is read
abbrev pub no_range : Ranged ⊥
no_range i j l a b r cs = None

pub no_range_lem : RangeTie nothing no_range
no_range_lem cs =
    arm_none (index_first cs) _ _ (λ i. arm_none (index_first i.1) _ _ (λ j. arm_none (word_at j.1) _ _ (λ l.
    arm_none (word_at l.1) _ _ (λ a. arm_none (word_at a.1) _ _ (λ b. arm_none (word_at b.1) _ _ (λ r. refl))))))

-- ---- in a template three separators stand behind a range
abbrev pub ranged : ChildIndex → ChildIndex → ℕ → ℕ → ℕ → ℕ → Separator → Separator → Separator → Repeat
ranged i j l a b r x y z = record { from = bits i.0; to = bits j.0; left = l; middle_left = a; middle_right = b; right = r; before = x; between = y; behind = z }

abbrev pub three : Ranged Repeat
three i j l a b r cs = on_some (separator_at cs) (λ x. on_some (separator_at x.1) (λ y. on_some (separator_at y.1) (λ z. Some (ranged i j l a b r x.0 y.0 z.0, z.1))))

assoc : {A B D : Type 0} (m : Option A) (G : A → Option B) (K : B → Option D) → on_some (on_some m G) K ≡ on_some m (λ x. on_some (G x) K)
assoc None G K = refl
assoc (Some x) G K = refl

pub range_tie : RangeTie repeat_at three
range_tie cs =
    assoc (repeat_at cs) as_range (run_on repeat_at) ∙
    index_arm cs _ _ _ _ (λ i. index_arm i.1 _ _ _ _ (λ j. arm (word_at j.1) _ _ _ _ (λ l.
    arm (word_at l.1) _ _ _ _ (λ a. arm (word_at a.1) _ _ _ _ (λ b. arm (word_at b.1) _ _ _ _ (λ r. refl))))))
