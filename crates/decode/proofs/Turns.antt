-- One more command of a run, by how far its reading has come.
use Rattle.std.proofs.Common.{◌≡◌, ℕ, suc, ◌+◌, ◌-◌, ◌<◌, Bool, true, false, cond, not, ◌&&◌, eqb, ltb, leb, List, [], ◌∷◌, Some, None, Option, refl, ap, ◌∙◌, arith}
use Rattle.std.proofs.lemmas.Bool.{leb-true, leb-false, le-leb, lt-leb, ltb-true, ltb-false, ne_eqb}
use Rattle.grammar.specs.Limits.{step_allowance}
use Rattle.codes.specs.Code.{Command, byte, step, point, range, hold}
use Rattle.codes.specs.Decode.{Got, on_some}
use Rattle.codes.specs.Forward.{grouped, counted, stepped_by}
use Rattle.wire.specs.declared.commands.Command.TheVariants.{Byte, Step, Child, Capture}
use Rattle.grammar.specs.declared.defns.ChildIndex.{ChildIndex}
use Rattle.decode.specs.declared.walks.Walk.{Walk}
use Rattle.decode.specs.Walking.{come, one_piece, walked}
use Rattle.decode.specs.Behind.{allowed_from, judged}

abbrev pub on_walk : {R : Type 0} → Option Walk → List (Command R) → Bool
on_walk None ks = false
on_walk (Some w) ks = allowed_from w ks

second_false : (g s : Bool) → (g && (false && s)) ≡ false
second_false true s = refl
second_false false s = refl

third_false : (g s : Bool) → (g && (s && false)) ≡ false
third_false true true = refl
third_false true false = refl
third_false false s = refl

less_room : (n r : ℕ) → 0 < r → leb (suc n) r ≡ leb n (r - 1)
less_room n r h = go (leb n (r - 1)) refl
  where
    go : (b : Bool) → leb n (r - 1) ≡ b → leb (suc n) r ≡ b
    go true e = let k = leb-true n (r - 1) e in le-leb (suc n) r (omega arith)
    go false e = let k = leb-false n (r - 1) e in lt-leb (suc n) r (omega arith)

more_pieces : {R : Type 0} (w : Walk) (t : Bool) (ks : List (Command R))
    → (grouped false ks && (leb (suc (counted t ks)) w.room && stepped_by step_allowance 0 ks)) ≡ on_walk (one_piece w t) ks
more_pieces w t ks = go (ltb 0 w.room) refl
  where
    go : (b : Bool) → ltb 0 w.room ≡ b
        → (grouped false ks && (leb (suc (counted t ks)) w.room && stepped_by step_allowance 0 ks)) ≡ on_walk (cond b (Some (come 0 t (w.room - 1))) None) ks
    go true e = ap (λ b. grouped false ks && (b && stepped_by step_allowance 0 ks)) (less_room (counted t ks) w.room (ltb-true 0 w.room e))
    go false e =
        let h = ltb-false 0 w.room e in
        let z : leb (suc (counted t ks)) w.room ≡ false = lt-leb _ _ (omega arith) in
        ap (λ b. grouped false ks && (b && stepped_by step_allowance 0 ks)) z ∙ second_false (grouped false ks) (stepped_by step_allowance 0 ks)

pub turn_byte : {R : Type 0} (w : Walk) (b : ℕ) (ks : List (Command R)) → allowed_from w (byte b ∷ ks) ≡ on_walk (walked w (Byte b)) ks
turn_byte w b ks = go (eqb w.waiting 0) w.text
  where
    go : (z t : Bool)
        → ((not (not z) && grouped false ks) && (leb (cond t (counted true ks) (suc (counted true ks))) w.room && stepped_by step_allowance 0 ks))
        ≡ on_walk (cond z (cond t (Some (come 0 true w.room)) (one_piece w true)) None) ks
    go false t = refl
    go true true = refl
    go true false = more_pieces w true ks

pub turn_hold : {R : Type 0} (w : Walk) (n : ℕ) (ks : List (Command R)) → allowed_from w (hold n ∷ ks) ≡ on_walk (walked w (Capture n)) ks
turn_hold w n ks = go (eqb w.waiting 0)
  where
    go : (z : Bool)
        → ((not (not z) && grouped false ks) && (leb (suc (counted false ks)) w.room && stepped_by step_allowance 0 ks))
        ≡ on_walk (cond z (one_piece w false) None) ks
    go false = refl
    go true = more_pieces w false ks

pub turn_step : {R : Type 0} (w : Walk) (j : ℕ) (i : ChildIndex) (ks : List (Command R)) → allowed_from w (step j ∷ ks) ≡ on_walk (walked w (Step i)) ks
turn_step w j i ks = go (ltb w.waiting step_allowance)
  where
    go : (b : Bool)
        → (grouped true ks && (leb (counted false ks) w.room && (b && stepped_by step_allowance (suc w.waiting) ks)))
        ≡ on_walk (cond b (Some (come (w.waiting + 1) false w.room)) None) ks
    go true =
        let z : suc w.waiting ≡ w.waiting + 1 = omega arith in
        let n : eqb (w.waiting + 1) 0 ≡ false = ne_eqb _ _ (λ e. omega arith) in
        rw (z, n)
    go false = third_false (grouped true ks) (leb (counted false ks) w.room)

pub turn_point : {R : Type 0} (w : Walk) (j x y : ℕ) (i : ChildIndex) (l r : ℕ) (ks : List (Command R)) → allowed_from w (point j x y ∷ ks) ≡ on_walk (walked w (Child i l r)) ks
turn_point w j x y i l r ks = more_pieces w false ks

pub turn_range : {R : Type 0} (w : Walk) (x : R) (ks : List (Command R)) → allowed_from w (range x ∷ ks) ≡ on_walk (one_piece w false) ks
turn_range w x ks = more_pieces w false ks

-- ---- judged so
abbrev pub more : {R : Type 0} → Command R → Got (List (Command R)) → Got (List (Command R))
more k m = on_some m (λ ks. Some (k ∷ ks.0, ks.1))

and_no : (a : Bool) → (a && false) ≡ false
and_no true = refl
and_no false = refl

pub judged-more : {R : Type 0} (w : Walk) (E F : List (Command R) → Bool) (k : Command R) (m : Got (List (Command R))) (o : Option Walk) (b : Bool)
    → ((ks : List (Command R)) → allowed_from w (k ∷ ks) ≡ on_walk o ks) → ((ks : List (Command R)) → E (k ∷ ks) ≡ (b && F ks))
    → judged w E (more k m) ≡ cond b (on_some o (λ v. judged v F m)) None
judged-more w E F k None None true p q = refl
judged-more w E F k None (Some v) true p q = refl
judged-more w E F k None o false p q = refl
judged-more w E F k (Some ks) None true p q = rw (p ks.0)
judged-more w E F k (Some ks) (Some v) true p q = rw (p ks.0, q ks.0)
judged-more w E F k (Some ks) o false p q = rw (q ks.0, and_no (allowed_from w (k ∷ ks.0)))

-- the end of a run
pub judged_end : {R : Type 0} (w : Walk) (E : List (Command R) → Bool) (rest : List ℕ)
    → judged w E (Some ([], rest)) ≡ cond (eqb w.waiting 0 && E []) (Some rest) None
judged_end w E rest = rw (le-leb 0 w.room (omega arith)) (go (eqb w.waiting 0))
  where
    go : (z : Bool) → cond ((not (not z) && true) && E []) (Some rest) None ≡ cond (z && E []) (Some rest) None
    go true = refl
    go false = refl
