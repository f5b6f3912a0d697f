-- Where the first mark of a text is found, and what stands there.
use Rattle.std.proofs.Common.{◌≡◌, ℕ, suc, ◌+◌, ◌≤◌, Bool, true, false, cond, ◌&&◌, eqb, List, [], ◌∷◌, ◌++◌, length, take, drop, Some, None, sym, refl, ap, ◌∙◌, subst, arith, length-append}
use Rattle.std.proofs.lemmas.List.{take_all}
use Rattle.std.proofs.lemmas.Bool.{or_parts, or_from, and_right as and-false}
use Rattle.std.proofs.lemmas.Bool.Decides.{nat_tests}
use Rattle.grammar.specs.Marks.{begins, up_to, unpaired, halve, first_mark, closes}
use Rattle.grammar.proofs.Bytes.{Without, eqb_self}
use Rattle.grammar.proofs.Chains.{same_some, nothing}

-- ---- lists
pub take_front : (a b : List ℕ) → take (length a) (a ++ b) ≡ a
take_front [] b = refl
take_front (c ∷ a) b = ap (λ l. c ∷ l) (take_front a b)

pub drop_front : (a b : List ℕ) → drop (length a) (a ++ b) ≡ b
drop_front [] b = refl
drop_front (c ∷ a) b = drop_front a b

pub drop_behind : (a b : List ℕ) (m : ℕ) → drop (length a + 1) (a ++ m ∷ b) ≡ b
drop_behind [] b m = refl
drop_behind (c ∷ a) b m =
    let more : suc (length a) + 1 ≡ suc (length a + 1) = omega arith in
    ap (λ (n : ℕ). drop n (c ∷ (a ++ m ∷ b))) more ∙ drop_behind a b m

-- ---- a mark of one byte
pub up_to_le : (m : ℕ) (cs : List ℕ) → up_to m cs ≤ length cs
up_to_le m [] = omega arith
up_to_le m (c ∷ cs) = grind (arith, nat_tests, up_to_le m cs)

pub up_to-without : (m : ℕ) (cs : List ℕ) → Without m cs → up_to m cs ≡ length cs
up_to-without m [] h = refl
up_to-without m (c ∷ cs) h = rw h.0 (ap suc (up_to-without m cs h.1))

pub up_to_at : (m : ℕ) (a b : List ℕ) → Without m a → up_to m (a ++ m ∷ b) ≡ length a
up_to_at m [] b h = rw (eqb_self m)
up_to_at m (c ∷ a) b h = rw h.0 (ap suc (up_to_at m a b h.1))

-- ---- passing over a byte that is not m
pub unpaired_other : (m c : ℕ) (t : List ℕ) → eqb c m ≡ false → unpaired m (c ∷ t) ≡ suc (unpaired m t)
unpaired_other m c [] e = rw e
unpaired_other m c (d ∷ t) e = rw e

pub halve_other : (m c : ℕ) (t : List ℕ) → eqb c m ≡ false → halve m (c ∷ t) ≡ c ∷ halve m t
halve_other m c [] e = refl
halve_other m c (d ∷ t) e = rw e

-- ---- a part of what holds no `)$` holds none
pub closes-left : (a b : List ℕ) → closes (a ++ b) ≡ false → closes a ≡ false
closes-left [] b h = refl
closes-left (c ∷ []) b h = or_from (eqb c 41 && false) false (and-false (eqb c 41) false refl) refl
closes-left (c ∷ d ∷ a) b h =
    let p = or_parts (eqb c 41 && eqb d 36) (closes (d ∷ a ++ b)) h in
    or_from (eqb c 41 && eqb d 36) (closes (d ∷ a)) p.0 (closes-left (d ∷ a) b p.1)

pub closes_right : (a b : List ℕ) → closes (a ++ b) ≡ false → closes b ≡ false
closes_right [] b h = h
closes_right (c ∷ a) b h = closes_right a b (or_parts (eqb c 41 && begins 36 (a ++ b)) (closes (a ++ b)) h).1

-- where u begins with `$` only if t does, no `)$` begins at a byte before u unless one does before t
pub keeps : (c : ℕ) (t u : List ℕ) → (begins 36 u ≡ true → begins 36 t ≡ true) → (eqb c 41 && begins 36 t) ≡ false → (eqb c 41 && begins 36 u) ≡ false
keeps c t u f h = go (eqb c 41) (begins 36 u) refl (begins 36 t) refl h
  where
    go : (x y : Bool) → begins 36 u ≡ y → (z : Bool) → begins 36 t ≡ z → (x && z) ≡ false → (x && y) ≡ false
    go false y p z q r = refl
    go true false p z q r = refl
    go true true p z q r = sym (f p) ∙ q ∙ r

-- a text with no m, or parted at its first m
pub data Cut (m : ℕ) : List ℕ → Type 0 where
  whole : {cs : List ℕ} → Without m cs → Cut m cs
  parted : (a b : List ℕ) → Without m a → Cut m (a ++ m ∷ b)

pub cut : (m : ℕ) (cs : List ℕ) → Cut m cs
cut m [] = whole tt
cut m (c ∷ cs) = go (eqb c m) refl (cut m cs)
  where
    further : {l : List ℕ} → eqb c m ≡ false → Cut m l → Cut m (c ∷ l)
    further e (whole h) = whole (e, h)
    further e (parted a b h) = parted (c ∷ a) b (e, h)

    go : (b : Bool) → eqb c m ≡ b → Cut m cs → Cut m (c ∷ cs)
    go true e k = let same : m ≡ c = grind (arith, nat_tests) in subst (λ (x : ℕ). Cut m (x ∷ cs)) same (parted [] cs tt)
    go false e k = further e k

-- what the definitions that go by `up_to` see in either
pub whole_test : (m : ℕ) (cs : List ℕ) → Without m cs → eqb (up_to m cs) (length cs) ≡ true
whole_test m cs h = rw (up_to-without m cs h) (eqb_self (length cs))

pub whole_take : (m : ℕ) (cs : List ℕ) → Without m cs → take (up_to m cs) cs ≡ cs
whole_take m cs h = rw (up_to-without m cs h) (take_all (length cs) cs (omega arith))

pub parted_test : (m : ℕ) (a b : List ℕ) → Without m a → eqb (up_to m (a ++ m ∷ b)) (length (a ++ m ∷ b)) ≡ false
parted_test m a b h = rw (up_to_at m a b h, length-append a (m ∷ b)) (grind (arith, nat_tests))

pub parted-take : (m : ℕ) (a b : List ℕ) → Without m a → take (up_to m (a ++ m ∷ b)) (a ++ m ∷ b) ≡ a
parted-take m a b h = rw (up_to_at m a b h) (take_front a (m ∷ b))

pub parted-drop : (m : ℕ) (a b : List ℕ) → Without m a → drop (up_to m (a ++ m ∷ b) + 1) (a ++ m ∷ b) ≡ b
parted-drop m a b h = rw (up_to_at m a b h) (drop_behind a b m)

-- ---- a mark of two bytes
pub mark_found : (a b at : ℕ) (inside rest : List ℕ) → Without a inside → first_mark a b at (inside ++ a ∷ b ∷ rest) ≡ Some (at + length inside)
mark_found a b at [] rest h =
    let none : at ≡ at + 0 = omega arith in
    rw (eqb_self a, eqb_self b) (ap (λ (n : ℕ). Some n) none)
mark_found a b at (c ∷ inside) rest h =
    let next : at + 1 + length inside ≡ at + suc (length inside) = omega arith in
    rw h.0 (mark_found a b (at + 1) inside rest h.1 ∙ ap (λ (n : ℕ). Some n) next)

-- what the mark found has in front of it and behind it
pub record Marked (a b at : ℕ) (cs : List ℕ) (n : ℕ) : Type 0 where
  pub inside : List ℕ
  pub rest : List ℕ
  pub is : cs ≡ inside ++ a ∷ b ∷ rest
  pub long : n ≡ at + length inside

pub mark_stands : (a b at : ℕ) (cs : List ℕ) (n : ℕ) → first_mark a b at cs ≡ Some n → Marked a b at cs n
mark_stands a b at [] n e = nothing n e
mark_stands a b at (c ∷ []) n e = go (eqb c a) e
  where
    go : (k : Bool) → cond (k && false) (Some at) None ≡ Some n → Marked a b at (c ∷ []) n
    go true h = nothing n h
    go false h = nothing n h
mark_stands a b at (c ∷ d ∷ cs) n e = go (eqb c a) (eqb d b) refl refl e (mark_stands a b (at + 1) (d ∷ cs) n)
  where
    further : Marked a b (at + 1) (d ∷ cs) n → Marked a b at (c ∷ d ∷ cs) n
    further m = record { inside = c ∷ m.inside; rest = m.rest; is = ap (λ (l : List ℕ). c ∷ l) m.is; long = omega (arith, m.long) }

    go : (j k : Bool) → eqb c a ≡ j → eqb d b ≡ k → cond (j && k) (Some at) (first_mark a b (at + 1) (d ∷ cs)) ≡ Some n → (first_mark a b (at + 1) (d ∷ cs) ≡ Some n → Marked a b (at + 1) (d ∷ cs) n) → Marked a b at (c ∷ d ∷ cs) n
    go true true p q h ih =
        let one : c ≡ a = grind (arith, nat_tests) in
        let two : d ≡ b = grind (arith, nat_tests) in
        let same : at ≡ n = same_some at n h in
        record { inside = []; rest = cs; is = rw (one, two); long = omega arith }
    go true false p q h ih = further (ih h)
    go false k p q h ih = further (ih h)
