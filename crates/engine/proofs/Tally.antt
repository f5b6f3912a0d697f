-- How a call changes the number of texts held.
use Rattle.std.proofs.Common.{◌≡◌, ℕ, zero, suc, ◌+◌, ◌<◌, ◌≤◌, Bool, cond, ◌⊎◌, List, Some, None, Option, sym, refl, ap, ◌∙◌, inl, inr, arith, le-leb}
use Rattle.std.proofs.Math.Nat.{eq-or-lt_of_le}
use borrow.Author.Tests.{lt-leb}
use Rattle.engine.specs.declared.error.PatternError.TheVariants.{EngineFull}
use Rattle.engine.specs.Holdings.{unprepared, Held, Took, Freed, one, tally}

pub one_le : (o : Option (List ℕ)) → one o ≤ 1
one_le None = omega arith
one_le (Some t) = omega arith

pub tally_le : (n : ℕ) (h : Held) → tally n h ≤ n
tally_le zero h = omega arith
tally_le (suc n) h = omega (arith, one_le (h n), tally_le n h)

-- alike below n
pub tally-kept : (n : ℕ) (h h' : Held) → ((k : ℕ) → k < n → h' k ≡ h k) → tally n h' ≡ tally n h
tally-kept zero h h' e = refl
tally-kept (suc n) h h' e = omega (arith, ap one (e n (omega arith)), tally-kept n h h' (λ k lt. e k (omega arith)))

-- alike but at i
pub tally_but : (n i : ℕ) (h h' : Held) → i < n → ((k : ℕ) → (k ≡ i → ⊥) → h' k ≡ h k) → tally n h' + one (h i) ≡ tally n h + one (h' i)
tally_but zero i h h' lt e = absurd (omega arith)
tally_but (suc n) i h h' lt e = go (λ p. tally_but n i h h' p e) (eq-or-lt_of_le {n = i} {m = n} (omega arith))
  where
    go : (i < n → tally n h' + one (h i) ≡ tally n h + one (h' i)) → (i ≡ n) ⊎ (i < n) → one (h' n) + tally n h' + one (h i) ≡ one (h n) + tally n h + one (h' i)
    go r (inl p) = omega (arith, ap (λ (x : ℕ). one (h x)) p, ap (λ (x : ℕ). one (h' x)) p, tally-kept n h h' (λ k lt. e k (λ q. omega arith)))
    go r (inr p) = omega (arith, r p, ap one (e n (λ q. omega arith)))

-- one more is held; so there was room
pub tally_took : (n i : ℕ) (h h' : Held) (t : List ℕ) → i < n → Took h h' i t → tally n h' ≡ tally n h + 1
tally_took n i h h' t lt k = omega (arith, tally_but n i h h' lt k.others, ap one k.free, ap one k.holds)

pub tally_freed : (n i : ℕ) (h h' : Held) → i < n → Freed h h' i → tally n h' + one (h i) ≡ tally n h
tally_freed n i h h' lt k = omega (arith, tally_but n i h h' lt k.others, ap one k.free)

-- full exactly when no number below n is free
pub tally_free : (n i : ℕ) (h : Held) → i < n → h i ≡ None → tally n h < n
tally_free zero i h lt f = absurd (omega arith)
tally_free (suc n) i h lt f = go (λ p. tally_free n i h p f) (eq-or-lt_of_le {n = i} {m = n} (omega arith))
  where
    go : (i < n → tally n h < n) → (i ≡ n) ⊎ (i < n) → one (h n) + tally n h < suc n
    go r (inl p) = omega (arith, ap (λ (x : ℕ). one (h x)) p, ap one f, tally_le n h)
    go r (inr p) = omega (arith, r p, one_le (h n))

pub tally_full : (n : ℕ) (h : Held) → ((k : ℕ) → k < n → one (h k) ≡ 1) → tally n h ≡ n
tally_full zero h f = refl
tally_full (suc n) h f = omega (arith, f n (omega arith), tally_full n h (λ k lt. f k (omega arith)))

-- a text with a count, where there is room, and where there is none
pub prepared_room : (r : Option ℕ) (n m k : ℕ) → r ≡ Some k → n < m → None ≡ unprepared r n m
prepared_room r n m k e h = sym (ap (λ (r : Option ℕ). unprepared r n m) e ∙ ap (λ (b : Bool). cond b (Some EngineFull) None) (lt-leb m n h))

pub refused_full : (r : Option ℕ) (n m k : ℕ) → r ≡ Some k → n ≡ m → Some EngineFull ≡ unprepared r n m
refused_full r n m k e h = sym (ap (λ (r : Option ℕ). unprepared r n m) e ∙ ap (λ (b : Bool). cond b (Some EngineFull) None) (le-leb m n (omega arith)))
