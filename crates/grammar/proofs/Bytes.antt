-- What each byte of a text passes, and which byte does not occur in it.
use Rattle.std.proofs.Common.{◌≡◌, ℕ, Bool, true, false, ◌&&◌, ◌||◌, eqb, List, [], ◌∷◌, ◌++◌, sym, refl, ap, ◌∙◌, arith}
use Rattle.std.proofs.lemmas.Bool.Decides.{nat_tests}

abbrev pub Each : (ℕ → Bool) → List ℕ → Type 0
Each f [] = Unit {0}
Each f (c ∷ cs) = (f c ≡ true) × Each f cs

abbrev pub Without : ℕ → List ℕ → Type 0
Without m [] = Unit {0}
Without m (c ∷ cs) = (eqb c m ≡ false) × Without m cs

pub each_append : (f : ℕ → Bool) (a b : List ℕ) → Each f a → Each f b → Each f (a ++ b)
each_append f [] b h k = k
each_append f (c ∷ a) b h k = (h.0, each_append f a b h.1 k)

pub each_weaken : (f g : ℕ → Bool) → ((c : ℕ) → f c ≡ true → g c ≡ true) → (cs : List ℕ) → Each f cs → Each g cs
each_weaken f g w [] h = tt
each_weaken f g w (c ∷ cs) h = (w c h.0, each_weaken f g w cs h.1)

differs : (f : ℕ → Bool) (m c : ℕ) → f m ≡ false → f c ≡ true → eqb c m ≡ false
differs f m c n y = go (eqb c m) refl
  where
    go : (b : Bool) → eqb c m ≡ b → b ≡ false
    go false e = refl
    go true e =
        let same : c ≡ m = grind (arith, nat_tests) in
        let z : true ≡ false = sym y ∙ ap f same ∙ n in
        z

-- a byte that fails the test does not occur
pub each_without : (f : ℕ → Bool) (m : ℕ) → f m ≡ false → (cs : List ℕ) → Each f cs → Without m cs
each_without f m n [] h = tt
each_without f m n (c ∷ cs) h = (differs f m c n h.0, each_without f m n cs h.1)

pub without_append : (m : ℕ) (a b : List ℕ) → Without m a → Without m b → Without m (a ++ b)
without_append m [] b h k = k
without_append m (c ∷ a) b h k = (h.0, without_append m a b h.1 k)

pub and_left : (a b : Bool) → (a && b) ≡ true → a ≡ true
and_left true b e = refl
and_left false b e = e

pub and_right : (a b : Bool) → (a && b) ≡ true → b ≡ true
and_right true b e = e
and_right false b e = let z : ◌≡◌ {A = ℕ} 0 1 = cc in absurd (omega arith)

pub orb_right : (a b : Bool) → b ≡ true → (a || b) ≡ true
orb_right true b e = refl
orb_right false b e = e

pub eqb_self : (m : ℕ) → eqb m m ≡ true
eqb_self m = grind (arith, nat_tests)
