-- No `)$` stands in a repeat, and so none in its separators.
use Rattle.std.proofs.Common.{◌≡◌, ℕ, zero, suc, ◌+◌, Bool, true, false, cond, ◌&&◌, eqb, List, [], ◌∷◌, ◌++◌, length, take, Some, refl, ap, ◌∙◌, subst, arith}
use Rattle.std.proofs.lemmas.Bool.{or_parts, or_from, and_right}
use Rattle.std.specs.List.{AllByRecursion as All}
use Rattle.grammar.specs.Grammar.{Parted, Separators}
use Rattle.grammar.specs.Marks.{begins, first_mark, closes}
use Rattle.grammar.specs.Numbers.{numeral}
use Rattle.grammar.proofs.Chains.{same_some, nothing}
use Rattle.grammar.proofs.MarksFound.{closes_right, keeps}
use Rattle.grammar.proofs.Unread.{Itself, SeparatorsOpen}

-- a `)$` in a part stands in what was typed
part_first : {t u : List ℕ} {us : List (List ℕ)} → Parted t u us → begins 36 u ≡ true → begins 36 t ≡ true
part_first Parted.end e = e
part_first (Parted.pair p) e = e
part_first (Parted.part h p) e = let b : ◌≡◌ {A = ℕ} 0 1 = cc in absurd (omega arith)
part_first (Parted.other h p) e = e

pub part_closes : {t u : List ℕ} {us : List (List ℕ)} → Parted t u us → closes t ≡ false → (closes u ≡ false) × All (λ v. closes v ≡ false) us
part_closes Parted.end h = (refl, tt)
part_closes (Parted.pair p) h = part_closes p h
part_closes (Parted.part e p) h = (refl, part_closes p h)
part_closes (Parted.other {c} {t} {u} e p) h =
    let k = or_parts (eqb c 41 && begins 36 t) (closes t) h in
    let q = part_closes p k.1 in
    (or_from _ _ (keeps c t u (part_first p) k.0) q.0, q.1)

-- the three separators
abbrev Opened : List ℕ → Type 0
Opened t = closes t ≡ false

three_open : {t x y z : List ℕ} → Separators Itself t x y z → closes t ≡ false → Opened x × Opened y × Opened z
three_open (Separators.unwritten a b c) h = (subst Opened a refl, subst Opened b refl, subst Opened c refl)
three_open (Separators.single p a b c) h = (subst Opened a refl, subst Opened b (part_closes p h).0, subst Opened c refl)
three_open (Separators.triple p a b c) h =
    let q = part_closes p h in
    (subst Opened a q.0, subst Opened b q.1.0, subst Opened c q.1.1.0)

pub separators_open : SeparatorsOpen
separators_open t s x g =
    let u = g.powers ++ g.separators in
    let h : closes (g.path ++ (46 ∷ 46 ∷ numeral x.to ++ u)) ≡ false = subst (λ (l : List ℕ). closes l ≡ false) g.is g.first in
    let o = three_open g.three (closes_right g.powers g.separators (closes_right (46 ∷ 46 ∷ numeral x.to) u (closes_right g.path (46 ∷ 46 ∷ numeral x.to ++ u) h))) in
    record { before = o.0; between = o.1; behind = o.2 }

-- ---- the mark that closes a repeat is the first `)$`
front_begins : (inside rest : List ℕ) → begins 36 (inside ++ 41 ∷ rest) ≡ begins 36 inside
front_begins [] rest = refl
front_begins (c ∷ inside) rest = refl

pub closing_found : (at : ℕ) (inside rest : List ℕ) → closes inside ≡ false → first_mark 41 36 at (inside ++ 41 ∷ 36 ∷ rest) ≡ Some (at + length inside)
closing_found at [] rest h = let none : at ≡ at + 0 = omega arith in ap (λ (n : ℕ). Some n) none
closing_found at (c ∷ inside) rest h =
    let p = or_parts (eqb c 41 && begins 36 inside) (closes inside) h in
    let next : at + 1 + length inside ≡ at + suc (length inside) = omega arith in
    rw (front_begins inside (36 ∷ rest), p.0) (closing_found (at + 1) inside rest p.1 ∙ ap (λ (n : ℕ). Some n) next)

take_begins : (b : Bool) (m k : ℕ) (cs : List ℕ) → (b && begins m cs) ≡ false → (b && begins m (take k cs)) ≡ false
take_begins b m zero cs h = and_right b false refl
take_begins b m (suc k) [] h = h
take_begins b m (suc k) (c ∷ cs) h = h

-- what stands before the first `)$` has none
pub closing-first : (at : ℕ) (cs : List ℕ) (n : ℕ) → first_mark 41 36 at cs ≡ Some n → (k : ℕ) × (n ≡ at + k) × (closes (take k cs) ≡ false)
closing-first at [] n e = nothing n e
closing-first at (c ∷ cs) n e = go (eqb c 41 && begins 36 cs) refl e (closing-first (at + 1) cs n)
  where
    go : (b : Bool) → (eqb c 41 && begins 36 cs) ≡ b → cond b (Some at) (first_mark 41 36 (at + 1) cs) ≡ Some n → (first_mark 41 36 (at + 1) cs ≡ Some n → (k : ℕ) × (n ≡ at + 1 + k) × (closes (take k cs) ≡ false))
        → (k : ℕ) × (n ≡ at + k) × (closes (take k (c ∷ cs)) ≡ false)
    go true p q ih = let same : at ≡ n = same_some at n q in (0, omega arith, refl)
    go false p q ih =
        let r = ih q in
        (suc r.0, omega (arith, r.1), or_from _ _ (take_begins (eqb c 41) 36 r.0 cs p) r.2)
