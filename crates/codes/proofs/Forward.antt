-- The pieces of a run by one pass forward: whether there are any, how many, and with how many steps.
use Rattle.std.proofs.Common.{◌≡◌, ℕ, suc, ◌+◌, ◌≤◌, Bool, true, false, ◌&&◌, leb, List, [], ◌∷◌, length, is_some, Some, None, Option, sym, refl, ap, ◌∙◌, subst, arith}
use Rattle.std.proofs.lemmas.Bool.{leb-true, le-leb}
use Rattle.std.proofs.lemmas.Bool.Decides.{nat_tests}
use Rattle.grammar.proofs.Chains.{nothing as none, same_some}
use Rattle.grammar.specs.Deep.{within_by}
use Rattle.grammar.specs.Readings.{Piece, text, child, capture, repeat}
use Rattle.codes.specs.Code.{Command, byte, step, point, range, hold}
use Rattle.codes.specs.Decode.{on_some, glue, stepped, group}
use Rattle.codes.specs.Forward.{grouped, counted, stepped_by, ranges_by, GroupedForward, SteppedForward, WithinForward}
use Rattle.codes.proofs.Words.{by_on_some}

some_map : {A B : Type 0} (m : Option A) (f : A → B) → is_some m ≡ is_some (on_some m (λ x. Some (f x)))
some_map None f = refl
some_map (Some x) f = refl

twice-stepped : {R : Type 0} (i y : ℕ) (m : Option (List (Piece R))) → is_some (on_some m (stepped i)) ≡ is_some (on_some (on_some m (stepped i)) (stepped y))
twice-stepped i y None = refl
twice-stepped i y (Some []) = refl
twice-stepped i y (Some (text b bs ∷ ps)) = refl
twice-stepped i y (Some (child s j l r ∷ ps)) = refl
twice-stepped i y (Some (capture n ∷ ps)) = refl
twice-stepped i y (Some (repeat s x ∷ ps)) = refl

glue-stepped : {R : Type 0} (b y : ℕ) (m : Option (List (Piece R))) → false ≡ is_some (on_some (on_some m (λ ps. Some (glue b ps))) (stepped y))
glue-stepped b y None = refl
glue-stepped b y (Some []) = refl
glue-stepped b y (Some (text c cs ∷ ps)) = refl
glue-stepped b y (Some (child s i l r ∷ ps)) = refl
glue-stepped b y (Some (capture n ∷ ps)) = refl
glue-stepped b y (Some (repeat s x ∷ ps)) = refl

-- p ∷ ps takes a step
takes : {R : Type 0} (y : ℕ) (m : Option (List (Piece R))) (f : List (Piece R) → Piece R) (b : Bool) → ((ps : List (Piece R)) → is_some (stepped y (f ps ∷ ps)) ≡ b) → is_some (on_some (on_some m (λ ps. Some (f ps ∷ ps))) (stepped y)) ≡ (is_some m && b)
takes y None f b h = refl
takes y (Some ps) f b h = h ps

pub and_yes : (a : Bool) → a ≡ (a && true)
and_yes true = refl
and_yes false = refl

and_no : (a : Bool) → false ≡ (a && false)
and_no true = refl
and_no false = refl

both : {R : Type 0} (ks : List (Command R)) → (grouped false ks ≡ is_some (group ks)) × ((y : ℕ) → grouped true ks ≡ is_some (on_some (group ks) (stepped y)))
both [] = (refl, λ y. refl)
both (byte b ∷ ks) = let r = both ks in (r.0 ∙ some_map (group ks) (glue b), λ y. glue-stepped b y (group ks))
both (step i ∷ ks) = let r = both ks in (r.1 i, λ y. r.1 i ∙ twice-stepped i y (group ks))
both (point i l x ∷ ks) = let r = both ks in (r.0 ∙ some_map (group ks) (λ ps. child [] i l x ∷ ps), λ y. r.0 ∙ and_yes _ ∙ sym (takes y (group ks) (λ ps. child [] i l x) true (λ ps. refl)))
both (range x ∷ ks) = let r = both ks in (r.0 ∙ some_map (group ks) (λ ps. repeat [] x ∷ ps), λ y. r.0 ∙ and_yes _ ∙ sym (takes y (group ks) (λ ps. repeat [] x) true (λ ps. refl)))
both (hold n ∷ ks) = let r = both ks in (r.0 ∙ some_map (group ks) (λ ps. capture n ∷ ps), λ y. and_no _ ∙ sym (takes y (group ks) (λ ps. capture n) false (λ ps. refl)))

-- ---- how many
abbrev texted : {R : Type 0} → List (Piece R) → ℕ
texted [] = 0
texted (text b bs ∷ ps) = 1
texted (child s i l r ∷ ps) = 0
texted (capture n ∷ ps) = 0
texted (repeat s x ∷ ps) = 0

glue-length : {R : Type 0} (b : ℕ) (ps : List (Piece R)) → (length (glue b ps) + texted ps ≡ suc (length ps)) × (texted (glue b ps) ≡ 1)
glue-length b [] = (omega arith, refl)
glue-length b (text c cs ∷ ps) = (omega arith, refl)
glue-length b (child s i l r ∷ ps) = (omega arith, refl)
glue-length b (capture n ∷ ps) = (omega arith, refl)
glue-length b (repeat s x ∷ ps) = (omega arith, refl)

stepped-length : {R : Type 0} (y : ℕ) (ps qs : List (Piece R)) → stepped y ps ≡ Some qs → (length qs ≡ length ps) × (texted qs ≡ 0) × (texted ps ≡ 0)
stepped-length y [] qs e = none _ e
stepped-length y (text b bs ∷ ps) qs e = none _ e
stepped-length {R} y (child s i l r ∷ ps) qs e = subst (λ (q : List (Piece R)). (length q ≡ suc (length ps)) × (texted q ≡ 0) × (◌≡◌ {A = ℕ} 0 0)) (same_some _ _ e) (refl, refl, refl)
stepped-length y (capture n ∷ ps) qs e = none _ e
stepped-length {R} y (repeat s x ∷ ps) qs e = subst (λ (q : List (Piece R)). (length q ≡ suc (length ps)) × (texted q ≡ 0) × (◌≡◌ {A = ℕ} 0 0)) (same_some _ _ e) (refl, refl, refl)

abbrev Counts : {R : Type 0} → List (Command R) → List (Piece R) → Type 0
Counts ks ps = (counted false ks ≡ length ps) × (counted true ks + texted ps ≡ length ps)

count : {R : Type 0} (ks : List (Command R)) (ps : List (Piece R)) → group ks ≡ Some ps → Counts ks ps
count {R} [] ps e = subst (Counts {R = R} []) (same_some _ _ e) (refl, omega arith)
count {R} (byte b ∷ ks) ps e =
    let m = by_on_some (group ks) _ ps e in
    let r = count ks m.0 m.1 in
    let g = glue-length b m.0 in
    subst (Counts (byte b ∷ ks)) (same_some _ _ m.2) (omega arith, omega arith)
count {R} (step i ∷ ks) ps e =
    let m = by_on_some (group ks) _ ps e in
    let r = count ks m.0 m.1 in
    let g = stepped-length i m.0 ps m.2 in
    (omega arith, omega arith)
count {R} (point i l x ∷ ks) ps e =
    let m = by_on_some (group ks) _ ps e in
    let r = count ks m.0 m.1 in
    subst (Counts (point i l x ∷ ks)) (same_some _ _ m.2) (omega arith, omega arith)
count {R} (range x ∷ ks) ps e =
    let m = by_on_some (group ks) _ ps e in
    let r = count ks m.0 m.1 in
    subst (Counts (range x ∷ ks)) (same_some _ _ m.2) (omega arith, omega arith)
count {R} (hold n ∷ ks) ps e =
    let m = by_on_some (group ks) _ ps e in
    let r = count ks m.0 m.1 in
    subst (Counts (hold n ∷ ks)) (same_some _ _ m.2) (omega arith, omega arith)

pub grouped_forward : {R : Type 0} → GroupedForward R
grouped_forward ks = ((both ks).0, λ ps e. (count ks ps e).0)

-- ---- with how many steps
-- `within_by` where k more steps stand before the first piece
abbrev within_from : {R : Type 0} → ℕ → (R → Bool) → ℕ → List (Piece R) → Bool
within_from n f k [] = true
within_from n f k (text b bs ∷ ps) = within_by n f ps
within_from n f k (child s i l r ∷ ps) = leb (k + length s) n && within_by n f ps
within_from n f k (capture j ∷ ps) = within_by n f ps
within_from n f k (repeat s x ∷ ps) = leb (k + length s) n && (f x && within_by n f ps)

from-none : {R : Type 0} (n : ℕ) (f : R → Bool) (ps : List (Piece R)) → within_from n f 0 ps ≡ within_by n f ps
from-none n f [] = refl
from-none n f (text b bs ∷ ps) = refl
from-none n f (child s i l r ∷ ps) = let z : 0 + length s ≡ length s = omega arith in ap (λ k. leb k n && within_by n f ps) z
from-none n f (capture j ∷ ps) = refl
from-none n f (repeat s x ∷ ps) = let z : 0 + length s ≡ length s = omega arith in ap (λ k. leb k n && (f x && within_by n f ps)) z

glue-within : {R : Type 0} (n : ℕ) (f : R → Bool) (k b : ℕ) (ps : List (Piece R)) → within_by n f ps ≡ within_from n f k (glue b ps)
glue-within n f k b [] = refl
glue-within n f k b (text c cs ∷ ps) = refl
glue-within n f k b (child s i l r ∷ ps) = refl
glue-within n f k b (capture j ∷ ps) = refl
glue-within n f k b (repeat s x ∷ ps) = refl

-- one more step is one that stood before
one_more : (n k m : ℕ) (w : Bool) → (leb (suc k) n && (leb (suc k + m) n && w)) ≡ (leb (k + suc m) n && w)
one_more n k m w = let z : suc k + m ≡ k + suc m = omega arith in go (leb (suc k) n) refl (ap (λ j. leb j n && w) z)
  where
    go : (b : Bool) → leb (suc k) n ≡ b → (leb (suc k + m) n && w) ≡ (leb (k + suc m) n && w) → (b && (leb (suc k + m) n && w)) ≡ (leb (k + suc m) n && w)
    go true t e = e
    go false t e = let z : leb (k + suc m) n ≡ false = grind (arith, nat_tests) in rw z

stepped_within : {R : Type 0} (n : ℕ) (f : R → Bool) (k y : ℕ) (ps qs : List (Piece R)) → stepped y ps ≡ Some qs → (leb (suc k) n && within_from n f (suc k) ps) ≡ within_from n f k qs
stepped_within n f k y [] qs e = none _ e
stepped_within n f k y (text b bs ∷ ps) qs e = none _ e
stepped_within n f k y (child s i l r ∷ ps) qs e = one_more n k (length s) (within_by n f ps) ∙ ap (within_from n f k) (same_some _ _ e)
stepped_within n f k y (capture j ∷ ps) qs e = none _ e
stepped_within n f k y (repeat s x ∷ ps) qs e = one_more n k (length s) (f x && within_by n f ps) ∙ ap (within_from n f k) (same_some _ _ e)

-- the steps that wait are few enough for a piece that adds none
waited : (n k : ℕ) (w : Bool) → k ≤ n → w ≡ (leb (k + 0) n && w)
waited n k w h = rw (le-leb (k + 0) n (omega arith))

and_three : (a b c : Bool) → ((a && b) && c) ≡ (a && (b && c))
and_three true b c = refl
and_three false b c = refl

and_turn : (a b c : Bool) → (a && (b && c)) ≡ (b && (a && c))
and_turn true b c = refl
and_turn false true c = refl
and_turn false false c = refl

within : {R : Type 0} (n : ℕ) (f : R → Bool) (ks : List (Command R)) (ps : List (Piece R)) (k : ℕ) → k ≤ n → group ks ≡ Some ps → (stepped_by n k ks && ranges_by f ks) ≡ within_from n f k ps
within n f [] ps k h e = ap (within_from n f k) (same_some _ _ e)
within n f (byte b ∷ ks) ps k h e =
    let m = by_on_some (group ks) _ ps e in
    within n f ks m.0 0 (omega arith) m.1 ∙ from-none n f m.0 ∙ glue-within n f k b m.0 ∙ ap (within_from n f k) (same_some _ _ m.2)
within n f (step i ∷ ks) ps k h e =
    let m = by_on_some (group ks) _ ps e in
    and_three (leb (suc k) n) _ _ ∙ go m.0 (leb (suc k) n) refl (λ l. within n f ks m.0 (suc k) l m.1) ∙ stepped_within n f k i m.0 ps m.2
  where
    go : (qs : List (Piece _)) (b : Bool) → leb (suc k) n ≡ b → (suc k ≤ n → (stepped_by n (suc k) ks && ranges_by f ks) ≡ within_from n f (suc k) qs) → (b && (stepped_by n (suc k) ks && ranges_by f ks)) ≡ (b && within_from n f (suc k) qs)
    go qs true t ih = ih (leb-true _ _ t)
    go qs false t ih = refl
within n f (point i l x ∷ ks) ps k h e =
    let m = by_on_some (group ks) _ ps e in
    within n f ks m.0 0 (omega arith) m.1 ∙ from-none n f m.0 ∙ waited n k _ h ∙ ap (within_from n f k) (same_some _ _ m.2)
within n f (range x ∷ ks) ps k h e =
    let m = by_on_some (group ks) _ ps e in
    and_turn (stepped_by n 0 ks) (f x) _ ∙ ap (λ b. f x && b) (within n f ks m.0 0 (omega arith) m.1 ∙ from-none n f m.0) ∙ waited n k _ h ∙ ap (within_from n f k) (same_some _ _ m.2)
within n f (hold j ∷ ks) ps k h e =
    let m = by_on_some (group ks) _ ps e in
    within n f ks m.0 0 (omega arith) m.1 ∙ from-none n f m.0 ∙ ap (within_from n f k) (same_some _ _ m.2)

pub within_forward : {R : Type 0} → WithinForward R
within_forward n f ks ps e = within n f ks ps 0 (omega arith) e ∙ from-none n f ps

any_ranges : {R : Type 0} (ks : List (Command R)) → ranges_by (λ x. true) ks ≡ true
any_ranges [] = refl
any_ranges (byte b ∷ ks) = any_ranges ks
any_ranges (step i ∷ ks) = any_ranges ks
any_ranges (point i l r ∷ ks) = any_ranges ks
any_ranges (range x ∷ ks) = any_ranges ks
any_ranges (hold n ∷ ks) = any_ranges ks

pub stepped_forward : {R : Type 0} → SteppedForward R
stepped_forward n ks ps e = and_yes (stepped_by n 0 ks) ∙ ap (λ b. stepped_by n 0 ks && b) (sym (any_ranges ks)) ∙ within_forward n (λ x. true) ks ps e
