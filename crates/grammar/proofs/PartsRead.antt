-- The separators of a repeat, as they are read and as the grammar has them.
use Rattle.std.proofs.Common.{◌≡◌, ℕ, suc, ◌+◌, ◌-◌, ◌<◌, Bool, true, false, cond, ◌&&◌, eqb, List, [], ◌∷◌, ◌++◌, length, take, drop, Ok, Result, sym, refl, ap, ◌∙◌, subst, append-nil, arith, length-append}
use Rattle.std.proofs.lemmas.List.{drop_all}
use Rattle.std.proofs.lemmas.Bool.{eqb-true, eqb-false, ne_eqb, eq-eqb}
use Rattle.refusal.specs.declared.error.FormatterError.TheVariants.{TooManyControl}
use Rattle.refusal.specs.declared.error.PartingMark.TheVariants.{Bar}
use Rattle.grammar.specs.Controls.{Parts, third_part, second_part, separators_at, repeat_parts}
use Rattle.grammar.specs.Grammar.{Parted, Separators}
use Rattle.grammar.specs.Marks.{begins, up_to, unpaired, halve}
use Rattle.grammar.specs.Results.{refusal, Fault}
use Rattle.grammar.proofs.Bytes.{Without}
use Rattle.grammar.proofs.Chains.{same_ok, refused}
use Rattle.grammar.proofs.MarksFound.{up_to-without, up_to_at, drop_behind, unpaired_other, halve_other}
use Rattle.grammar.proofs.Unread.{Itself}

-- ---- no bar parts
pub parted-whole : (cs : List ℕ) → unpaired 124 cs ≡ length cs → Parted cs (halve 124 cs) []
parted-whole [] e = Parted.end
parted-whole (c ∷ []) e = go (eqb c 124) refl e
  where
    go : (b : Bool) → eqb c 124 ≡ b → ◌≡◌ {A = ℕ} (cond b 0 1) 1 → Parted (c ∷ []) (c ∷ []) []
    go true p q = absurd (omega arith)
    go false p q = Parted.other (eqb-false c 124 p) Parted.end
parted-whole (c ∷ d ∷ cs) e = go (eqb c 124) refl (eqb d 124) refl (parted-whole cs) (parted-whole (d ∷ cs)) e
  where
    go : (b : Bool) → eqb c 124 ≡ b → (k : Bool) → eqb d 124 ≡ k → (unpaired 124 cs ≡ length cs → Parted cs (halve 124 cs) []) → (unpaired 124 (d ∷ cs) ≡ length (d ∷ cs) → Parted (d ∷ cs) (halve 124 (d ∷ cs)) [])
        → cond b (cond k (suc (suc (unpaired 124 cs))) 0) (suc (unpaired 124 (d ∷ cs))) ≡ suc (suc (length cs)) → Parted (c ∷ d ∷ cs) (cond (b && k) (124 ∷ halve 124 cs) (c ∷ halve 124 (d ∷ cs))) []
    go true p true q f g h = rw (eqb-true c 124 p, eqb-true d 124 q) (Parted.pair (f (omega arith)))
    go true p false q f g h = absurd (omega arith)
    go false p k q f g h = Parted.other (eqb-false c 124 p) (g (omega arith))

-- ---- the first bar that parts
abbrev pub Cuts : List ℕ → List ℕ → List (List ℕ) → Type 0
Cuts cs u us = Parted (drop (suc (unpaired 124 cs)) cs) u us → Parted cs (halve 124 (take (unpaired 124 cs) cs)) (u ∷ us)

cuts_other : (c : ℕ) (cs u : List ℕ) (us : List (List ℕ)) → eqb c 124 ≡ false → Cuts cs u us → Cuts (c ∷ cs) u us
cuts_other c cs u us e f p =
    let n = unpaired_other 124 c cs e in
    let k : Parted (c ∷ cs) (c ∷ halve 124 (take (unpaired 124 cs) cs)) (u ∷ us) = Parted.other (eqb-false c 124 e) (f (subst (λ (x : ℕ). Parted (drop x cs) u us) n p)) in
    subst (λ (x : ℕ). Parted (c ∷ cs) (halve 124 (take x (c ∷ cs))) (u ∷ us)) (sym n)
    (subst (λ (x : List ℕ). Parted (c ∷ cs) x (u ∷ us)) (sym (halve_other 124 c (take (unpaired 124 cs) cs) e)) k)

pub parted_cuts : (cs u : List ℕ) (us : List (List ℕ)) → (unpaired 124 cs ≡ length cs → ⊥) → Cuts cs u us
parted_cuts [] u us h = absurd (h refl)
parted_cuts (c ∷ []) u us h = go (eqb c 124) refl
  where
    go : (b : Bool) → eqb c 124 ≡ b → Parted (drop (cond b 0 1) []) u us → Parted (c ∷ []) (halve 124 (take (cond b 0 1) (c ∷ []))) (u ∷ us)
    go true p q = rw (eqb-true c 124 p) (Parted.part refl q)
    go false p q = absurd (h (unpaired_other 124 c [] p))
parted_cuts (c ∷ d ∷ cs) u us h = go (eqb c 124) refl (eqb d 124) refl h (parted_cuts cs u us) (parted_cuts (d ∷ cs) u us)
  where
    go : (b : Bool) → eqb c 124 ≡ b → (k : Bool) → eqb d 124 ≡ k → (cond b (cond k (suc (suc (unpaired 124 cs))) 0) (suc (unpaired 124 (d ∷ cs))) ≡ suc (suc (length cs)) → ⊥)
        → ((unpaired 124 cs ≡ length cs → ⊥) → Cuts cs u us) → ((unpaired 124 (d ∷ cs) ≡ length (d ∷ cs) → ⊥) → Cuts (d ∷ cs) u us) → Cuts (c ∷ d ∷ cs) u us
    go true p true q h f g = rw (eqb-true c 124 p, eqb-true d 124 q) (λ r. Parted.pair (f (λ e. h (ap (λ n. suc (suc n)) e)) r))
    go true p false q h f g = rw (eqb-true c 124 p, q) (λ r. Parted.part q r)
    go false p k q h f g = cuts_other c (d ∷ cs) u us p (g (λ e. h (ap suc e)))

-- what `unpaired` finds in bytes that are parted
abbrev pub Found : List ℕ → List ℕ → List (List ℕ) → Type 0
Found t u [] = (unpaired 124 t ≡ length t) × (halve 124 t ≡ u)
Found t u (v ∷ vs) = (unpaired 124 t < length t) × (halve 124 (take (unpaired 124 t) t) ≡ u) × Parted (drop (suc (unpaired 124 t)) t) v vs

found_pair : (t u : List ℕ) (us : List (List ℕ)) → Found t u us → Found (124 ∷ 124 ∷ t) (124 ∷ u) us
found_pair t u [] h = (ap (λ n. suc (suc n)) h.0, ap (λ l. 124 ∷ l) h.1)
found_pair t u (v ∷ vs) h = (omega (arith, h.0), ap (λ l. 124 ∷ l) h.1, h.2)

found_other : (c : ℕ) (t u : List ℕ) (us : List (List ℕ)) → eqb c 124 ≡ false → Found t u us → Found (c ∷ t) (c ∷ u) us
found_other c t u [] e h = (unpaired_other 124 c t e ∙ ap suc h.0, halve_other 124 c t e ∙ ap (λ l. c ∷ l) h.1)
found_other c t u (v ∷ vs) e h =
    rw (unpaired_other 124 c t e) (omega (arith, h.0), halve_other 124 c (take (unpaired 124 t) t) e ∙ ap (λ l. c ∷ l) h.1, h.2)

found_part : (t v : List ℕ) (vs : List (List ℕ)) → begins 124 t ≡ false → Parted t v vs → Found (124 ∷ t) [] (v ∷ vs)
found_part [] v vs e p = (omega arith, refl, p)
found_part (d ∷ t) v vs e p = rw e (omega arith, refl, p)

pub parted_found : {t u : List ℕ} {us : List (List ℕ)} → Parted t u us → Found t u us
parted_found Parted.end = (refl, refl)
parted_found (Parted.pair {t} {u} {us} p) = found_pair t u us (parted_found p)
parted_found (Parted.part {t} {u} {us} e p) = found_part t u us e p
parted_found (Parted.other {c} {t} {u} {us} e p) = found_other c t u us (ne_eqb c 124 e) (parted_found p)

-- ---- the parts that are read
third_forth : (l m : List ℕ) (place : ℕ) (cs : List ℕ) (s : Parts) → third_part l m place cs ≡ Ok s → ((l, m, cs) ≡ s) × Parted cs (halve 124 cs) []
third_forth l m place cs s e = go (eqb (unpaired 124 cs) (length cs)) refl e
  where
    go : (b : Bool) → eqb (unpaired 124 cs) (length cs) ≡ b → cond b (Ok (l, m, cs)) (refusal (TooManyControl Bar) (place + (unpaired 124 cs + 1)) (length cs - (unpaired 124 cs + 1))) ≡ Ok s → ((l, m, cs) ≡ s) × Parted cs (halve 124 cs) []
    go true p q = (same_ok _ _ q, parted-whole cs (eqb-true _ _ p))
    go false p q = refused _ _ q

abbrev SecondRead : List ℕ → List ℕ → Parts → Type 0
SecondRead l cs s = (l ≡ s.0) × Parted cs (halve 124 s.1) (halve 124 s.2 ∷ [])

second_forth : (l : List ℕ) (place : ℕ) (cs : List ℕ) (s : Parts) → second_part l place cs ≡ Ok s → SecondRead l cs s
second_forth l place cs s e = go (eqb (unpaired 124 cs) (length cs)) refl e
  where
    go : (b : Bool) → eqb (unpaired 124 cs) (length cs) ≡ b
        → cond b (refusal (TooManyControl Bar) place (length cs)) (third_part l (take (unpaired 124 cs) cs) (place + (unpaired 124 cs + 1)) (drop (unpaired 124 cs + 1) cs)) ≡ Ok s → SecondRead l cs s
    go true p q = refused _ _ q
    go false p q =
        let n : unpaired 124 cs + 1 ≡ suc (unpaired 124 cs) = omega arith in
        let t = third_forth l (take (unpaired 124 cs) cs) (place + (unpaired 124 cs + 1)) (drop (unpaired 124 cs + 1) cs) s q in
        let k = parted_cuts cs (halve 124 (drop (unpaired 124 cs + 1) cs)) [] (eqb-false _ _ p) (subst (λ (x : ℕ). Parted (drop x cs) (halve 124 (drop (unpaired 124 cs + 1) cs)) []) n t.1) in
        subst (SecondRead l cs) t.0 (refl, k)

abbrev pub SeparatorsRead : List ℕ → Parts → Type 0
SeparatorsRead t s = Separators Itself t (halve 124 s.0) (halve 124 s.1) (halve 124 s.2)

pub separators_forth : (place : ℕ) (cs : List ℕ) (s : Parts) → separators_at place cs ≡ Ok s → SeparatorsRead (36 ∷ cs) s
separators_forth place cs s e = go (eqb (unpaired 124 cs) (length cs)) refl e
  where
    go : (b : Bool) → eqb (unpaired 124 cs) (length cs) ≡ b
        → cond b (Ok ([], cs, [])) (second_part (take (unpaired 124 cs) cs) (place + (unpaired 124 cs + 1)) (drop (unpaired 124 cs + 1) cs)) ≡ Ok s → SeparatorsRead (36 ∷ cs) s
    go true p q = subst (SeparatorsRead (36 ∷ cs)) (same_ok _ _ q) (Separators.single (parted-whole cs (eqb-true _ _ p)) refl refl refl)
    go false p q =
        let n : unpaired 124 cs + 1 ≡ suc (unpaired 124 cs) = omega arith in
        let t = second_forth (take (unpaired 124 cs) cs) (place + (unpaired 124 cs + 1)) (drop (unpaired 124 cs + 1) cs) s q in
        let k = parted_cuts cs (halve 124 s.1) (halve 124 s.2 ∷ []) (eqb-false _ _ p) (subst (λ (x : ℕ). Parted (drop x cs) (halve 124 s.1) (halve 124 s.2 ∷ [])) n t.1) in
        Separators.triple k (ap (halve 124) t.0) refl refl

-- ---- the parts that the grammar has
third_back : (l m : List ℕ) (place : ℕ) (cs u : List ℕ) → Parted cs u [] → third_part l m place cs ≡ Ok (l, m, cs)
third_back l m place cs u p = let e = eq-eqb _ _ (parted_found p).0 in rw e

lt_ne : (m n : ℕ) → m < n → eqb m n ≡ false
lt_ne m n h = ne_eqb m n (λ e. omega arith)

one_more : (n : ℕ) → n + 1 ≡ suc n
one_more n = omega arith

second_back : (l : List ℕ) (place : ℕ) (cs u v : List ℕ) → Parted cs u (v ∷ [])
    → (m : List ℕ) × (r : List ℕ) × (second_part l place cs ≡ Ok (l, m, r)) × (halve 124 m ≡ u) × (halve 124 r ≡ v)
second_back l place cs u v p =
    let f = parted_found p in
    let n = one_more (unpaired 124 cs) in
    let q = subst (λ (x : ℕ). Parted (drop x cs) v []) (sym n) f.2 in
    let ne = lt_ne _ _ f.0 in
    (take (unpaired 124 cs) cs, drop (unpaired 124 cs + 1) cs, (rw ne (third_back l (take (unpaired 124 cs) cs) (place + (unpaired 124 cs + 1)) (drop (unpaired 124 cs + 1) cs) v q)), f.1, (parted_found q).1)

-- what is read of separators, halved
pub record PartsFound (m : Result Parts Fault) (x y z : List ℕ) : Type 0 where
  pub parts : Parts
  pub reads : m ≡ Ok parts
  pub before : halve 124 parts.0 ≡ x
  pub between : halve 124 parts.1 ≡ y
  pub behind : halve 124 parts.2 ≡ z

single_back : (place : ℕ) (cs m : List ℕ) → Parted cs m [] → PartsFound (separators_at place cs) [] m []
single_back place cs m p =
    let f = parted_found p in
    let e = eq-eqb _ _ f.0 in
    record { parts = ([], cs, []); reads = rw e; before = refl; between = f.1; behind = refl }

triple_back : (place : ℕ) (cs l m r : List ℕ) → Parted cs l (m ∷ r ∷ []) → PartsFound (separators_at place cs) l m r
triple_back place cs l m r p =
    let f = parted_found p in
    let n = one_more (unpaired 124 cs) in
    let q = subst (λ (x : ℕ). Parted (drop x cs) m (r ∷ [])) (sym n) f.2 in
    let ne = lt_ne _ _ f.0 in
    let s = second_back (take (unpaired 124 cs) cs) (place + (unpaired 124 cs + 1)) (drop (unpaired 124 cs + 1) cs) m r q in
    record { parts = (take (unpaired 124 cs) cs, s.0, s.1); reads = rw ne s.2; before = f.1; between = s.3; behind = s.4 }

same_parts : {m : Result Parts Fault} {l k r x y z : List ℕ} → l ≡ x → k ≡ y → r ≡ z → PartsFound m l k r → PartsFound m x y z
same_parts a b c f = record { parts = f.parts; reads = f.reads; before = f.before ∙ a; between = f.between ∙ b; behind = f.behind ∙ c }

pub separators_back_lem : (place : ℕ) (cs x y z : List ℕ) → Separators Itself (36 ∷ cs) x y z → PartsFound (separators_at place cs) x y z
separators_back_lem place cs x y z (Separators.single {m = m} p a b c) = same_parts a b c (single_back place cs m p)
separators_back_lem place cs x y z (Separators.triple {l = l} {m = m} {r = r} p a b c) = same_parts a b c (triple_back place cs l m r p)

-- ---- a front part without m, and what m opens behind it, if anything stands there
abbrev pub Starts : ℕ → List ℕ → Type 0
Starts m [] = Unit {0}
Starts m (c ∷ cs) = c ≡ m

pub up_to_front : (m : ℕ) (front t : List ℕ) → Without m front → Starts m t → up_to m (front ++ t) ≡ length front
up_to_front m front [] h s = ap (up_to m) (append-nil front) ∙ up_to-without m front h
up_to_front m front (c ∷ t) h s = ap (λ (x : ℕ). up_to m (front ++ x ∷ t)) s ∙ up_to_at m front t h

pub drop-up_to : (m : ℕ) (cs : List ℕ) → (up_to m cs ≡ length cs → ⊥) → drop (up_to m cs) cs ≡ m ∷ drop (up_to m cs + 1) cs
drop-up_to m [] h = absurd (h refl)
drop-up_to m (c ∷ cs) h = go (eqb c m) refl h (drop-up_to m cs)
  where
    go : (b : Bool) → eqb c m ≡ b → (cond b 0 (suc (up_to m cs)) ≡ suc (length cs) → ⊥) → ((up_to m cs ≡ length cs → ⊥) → drop (up_to m cs) cs ≡ m ∷ drop (up_to m cs + 1) cs)
        → drop (cond b 0 (suc (up_to m cs))) (c ∷ cs) ≡ m ∷ drop (cond b 0 (suc (up_to m cs)) + 1) (c ∷ cs)
    go true e h ih = ap (λ (x : ℕ). x ∷ cs) (eqb-true c m e)
    go false e h ih =
        let n : suc (up_to m cs) + 1 ≡ suc (up_to m cs + 1) = omega arith in
        ih (λ k. h (ap suc k)) ∙ ap (λ (k : ℕ). m ∷ drop k (c ∷ cs)) (sym n)

pub parts_forth : (place : ℕ) (cs : List ℕ) (s : Parts) → repeat_parts place cs (up_to 36 cs) ≡ Ok s → SeparatorsRead (drop (up_to 36 cs) cs) s
parts_forth place cs s e = go (eqb (up_to 36 cs) (length cs)) refl e
  where
    go : (b : Bool) → eqb (up_to 36 cs) (length cs) ≡ b → cond b (Ok ([], [], [])) (separators_at (place + (up_to 36 cs + 1)) (drop (up_to 36 cs + 1) cs)) ≡ Ok s → SeparatorsRead (drop (up_to 36 cs) cs) s
    go true p q =
        let l = eqb-true _ _ p in
        subst (λ (t : List ℕ). SeparatorsRead t s) (sym (drop_all (up_to 36 cs) cs (omega arith))) (subst (SeparatorsRead []) (same_ok _ _ q) (Separators.unwritten refl refl refl))
    go false p q =
        subst (λ (t : List ℕ). SeparatorsRead t s) (sym (drop-up_to 36 cs (eqb-false _ _ p))) (separators_forth (place + (up_to 36 cs + 1)) (drop (up_to 36 cs + 1) cs) s q)

pub separators_start : {sep x y z : List ℕ} → Separators Itself sep x y z → Starts 36 sep
separators_start (Separators.unwritten a b c) = tt
separators_start (Separators.single p a b c) = refl
separators_start (Separators.triple p a b c) = refl

pub front_short : (front : List ℕ) (c : ℕ) (t : List ℕ) → eqb (length front) (length (front ++ c ∷ t)) ≡ false
front_short front c t = lt_ne _ _ (rw length-append (omega arith))

written_back : (place : ℕ) (front cs x y z : List ℕ) → Separators Itself (36 ∷ cs) x y z → PartsFound (repeat_parts place (front ++ 36 ∷ cs) (length front)) x y z
written_back place front cs x y z s =
    let f = separators_back_lem (place + (length front + 1)) cs x y z s in
    let short = front_short front 36 cs in
    record { parts = f.parts; reads = rw (short, drop_behind front cs 36) f.reads; before = f.before; between = f.between; behind = f.behind }

pub parts-back : (place : ℕ) (front sep x y z : List ℕ) → Separators Itself sep x y z → PartsFound (repeat_parts place (front ++ sep) (length front)) x y z
parts-back place front sep x y z (Separators.unwritten a b c) =
    let same : eqb (length front) (length (front ++ [])) ≡ true = eq-eqb _ _ (sym (ap length (append-nil front))) in
    record { parts = ([], [], []); reads = rw same; before = a; between = b; behind = c }
parts-back place front sep x y z (Separators.single {t = t} p a b c) = written_back place front t x y z (Separators.single p a b c)
parts-back place front sep x y z (Separators.triple {t = t} p a b c) = written_back place front t x y z (Separators.triple p a b c)
