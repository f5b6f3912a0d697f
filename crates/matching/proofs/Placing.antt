-- The places of a match are in the name.
use Rattle.std.proofs.Common.{◌≡◌, ℕ, zero, suc, ◌+◌, ◌*◌, ◌<◌, ◌≤◌, ◌≢◌, ◌⊎◌, List, [], ◌∷◌, ◌++◌, length, get_or, take, set, replicate, Some, None, Option, sym, refl, ap, ◌∙◌, subst, inl, inr, arith, length-append, length-set}
use Rattle.std.proofs.lemmas.List.{get_or-set_other, length-replicate, take-replicate}
use Rattle.matching.specs.declared.items.Item.{Item}
use Rattle.matching.specs.declared.items.Item.TheVariants.{Take, Open, Close}
use Rattle.matching.specs.Ways.{Seq, end, bytes, opens, closes, either, join, Way, done, takes, opened, closed, left, right}
use Rattle.matching.specs.Best.{at_end, best}
use Rattle.matching.specs.Items.{as_seq}
use Rattle.matching.specs.Grammar.{Pattern, none, item, group}
use Rattle.matching.specs.Places.{Places, ended, placed, blank, on_way, match_in, Spanning, MatchesSpan}
use Rattle.matching.specs.Reader.{items_of}
use Rattle.matching.proofs.Greatest.{Top, best_top}
use Rattle.matching.proofs.Grammatical.{reads-patterns}

pub length-placed : (ts : List ℕ) (p : Seq) (at : ℕ) (l : Places) → length (placed ts p at l) ≡ length l
length-placed [] p at l = refl
length-placed (t ∷ ts) end at l = refl
length-placed (t ∷ ts) (bytes s q r) at l = length-placed ts r (at + t) l
length-placed (t ∷ ts) (opens k r) at l = length-placed ts r (at + t) (set l k (Some (at, at))) ∙ length-set l k (Some (at, at))
length-placed (t ∷ ts) (closes k r) at l = length-placed ts r (at + t) (set l k (ended at (get_or l k None))) ∙ length-set l k (ended at (get_or l k None))
length-placed (zero ∷ ts) (either a b r) at l = length-placed ts (join b r) at l
length-placed (suc t ∷ ts) (either a b r) at l = length-placed ts (join a r) at l

-- ---- fewer numbers
take-set : {X : Type 0} (m : ℕ) (l : List X) (k : ℕ) (x : X) → take m (set l k x) ≡ set (take m l) k x
take-set zero l k x = refl
take-set (suc m) [] k x = refl
take-set (suc m) (y ∷ l) zero x = refl
take-set (suc m) (y ∷ l) (suc k) x = ap (λ (u : List _). y ∷ u) (take-set m l k x)

-- what is written over is what was there
take-set_by : {X : Type 0} (f : X → X) (d : X) (m : ℕ) (l : List X) (k : ℕ) → take m (set l k (f (get_or l k d))) ≡ set (take m l) k (f (get_or (take m l) k d))
take-set_by f d zero l k = refl
take-set_by f d (suc m) [] k = refl
take-set_by f d (suc m) (y ∷ l) zero = refl
take-set_by f d (suc m) (y ∷ l) (suc k) = ap (λ (u : List _). y ∷ u) (take-set_by f d m l k)

pub take-placed : (m : ℕ) (ts : List ℕ) (p : Seq) (at : ℕ) (l : Places) → take m (placed ts p at l) ≡ placed ts p at (take m l)
take-placed m [] p at l = refl
take-placed m (t ∷ ts) end at l = refl
take-placed m (t ∷ ts) (bytes s q r) at l = take-placed m ts r (at + t) l
take-placed m (t ∷ ts) (opens k r) at l = take-placed m ts r (at + t) (set l k (Some (at, at))) ∙ ap (placed ts r (at + t)) (take-set m l k (Some (at, at)))
take-placed m (t ∷ ts) (closes k r) at l = take-placed m ts r (at + t) (set l k (ended at (get_or l k None))) ∙ ap (placed ts r (at + t)) (take-set_by (ended at) None m l k)
take-placed m (zero ∷ ts) (either a b r) at l = take-placed m ts (join b r) at l
take-placed m (suc t ∷ ts) (either a b r) at l = take-placed m ts (join a r) at l

pub take-blank : (m size n : ℕ) → m ≤ size → take m (blank size n) ≡ blank m n
take-blank zero size n h = refl
take-blank (suc m) zero n h = absurd (omega arith)
take-blank (suc m) (suc size) n h = ap (λ (u : Places). Some (0, n) ∷ u) (take-replicate m size None (omega arith))

pub length-blank : (m n : ℕ) → length (blank m n) ≡ m
length-blank zero n = refl
length-blank (suc m) n = ap suc (length-replicate m None)

-- ---- each place is in the name
abbrev In : ℕ → ℕ → Places → Type 0
In at n l = (k a b : ℕ) → get_or l k None ≡ Some (a, b) → (a ≤ at) × (a ≤ b) × (b ≤ n)

no_place : {P : Type 0} (a b : ℕ) → ◌≡◌ {A = Option (ℕ × ℕ)} None (Some (a, b)) → P
no_place a b e = cc

parts : (x y a b : ℕ) → ◌≡◌ {A = Option (ℕ × ℕ)} (Some (x, y)) (Some (a, b)) → (x ≡ a) × (y ≡ b)
parts x y a b e = let u : ◌≡◌ {A = ℕ × ℕ} (x, y) (a, b) = cc in (ap (λ (p : ℕ × ℕ). p.0) u, ap (λ (p : ℕ × ℕ). p.1) u)

in_later : (at t n : ℕ) (l : Places) → In at n l → In (at + t) n l
in_later at t n l h k a b e = let r = h k a b e in (omega arith, r.1, r.2)

-- a new entry is in the name as well
in_set : (at n : ℕ) (l : Places) (j : ℕ) (o : Option (ℕ × ℕ)) → In at n l → ((a b : ℕ) → o ≡ Some (a, b) → (a ≤ at) × (a ≤ b) × (b ≤ n)) → In at n (set l j o)
in_set at n [] j o h g k a b e = no_place a b e
in_set at n (x ∷ l) zero o h g zero a b e = g a b e
in_set at n (x ∷ l) zero o h g (suc k) a b e = h (suc k) a b e
in_set at n (x ∷ l) (suc j) o h g zero a b e = h zero a b e
in_set at n (x ∷ l) (suc j) o h g (suc k) a b e = in_set at n l j o (λ k. h (suc k)) g k a b e

in_open : (at n : ℕ) (l : Places) (j : ℕ) → at ≤ n → In at n l → In at n (set l j (Some (at, at)))
in_open at n l j le h = in_set at n l j (Some (at, at)) h (λ a b e. let p = parts at at a b e in (omega arith, omega arith, omega arith))

in_close : (at n : ℕ) (l : Places) (j : ℕ) → at ≤ n → In at n l → In at n (set l j (ended at (get_or l j None)))
in_close at n l j le h = in_set at n l j (ended at (get_or l j None)) h (λ a b e. go (get_or l j None) refl a b e)
  where
    go : (o : Option (ℕ × ℕ)) → get_or l j None ≡ o → (a b : ℕ) → ended at o ≡ Some (a, b) → (a ≤ at) × (a ≤ b) × (b ≤ n)
    go None q a b e = no_place a b e
    go (Some p) q a b e = let r = h j p.0 p.1 q in let s = parts p.0 at a b e in (omega arith, omega arith, omega arith)

in_name : {p : Seq} {cs ts : List ℕ} → Way p cs ts → (at n : ℕ) (l : Places) → at + length cs ≤ n → In at n l → (k a b : ℕ) → get_or (placed ts p at l) k None ≡ Some (a, b) → (a ≤ b) × (b ≤ n)
in_name done at n l h i k a b e = let r = i k a b e in (r.1, r.2)
in_name (takes {rest = rest} part x c w) at n l h i k a b e =
    let long = length-append part rest in
    in_name w (at + length part) n l (omega arith) (in_later at (length part) n l i) k a b e
in_name (opened {k = j} w) at n l h i k a b e = in_name w (at + 0) n (set l j (Some (at, at))) (omega arith) (in_later at 0 n (set l j (Some (at, at))) (in_open at n l j (omega arith) i)) k a b e
in_name (closed {k = j} w) at n l h i k a b e = in_name w (at + 0) n (set l j (ended at (get_or l j None))) (omega arith) (in_later at 0 n (set l j (ended at (get_or l j None))) (in_close at n l j (omega arith) i)) k a b e
in_name (left w) at n l h i k a b e = in_name w at n l h i k a b e
in_name (right w) at n l h i k a b e = in_name w at n l h i k a b e

in_replicate : (m n k a b : ℕ) → get_or {A = Option (ℕ × ℕ)} (replicate m None) k None ≡ Some (a, b) → (a ≤ 0) × (a ≤ b) × (b ≤ n)
in_replicate zero n k a b e = no_place a b e
in_replicate (suc m) n zero a b e = no_place a b e
in_replicate (suc m) n (suc k) a b e = in_replicate m n k a b e

in_blank : (m n : ℕ) → In 0 n (blank m n)
in_blank zero n k a b e = no_place a b e
in_blank (suc m) n zero a b e = let p = parts 0 n a b e in (omega arith, omega arith, omega arith)
in_blank (suc m) n (suc k) a b e = in_replicate m n k a b e

-- ---- which numbers are marked
-- no item marks the number k
abbrev pub Clean : ℕ → List Item → Type 0
Clean k [] = Unit {0}
Clean k (Take s q ∷ is) = Clean k is
Clean k (Open j ∷ is) = (k ≢ j) × Clean k is
Clean k (Close j ∷ is) = (k ≢ j) × Clean k is

pub clean_append : (k : ℕ) (is js : List Item) → Clean k is → Clean k js → Clean k (is ++ js)
clean_append k [] js h g = g
clean_append k (Take s q ∷ is) js h g = clean_append k is js h g
clean_append k (Open j ∷ is) js h g = (h.0, clean_append k is js h.1 g)
clean_append k (Close j ∷ is) js h g = (h.0, clean_append k is js h.1 g)

pub rises : {d n m : ℕ} {text : List ℕ} {is : List Item} → Pattern d n m text is → n ≤ m
rises none = omega arith
rises (item a o p) = rises p
rises (group p q) = omega (arith, rises p, rises q)

pub clean_out : {d n m : ℕ} {text : List ℕ} {is : List Item} → Pattern d n m text is → (k : ℕ) → (k < n) ⊎ (m ≤ k) → Clean k is
clean_out none k h = tt
clean_out (item a o p) k h = clean_out p k h
clean_out (group {n = n} {m = m} {l = l} {is = is} {js = js} p q) k h =
    go (rises p) (rises q) (clean_out p k) (clean_out q k) h
  where
    go : n + 1 ≤ m → m ≤ l → ((k < n + 1) ⊎ (m ≤ k) → Clean k is) → ((k < m) ⊎ (l ≤ k) → Clean k js) → (k < n) ⊎ (l ≤ k) → Clean k (Open n ∷ (is ++ Close n ∷ js))
    go up on x y (inl h) = ((λ e. omega arith), clean_append k is (Close n ∷ js) (x (inl (omega arith))) ((λ e. omega arith), y (inl (omega arith))))
    go up on x y (inr h) = ((λ e. omega arith), clean_append k is (Close n ∷ js) (x (inr (omega arith))) ((λ e. omega arith), y (inr h)))

-- what is not marked stays
pub kept : (is : List Item) (ts : List ℕ) (at k : ℕ) (l : Places) → Clean k is → get_or (placed ts (as_seq is) at l) k None ≡ get_or l k None
kept [] [] at k l c = refl
kept [] (t ∷ ts) at k l c = refl
kept (i ∷ is) [] at k l c = refl
kept (Take s q ∷ is) (t ∷ ts) at k l c = kept is ts (at + t) k l c
kept (Open j ∷ is) (t ∷ ts) at k l c = kept is ts (at + t) k (set l j (Some (at, at))) c.1 ∙ get_or-set_other l j k (Some (at, at)) None c.0
kept (Close j ∷ is) (t ∷ ts) at k l c = kept is ts (at + t) k (set l j (ended at (get_or l j None))) c.1 ∙ get_or-set_other l j k (ended at (get_or l j None)) None c.0

-- a group has two marks in the text
pub grouped-bytes : {d n m : ℕ} {text : List ℕ} {is : List Item} → Pattern d n m text is → 2 * m ≤ 2 * n + length text
grouped-bytes none = omega arith
grouped-bytes (item {a = a} {o = o} {rest = rest} x y p) =
    let i = length-append a (o ++ rest) in
    let j = length-append o rest in
    omega (arith, grouped-bytes p)
grouped-bytes (group {inside = inside} {rest = rest} p q) =
    let i = length-append inside (41 ∷ rest) in
    omega (arith, grouped-bytes p, grouped-bytes q)

-- ---- a match
whole-blank : (m n : ℕ) → 1 ≤ m → get_or (blank m n) 0 None ≡ Some (0, n)
whole-blank zero n h = absurd (omega arith)
whole-blank (suc m) n h = refl

module _ (text name : List ℕ) (items : List Item) (m : ℕ) (p : Pattern 16 1 m text items) where
  on_way_lem : (ts : List ℕ) → Way (as_seq items) name ts → Spanning m (length name) (placed ts (as_seq items) 0 (blank m (length name)))
  on_way_lem ts w = record {
    numbers = length-placed ts (as_seq items) 0 (blank m (length name)) ∙ length-blank m (length name);
    whole = kept items ts 0 0 (blank m (length name)) (clean_out p 0 (inl (omega arith))) ∙ whole-blank m (length name) (rises p);
    inside = in_name w 0 (length name) (blank m (length name)) (omega arith) (in_blank m (length name));
  }

  spans : (r : Option (List ℕ)) (l : Places) → Top (Way (as_seq items) name) r → on_way m (as_seq items) name r ≡ Some l → Spanning m (length name) l
  spans None l h e = cc
  spans (Some ts) l h e = let q : placed ts (as_seq items) 0 (blank m (length name)) ≡ l = cc in subst (Spanning m (length name)) q (on_way_lem ts h.0)

pub matches_span : MatchesSpan
matches_span text name items m l p e = spans text name items m p (best (as_seq items) at_end name) l (best_top (as_seq items) name) e

-- ---- a reading of at most 96 bytes
fewest : (m size : ℕ) (p : Seq) (name : List ℕ) → m ≤ size → (r : Option (List ℕ)) (l : Places) → on_way size p name r ≡ Some l → on_way m p name r ≡ Some (take m l)
fewest m size p name h None l e = cc
fewest m size p name h (Some ts) l e =
    let q : placed ts p 0 (blank size (length name)) ≡ l = cc in
    ap Some (sym (ap (take m) (sym q) ∙ take-placed m ts p 0 (blank size (length name)) ∙ ap (placed ts p 0) (take-blank m size (length name) h)))

-- the places of fewer numbers are the first of those of more
pub fewer : (m size : ℕ) (p : Seq) (name : List ℕ) (l : Places) → m ≤ size → match_in size p name ≡ Some l → match_in m p name ≡ Some (take m l)
fewer m size p name l h e = fewest m size p name h (best p at_end name) l e

unmatched : (m size : ℕ) (p : Seq) (name : List ℕ) (r : Option (List ℕ)) → on_way size p name r ≡ None → on_way m p name r ≡ None
unmatched m size p name None e = refl
unmatched m size p name (Some ts) e = cc

pub none_fewer : (m size : ℕ) (p : Seq) (name : List ℕ) → match_in size p name ≡ None → match_in m p name ≡ None
none_fewer m size p name e = unmatched m size p name (best p at_end name) e

pub few_groups : (text : List ℕ) (items : List Item) (m : ℕ) → items_of text ≡ Some (items, m) → length text ≤ 96 → (1 ≤ m) × (m ≤ 49)
few_groups text items m e h = let p = (reads-patterns text items m).0 e in (rises p, omega (arith, grouped-bytes p))
