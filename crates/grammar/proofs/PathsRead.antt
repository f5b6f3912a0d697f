-- The reader of paths accepts just the paths of the grammar.
use Rattle.std.proofs.Common.{◌≡◌, ℕ, zero, suc, ◌+◌, ◌-◌, ◌<◌, ◌≤◌, Bool, true, false, cond, ◌||◌, eqb, leb, List, [], ◌∷◌, ◌++◌, length, Ok, sym, refl, ap, ◌∙◌, subst, arith}
use Rattle.std.proofs.lemmas.Bool.Decides.{nat_tests}
use Rattle.refusal.specs.declared.error.FormatterError.TheVariants.{MissingHash, TooManyChildren}
use Rattle.grammar.specs.declared.defns.ChildIndex.{ChildIndex}
use Rattle.grammar.specs.Grammar.{Path, last, step}
use Rattle.grammar.specs.Limits.{step_allowance}
use Rattle.grammar.specs.Numbers.{number_at, bits, numeral, int}
use Rattle.grammar.specs.Paths.{index_at, on_first, split_on, steps_from, path_at, value_of, step_values, steps_of}
use Rattle.grammar.specs.Readings.{Index}
use Rattle.grammar.specs.Results.{refusal}
use Rattle.grammar.proofs.Bytes.{Each, Without, each_append, each_weaken, each_without, eqb_self, orb_right}
use Rattle.grammar.proofs.Chains.{by_on_ok, same_ok, refused}
use Rattle.grammar.proofs.Numerals.{bits-int, number_back, index_forth, index_back, is_numeral, numeral-bytes, numeral-without}

-- ---- parts
pub some_part : (m : ℕ) (cs : List ℕ) → (p : List ℕ) × (ps : List (List ℕ)) × (split_on m cs ≡ p ∷ ps)
some_part m [] = ([], [], refl)
some_part m (c ∷ cs) = go (eqb c m) (split_on m cs)
  where
    go : (b : Bool) (rest : List (List ℕ)) → (p : List ℕ) × (ps : List (List ℕ)) × (cond b ([] ∷ rest) (on_first c rest) ≡ p ∷ ps)
    go true rest = ([], rest, refl)
    go false [] = (c ∷ [], [], refl)
    go false (q ∷ qs) = (c ∷ q, qs, refl)

abbrev join_on : ℕ → List (List ℕ) → List ℕ
join_on m [] = []
join_on m (p ∷ []) = p
join_on m (p ∷ q ∷ ps) = p ++ m ∷ join_on m (q ∷ ps)

join_first : (m c : ℕ) (p : List ℕ) (ps : List (List ℕ)) → join_on m ((c ∷ p) ∷ ps) ≡ c ∷ join_on m (p ∷ ps)
join_first m c p [] = refl
join_first m c p (q ∷ qs) = refl

join_split : (m : ℕ) (cs : List ℕ) → join_on m (split_on m cs) ≡ cs
join_split m [] = refl
join_split m (c ∷ cs) = go (eqb c m) refl (some_part m cs) (join_split m cs)
  where
    go : (b : Bool) → eqb c m ≡ b → (p : List ℕ) × (ps : List (List ℕ)) × (split_on m cs ≡ p ∷ ps) → join_on m (split_on m cs) ≡ cs → join_on m (cond b ([] ∷ split_on m cs) (on_first c (split_on m cs))) ≡ c ∷ cs
    go true e s ih =
        let same : c ≡ m = grind (arith, nat_tests) in
        rw (s.2, same) (ap (λ l. m ∷ l) (ap (join_on m) (sym s.2) ∙ ih))
    go false e s ih = rw s.2 (join_first m c s.0 s.1 ∙ ap (λ l. c ∷ l) (ap (join_on m) (sym s.2) ∙ ih))

pub split_without : (m : ℕ) (p : List ℕ) → Without m p → split_on m p ≡ p ∷ []
split_without m [] h = refl
split_without m (c ∷ cs) h = rw (h.0, split_without m cs h.1)

pub split_at : (m : ℕ) (p rest : List ℕ) → Without m p → split_on m (p ++ m ∷ rest) ≡ p ∷ split_on m rest
split_at m [] rest h = rw (eqb_self m)
split_at m (c ∷ cs) rest h = rw (h.0, split_at m cs rest h.1)

-- ---- the bytes of a path
abbrev pub is_path : ℕ → Bool
is_path c = eqb c 58 || is_numeral c

numeral-path : (c : ℕ) → is_numeral c ≡ true → is_path c ≡ true
numeral-path c h = orb_right (eqb c 58) (is_numeral c) h

each_index : (n : ℕ) → Index n → Each is_path (numeral n)
each_index n i = each_weaken is_numeral is_path numeral-path (numeral n) (numeral-bytes n i.0)

pub path_bytes : {t s : List ℕ} {i : ℕ} → Path t s i → Each is_path t
path_bytes (last {i} x) = each_index i x
path_bytes (step {y} {i} {rest} {s} x p) = each_append is_path (numeral y) (58 ∷ rest) (each_index y x) (refl, path_bytes p)

pub path-without : (m : ℕ) → is_path m ≡ false → {t s : List ℕ} {i : ℕ} → Path t s i → Without m t
path-without m h {t} p = each_without is_path m h t (path_bytes p)

-- ---- what the reader accepts is in the grammar
value_numeral : (x : List ℕ) (n : ℕ) → x ≡ numeral n → n < 4294967296 → value_of (number_at 0 x) ≡ n
value_numeral x n e h = rw (e, number_back 0 n h) (bits-int n h)

one_more : {i : ℕ} {rest s : List ℕ} (x : List ℕ) (n : ℕ) → x ≡ numeral n → Index n → Path rest s i → Path (x ++ 58 ∷ rest) (value_of (number_at 0 x) ∷ s) i
one_more x n e h p = rw (value_numeral x n e h.0, e) (step h p)

module _ (start whole : ℕ) (r : ℕ × ℕ × ChildIndex) where
  forth : (parts : List (List ℕ)) (left at : ℕ) → steps_from start whole left at parts ≡ Ok r → Path (join_on 58 parts) (step_values parts) (bits r.2.0) × (length (step_values parts) ≤ left)
  forth [] left at e = refused _ _ e
  forth (x ∷ []) left at e =
      let b = by_on_ok (index_at at x) (λ z. Ok (start, at - start, z)) r e in
      let i = index_forth at x b.0 b.1 in
      let is = same_ok _ _ b.2 in
      subst (λ (q : ℕ × ℕ × ChildIndex). Path x [] (bits q.2.0) × (0 ≤ left)) is
      (subst (λ (l : List ℕ). Path l [] (bits b.0.0)) (sym i.0) (last i.1), omega arith)
  forth (x ∷ y ∷ ys) zero at e =
      let b = by_on_ok (index_at at x) (λ _. refusal TooManyChildren start whole) r e in
      refused _ _ b.2
  forth (x ∷ y ∷ ys) (suc left) at e =
      let back : suc left - 1 ≡ left = omega arith in
      let more : eqb (suc left) 0 ≡ false = grind (arith, nat_tests) in
      let b = by_on_ok (index_at at x) (λ _. cond (eqb (suc left) 0) (refusal TooManyChildren start whole) (steps_from start whole (suc left - 1) (at + (length x + 1)) (y ∷ ys))) r e in
      let i = index_forth at x b.0 b.1 in
      let g = forth (y ∷ ys) left (at + (length x + 1)) (rw (more, back) at b.2) in
      (one_more x (bits b.0.0) i.0 i.1 g.0, omega (arith, g.1))

pub path_forth : (place : ℕ) (cs : List ℕ) (r : ℕ × ℕ × ChildIndex) → path_at place cs ≡ Ok r → (rest : List ℕ) × (cs ≡ 35 ∷ rest) × Path rest (steps_of cs) (bits r.2.0) × (leb (length (steps_of cs)) step_allowance ≡ true)
path_forth place [] r e = refused _ _ e
path_forth place (c ∷ cs) r e = go (eqb c 35) refl e
  where
    go : (b : Bool) → eqb c 35 ≡ b → cond b (steps_from (place + 1) (length cs) step_allowance (place + 1) (split_on 58 cs)) (refusal MissingHash place (length (c ∷ cs))) ≡ Ok r → (rest : List ℕ) × (c ∷ cs ≡ 35 ∷ rest) × Path rest (steps_of (c ∷ cs)) (bits r.2.0) × (leb (length (steps_of (c ∷ cs))) step_allowance ≡ true)
    go false p q = refused _ _ q
    go true p q =
        let hash : c ≡ 35 = grind (arith, nat_tests) in
        let g = forth (place + 1) (length cs) r (split_on 58 cs) step_allowance (place + 1) q in
        (cs, ap (λ (x : ℕ). x ∷ cs) hash, subst (λ (l : List ℕ). Path l (steps_of (c ∷ cs)) (bits r.2.0)) (join_split 58 cs) g.0, grind (arith, nat_tests, g.1))

-- ---- what is in the grammar is accepted
record Found (start whole left at : ℕ) (cs s : List ℕ) (i : ℕ) : Type 0 where
  n : ℕ
  reads : steps_from start whole left at (split_on 58 cs) ≡ Ok (start, n, record { 0 = int i })
  values : step_values (split_on 58 cs) ≡ s

back : {cs s : List ℕ} {i : ℕ} → Path cs s i → (start whole left at : ℕ) → length s ≤ left → Found start whole left at cs s i
back (last {i} x) start whole left at h =
    let parts = split_without 58 (numeral i) (numeral-without 58 refl i x.0) in
    record { n = at - start; reads = rw (parts, index_back at i x); values = rw parts }
back (step {y} {i} {rest} {s} x p) start whole zero at h = absurd (omega arith)
back (step {y} {i} {rest} {s} x p) start whole (suc left) at h =
    let f = back p start whole left (at + (length (numeral y) + 1)) (omega arith) in
    let parts = split_at 58 (numeral y) rest (numeral-without 58 refl y x.0) in
    let q = some_part 58 rest in
    let one : suc left - 1 ≡ left = omega arith in
    let more : eqb (suc left) 0 ≡ false = grind (arith, nat_tests) in
    let reads_on = rw q.2 at f.reads in
    let values-on = rw q.2 at f.values in
    record {
      n = f.n;
      reads = rw (parts, q.2, index_back at y x, more, one) reads_on;
      values = rw (parts, q.2, value_numeral (numeral y) y refl x.0) (ap (λ (l : List ℕ). y ∷ l) values-on);
    }

pub path-back : (place : ℕ) {rest s : List ℕ} {i : ℕ} → Path rest s i → leb (length s) step_allowance ≡ true → (r : ℕ × ℕ × ChildIndex) × (path_at place (35 ∷ rest) ≡ Ok r) × (r.2 ≡ record { 0 = int i }) × (steps_of (35 ∷ rest) ≡ s)
path-back place {rest} {s} {i} p h =
    let few : length s ≤ step_allowance = grind (arith, nat_tests) in
    let f = back p (place + 1) (length rest) step_allowance (place + 1) few in
    ((place + 1, f.n, record { 0 = int i }), f.reads, refl, f.values)
