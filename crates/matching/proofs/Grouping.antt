-- A group runs from its opening mark to its closing mark.
use Rattle.std.proofs.Common.{◌≡◌, ℕ, suc, ◌+◌, ◌<◌, ◌≤◌, ◌≢◌, ◌⊎◌, List, [], ◌∷◌, ◌++◌, length, get_or, set, Some, None, Option, sym, refl, ap, ◌∙◌, subst, inl, inr, append_assoc, arith, length-set}
use Rattle.std.proofs.lemmas.List.{get_or-set_same, get_or-set_other}
use Rattle.std.proofs.str.Laws.{order}
use Rattle.matching.specs.declared.items.Item.{Item}
use Rattle.matching.specs.declared.items.Item.TheVariants.{Take, Open, Close}
use Rattle.matching.specs.Ways.{Way, done, takes, opened, closed}
use Rattle.matching.specs.Items.{as_seq}
use Rattle.matching.specs.Grammar.{Pattern, none, item, group}
use Rattle.matching.specs.Places.{Stands, opening, closing, opens_here, closes_here, past_bytes, past_open, past_close, Places, ended, placed, blank, Group, GroupsRun}
use Rattle.matching.proofs.Placing.{Clean, clean_append, clean_out, rises, kept, length-blank}

-- the number k is opened, and then closed, and not marked besides
record Twice (k : ℕ) (items : List Item) : Type 0 where
  xs : List Item
  ys : List Item
  zs : List Item
  joins : xs ++ Open k ∷ (ys ++ Close k ∷ zs) ≡ items
  before : Clean k xs
  between : Clean k ys
  behind : Clean k zs

regroup : (a b : Item) (xs ys zs w : List Item) → (xs ++ a ∷ (ys ++ b ∷ zs)) ++ w ≡ xs ++ a ∷ (ys ++ b ∷ (zs ++ w))
regroup a b xs ys zs w = append_assoc xs (a ∷ (ys ++ b ∷ zs)) w ∙ ap (λ (l : List Item). xs ++ a ∷ l) (append_assoc ys (b ∷ zs) w)

-- inside a group, and behind one
within : (k n : ℕ) (is js : List Item) → k ≢ n → Clean k js → Twice k is → Twice k (Open n ∷ (is ++ Close n ∷ js))
within k n is js ne c r = record {
  xs = Open n ∷ r.xs;
  ys = r.ys;
  zs = r.zs ++ Close n ∷ js;
  joins = ap (λ (l : List Item). Open n ∷ l) (sym (regroup (Open k) (Close k) r.xs r.ys r.zs (Close n ∷ js)) ∙ ap (λ (l : List Item). l ++ Close n ∷ js) r.joins);
  before = (ne, r.before);
  between = r.between;
  behind = clean_append k r.zs (Close n ∷ js) r.behind (ne, c);
}

beyond : (k n : ℕ) (is js : List Item) → k ≢ n → Clean k is → Twice k js → Twice k (Open n ∷ (is ++ Close n ∷ js))
beyond k n is js ne c r = record {
  xs = Open n ∷ (is ++ Close n ∷ r.xs);
  ys = r.ys;
  zs = r.zs;
  joins = ap (λ (l : List Item). Open n ∷ l) (append_assoc is (Close n ∷ r.xs) (Open k ∷ (r.ys ++ Close k ∷ r.zs)) ∙ ap (λ (l : List Item). is ++ Close n ∷ l) r.joins);
  before = (ne, clean_append k is (Close n ∷ r.xs) c (ne, r.before));
  between = r.between;
  behind = r.behind;
}

twice : {d n m : ℕ} {text : List ℕ} {items : List Item} → Pattern d n m text items → (k : ℕ) → n ≤ k → k < m → Twice k items
twice none k h g = absurd (omega arith)
twice (item {s = s} {q = q} a o p) k h g =
    let r = twice p k h g in
    record { xs = Take s q ∷ r.xs; ys = r.ys; zs = r.zs; joins = ap (λ (l : List Item). Take s q ∷ l) r.joins; before = r.before; between = r.between; behind = r.behind }
twice (group {n = n} {m = m} {l = l} {is = is} {js = js} p q) k h g = go (rises p) (twice p k) (twice q k) (order n k) (order m (suc k))
  where
    self : n + 1 ≤ m → n ≡ k → Twice k (Open n ∷ (is ++ Close n ∷ js))
    self up e =
        let P : ℕ → Type 0 = λ j. Twice j (Open n ∷ (is ++ Close n ∷ js)) in
        subst P e (record { xs = []; ys = is; zs = js; joins = refl; before = tt; between = clean_out p n (inl (omega arith)); behind = clean_out q n (inl (omega arith)) })

    go : n + 1 ≤ m → (n + 1 ≤ k → k < m → Twice k is) → (m ≤ k → k < l → Twice k js) → (n < k) ⊎ (k ≤ n) → (m < suc k) ⊎ (suc k ≤ m) → Twice k (Open n ∷ (is ++ Close n ∷ js))
    go up x y (inr e) z = self up (omega arith)
    go up x y (inl w) (inl z) = beyond k n is js (λ e. omega arith) (clean_out p k (inr (omega arith))) (y (omega arith) g)
    go up x y (inl w) (inr z) = within k n is js (λ e. omega arith) (clean_out q k (inl (omega arith))) (x (omega arith) (omega arith))

-- ---- the marks on a way
record Shut (k : ℕ) (is : List Item) (ts : List ℕ) (at : ℕ) (l : Places) (a : ℕ) : Type 0 where
  to : ℕ
  shuts : Stands (closing k) (as_seq is) ts to
  value : get_or (placed ts (as_seq is) at l) k None ≡ Some (a, at + to)

further : (a at t to : ℕ) → ◌≡◌ {A = Option (ℕ × ℕ)} (Some (a, at + t + to)) (Some (a, at + (t + to)))
further a at t to = ap (λ (n : ℕ). Some (a, n)) (omega arith)

shut : (k : ℕ) (ys zs : List Item) (ts : List ℕ) (at : ℕ) (l : Places) (a b : ℕ) → Clean k ys → Clean k zs → length ts ≡ length (ys ++ Close k ∷ zs) → k < length l → get_or l k None ≡ Some (a, b) → Shut k (ys ++ Close k ∷ zs) ts at l a
shut k [] zs [] at l a b c d e h v = absurd (omega arith)
shut k (y ∷ ys) zs [] at l a b c d e h v = absurd (omega arith)
shut k [] zs (t ∷ ts) at l a b c d e h v = record {
  to = 0;
  shuts = closes_here;
  value = kept zs ts (at + t) k (set l k (ended at (get_or l k None))) d ∙ get_or-set_same l k (ended at (get_or l k None)) None h ∙ ap (ended at) v ∙ ap (λ (n : ℕ). Some (a, n)) (omega arith);
}
shut k (Take s q ∷ ys) zs (t ∷ ts) at l a b c d e h v =
    let r = shut k ys zs ts (at + t) l a b c d (omega arith) h v in
    record { to = t + r.to; shuts = past_bytes r.shuts; value = r.value ∙ further a at t r.to }
shut k (Open j ∷ ys) zs (t ∷ ts) at l a b c d e h v =
    let r = shut k ys zs ts (at + t) (set l j (Some (at, at))) a b c.1 d (omega arith) (rw length-set h) (get_or-set_other l j k (Some (at, at)) None c.0 ∙ v) in
    record { to = t + r.to; shuts = past_open r.shuts; value = r.value ∙ further a at t r.to }
shut k (Close j ∷ ys) zs (t ∷ ts) at l a b c d e h v =
    let r = shut k ys zs ts (at + t) (set l j (ended at (get_or l j None))) a b c.1 d (omega arith) (rw length-set h) (get_or-set_other l j k (ended at (get_or l j None)) None c.0 ∙ v) in
    record { to = t + r.to; shuts = past_close r.shuts; value = r.value ∙ further a at t r.to }

record Run (k : ℕ) (is : List Item) (ts : List ℕ) (at : ℕ) (l : Places) : Type 0 where
  from : ℕ
  to : ℕ
  starts : Stands (opening k) (as_seq is) ts from
  shuts : Stands (closing k) (as_seq is) ts to
  value : get_or (placed ts (as_seq is) at l) k None ≡ Some (at + from, at + to)

both : (at t x y : ℕ) → ◌≡◌ {A = Option (ℕ × ℕ)} (Some (at + t + x, at + t + y)) (Some (at + (t + x), at + (t + y)))
both at t x y = ap (λ (n : ℕ). Some (n, at + t + y)) (omega arith) ∙ ap (λ (n : ℕ). Some (at + (t + x), n)) (omega arith)

run : (k : ℕ) (xs ys zs : List Item) (ts : List ℕ) (at : ℕ) (l : Places) → Clean k xs → Clean k ys → Clean k zs → length ts ≡ length (xs ++ Open k ∷ (ys ++ Close k ∷ zs)) → k < length l → Run k (xs ++ Open k ∷ (ys ++ Close k ∷ zs)) ts at l
run k [] ys zs [] at l b c d e h = absurd (omega arith)
run k (x ∷ xs) ys zs [] at l b c d e h = absurd (omega arith)
run k [] ys zs (t ∷ ts) at l b c d e h =
    let r = shut k ys zs ts (at + t) (set l k (Some (at, at))) at at c d (omega arith) (rw length-set h) (get_or-set_same l k (Some (at, at)) None h) in
    record { from = 0; to = t + r.to; starts = opens_here; shuts = past_open r.shuts; value = r.value ∙ further at at t r.to ∙ ap (λ (n : ℕ). Some (n, at + (t + r.to))) (omega arith) }
run k (Take s q ∷ xs) ys zs (t ∷ ts) at l b c d e h =
    let r = run k xs ys zs ts (at + t) l b c d (omega arith) h in
    record { from = t + r.from; to = t + r.to; starts = past_bytes r.starts; shuts = past_bytes r.shuts; value = r.value ∙ both at t r.from r.to }
run k (Open j ∷ xs) ys zs (t ∷ ts) at l b c d e h =
    let r = run k xs ys zs ts (at + t) (set l j (Some (at, at))) b.1 c d (omega arith) (rw length-set h) in
    record { from = t + r.from; to = t + r.to; starts = past_open r.starts; shuts = past_open r.shuts; value = r.value ∙ both at t r.from r.to }
run k (Close j ∷ xs) ys zs (t ∷ ts) at l b c d e h =
    let r = run k xs ys zs ts (at + t) (set l j (ended at (get_or l j None))) b.1 c d (omega arith) (rw length-set h) in
    record { from = t + r.from; to = t + r.to; starts = past_close r.starts; shuts = past_close r.shuts; value = r.value ∙ both at t r.from r.to }

way_length : (is : List Item) {cs ts : List ℕ} → Way (as_seq is) cs ts → length ts ≡ length is
way_length [] done = refl
way_length (Take s q ∷ is) (takes part m n w) = ap suc (way_length is w)
way_length (Open k ∷ is) (opened w) = ap suc (way_length is w)
way_length (Close k ∷ is) (closed w) = ap suc (way_length is w)

as_group : (k : ℕ) (items : List Item) (ts : List ℕ) (l : Places) → Run k items ts 0 l → Group (as_seq items) ts (placed ts (as_seq items) 0 l) k
as_group k items ts l r = record {
  from = r.from;
  to = r.to;
  opened = r.starts;
  closed = r.shuts;
  is = r.value ∙ ap (λ (n : ℕ). Some (n, 0 + r.to)) (omega arith) ∙ ap (λ (n : ℕ). Some (r.from, n)) (omega arith);
}

pub groups_run : GroupsRun
groups_run text name ts items m k p w low high =
    let r = twice p k low high in
    let l = blank m (length name) in
    let long : length ts ≡ length (r.xs ++ Open k ∷ (r.ys ++ Close k ∷ r.zs)) = way_length items w ∙ ap length (sym r.joins) in
    let P : List Item → Type 0 = λ is. Run k is ts 0 (blank m (length name)) in
    as_group k items ts l (subst P r.joins (run k r.xs r.ys r.zs ts 0 l r.before r.between r.behind long (rw length-blank high)))
