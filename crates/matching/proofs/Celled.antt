-- A cell comes from the cells behind it.
use Rattle.std.proofs.Common.{◌≡◌, ℕ, ◌+◌, ◌<◌, ◌≤◌, Bool, true, false, cond, ltb, List, [], ◌∷◌, length, get_or, drop, set, replicate, ◌≢◌, Some, None, Option, IfSome, sym, refl, ap, ◌∙◌, ⊎_elim, arith, length-append, length-drop, get_or-set_other, get_or-set_same}
use Rattle.std.proofs.str.Laws.{order}
use Rattle.std.proofs.lemmas.Bool.{cond-true, cond-false, lt-ltb, le-ltb}
use Rattle.std.proofs.lemmas.List.{drop_all, drop_more, get_or-replicate, length-replicate}
use Rattle.matching.specs.declared.items.Item.{Item}
use Rattle.matching.specs.declared.items.Item.TheVariants.{Take, Open, Close}
use Rattle.matching.specs.declared.items.Times.{Times}
use Rattle.matching.specs.declared.items.Times.TheVariants.{Once, Maybe, Several, Many}
use Rattle.matching.specs.Ways.{Way, takes, opened, closed}
use Rattle.matching.specs.Best.{Finder, none, more, or, step, many, taken, at_end, best}
use Rattle.matching.specs.Items.{has, as_seq}
use Rattle.matching.specs.Cells.{code, cell, RowOf, stay, onward, first_or, rests, goes, cell_of}
use Rattle.matching.proofs.Greatest.{best_top}

code-none : (r : Option (List ℕ)) → code (none r) ≡ stay (code r)
code-none None = refl
code-none (Some []) = refl
code-none (Some (t ∷ ts)) = refl

code_or : (x y : Option (List ℕ)) → code (or x y) ≡ first_or (code x) (code y)
code_or None y = refl
code_or (Some []) y = refl
code_or (Some (t ∷ ts)) y = refl

-- there is a first item
abbrev Headed : Option (List ℕ) → Type 0
Headed None = Unit {0}
Headed (Some []) = ⊥
Headed (Some (t ∷ ts)) = Unit {0}

headed-none : (r : Option (List ℕ)) → Headed (none r)
headed-none None = tt
headed-none (Some ts) = tt

headed-more : (r : Option (List ℕ)) → Headed (more r)
headed-more None = tt
headed-more (Some []) = tt
headed-more (Some (t ∷ ts)) = tt

headed_or : (x y : Option (List ℕ)) → Headed x → Headed y → Headed (or x y)
headed_or None y a b = b
headed_or (Some ts) y a b = a

headed-cond : (b : Bool) (x : Option (List ℕ)) → Headed x → Headed (cond b x None)
headed-cond true x h = h
headed-cond false x h = tt

headed-many : (s : ℕ → Bool) (f : Finder) (cs : List ℕ) → Headed (many s f cs)
headed-many s f [] = headed-none (f [])
headed-many s f (c ∷ cs) =
    headed_or (cond (s c) (more (many s f cs)) None) (none (f (c ∷ cs))) (headed-cond (s c) (more (many s f cs)) (headed-more (many s f cs))) (headed-none (f (c ∷ cs)))

code-more : (r : Option (List ℕ)) → Headed r → code (more r) ≡ onward (code r)
code-more None h = refl
code-more (Some []) h = absurd h
code-more (Some (t ∷ ts)) h = ap (λ (n : ℕ). Some n) (omega arith)

module _ (s : ℕ → Bool) (f : Finder) where
  many_is : (cs : List ℕ) → many s f cs ≡ or (step s (many s f) cs) (none (f cs))
  many_is [] = refl
  many_is (c ∷ cs) = refl

  at_end_lem : (q : Times) → code (taken s q f []) ≡ rests q (code (f []))
  at_end_lem Once = refl
  at_end_lem Maybe = code-none (f [])
  at_end_lem Several = refl
  at_end_lem Many = code-none (f [])

  code-many : (cs : List ℕ) → code (many s f cs) ≡ first_or (code (step s (many s f) cs)) (stay (code (f cs)))
  code-many cs = ap code (many_is cs) ∙ code_or (step s (many s f) cs) (none (f cs)) ∙ ap (first_or (code (step s (many s f) cs))) (code-none (f cs))

  code_one : (cs : List ℕ) → code (more (none (f cs))) ≡ onward (stay (code (f cs)))
  code_one cs = code-more (none (f cs)) (headed-none (f cs)) ∙ ap onward (code-none (f cs))

  module _ (c : ℕ) (cs : List ℕ) where
    with_byte : (q : Times) → s c ≡ true → code (taken s q f (c ∷ cs)) ≡ goes q (code (f (c ∷ cs))) (code (f cs)) (code (taken s q f cs))
    with_byte Once e = rw e (code_one cs)
    with_byte Maybe e =
        rw e (code_or (more (none (f cs))) (none (f (c ∷ cs))) ∙ ap (λ n. first_or n (code (none (f (c ∷ cs))))) (code_one cs) ∙ ap (first_or (onward (stay (code (f cs))))) (code-none (f (c ∷ cs))))
    with_byte Several e = rw e (code-more (many s f cs) (headed-many s f cs) ∙ ap onward (code-many cs))
    with_byte Many e =
        rw e (code_or (more (many s f cs)) (none (f (c ∷ cs))) ∙ ap (λ n. first_or n (code (none (f (c ∷ cs))))) (code-more (many s f cs) (headed-many s f cs)) ∙ ap (first_or (onward (code (many s f cs)))) (code-none (f (c ∷ cs))))

    no_byte : (q : Times) → s c ≡ false → code (taken s q f (c ∷ cs)) ≡ rests q (code (f (c ∷ cs)))
    no_byte Once e = rw e
    no_byte Maybe e = rw e (code-none (f (c ∷ cs)))
    no_byte Several e = rw e
    no_byte Many e = rw e (code-none (f (c ∷ cs)))

cell_byte : (i : Item) (is : List Item) (c : ℕ) (cs : List ℕ) → code (best (as_seq (i ∷ is)) at_end (c ∷ cs)) ≡ cell_of i (Some c) (code (best (as_seq is) at_end (c ∷ cs))) (code (best (as_seq is) at_end cs)) (code (best (as_seq (i ∷ is)) at_end cs))
cell_byte (Take s q) is c cs = go (has s c) refl
  where
    go : (b : Bool) → has s c ≡ b → code (taken (has s) q (best (as_seq is) at_end) (c ∷ cs)) ≡ cond b (goes q (code (best (as_seq is) at_end (c ∷ cs))) (code (best (as_seq is) at_end cs)) (code (taken (has s) q (best (as_seq is) at_end) cs))) (rests q (code (best (as_seq is) at_end (c ∷ cs))))
    go true e = with_byte (has s) (best (as_seq is) at_end) c cs q e
    go false e = no_byte (has s) (best (as_seq is) at_end) c cs q e
cell_byte (Open k) is c cs = code-none (best (as_seq is) at_end (c ∷ cs))
cell_byte (Close k) is c cs = code-none (best (as_seq is) at_end (c ∷ cs))

cell_end : (i : Item) (is : List Item) (x y : Option ℕ) → code (best (as_seq (i ∷ is)) at_end []) ≡ cell_of i None (code (best (as_seq is) at_end [])) x y
cell_end (Take s q) is x y = at_end_lem (has s) (best (as_seq is) at_end) q
cell_end (Open k) is x y = code-none (best (as_seq is) at_end [])
cell_end (Close k) is x y = code-none (best (as_seq is) at_end [])

-- ---- in the table
module _ (items : List Item) (name : List ℕ) (i a : ℕ) (d : Item) where
  pub byte_here : i < length items → a < length name → cell items name i a ≡ cell_of (get_or items i d) (Some (get_or name a 0)) (cell items name (i + 1) a) (cell items name (i + 1) (a + 1)) (cell items name i (a + 1))
  byte_here h k = rw (drop_more items i d h, drop_more name a 0 k) (cell_byte (get_or items i d) (drop (i + 1) items) (get_or name a 0) (drop (a + 1) name))

  pub end_here : (x y : Option ℕ) → i < length items → length name ≤ a → cell items name i a ≡ cell_of (get_or items i d) None (cell items name (i + 1) a) x y
  end_here x y h k = rw (drop_more items i d h, drop_all a name k) (cell_end (get_or items i d) (drop (i + 1) items) x y)

module _ (items : List Item) (name : List ℕ) (i a : ℕ) (last : i ≡ length items) where
  none_left : drop i items ≡ []
  none_left = drop_all i items (omega arith)

  pub past_end : length name ≤ a → cell items name i a ≡ Some 0
  past_end k = rw (none_left, drop_all a name k)

  pub past_byte : a < length name → cell items name i a ≡ None
  past_byte k = rw (none_left, drop_more name a 0 k)

-- ---- a cell is small
way_head : (is : List Item) {cs : List ℕ} {t : ℕ} {ts : List ℕ} → Way (as_seq is) cs (t ∷ ts) → t ≤ length cs
way_head [] w = elim w [ ]
way_head (Take s q ∷ is) (takes {rest = rest} part m n w) = rw (length-append part rest) (omega arith)
way_head (Open k ∷ is) (opened w) = omega arith
way_head (Close k ∷ is) (closed w) = omega arith

code_small : (is : List Item) (cs : List ℕ) (P : ℕ → Type 0) → ((n : ℕ) → n ≤ length cs → P n) → IfSome (code (best (as_seq is) at_end cs)) P
code_small is cs P h = go (best (as_seq is) at_end cs) refl
  where
    go : (r : Option (List ℕ)) → best (as_seq is) at_end cs ≡ r → IfSome (code r) P
    go None e = tt
    go (Some []) e = h 0 (omega arith)
    go (Some (t ∷ ts)) e = let w = rw e at (best_top (as_seq is) cs) in h t (way_head is w.0)

-- from any place on, in the name or beyond its end, no more is taken than the name has
pub cell_small : (items : List Item) (name : List ℕ) (i a m : ℕ) → length name ≤ m → IfSome (cell items name i a) (λ n. n ≤ m)
cell_small items name i a m w = code_small (drop i items) (drop a name) (λ n. n ≤ m) (λ n h. omega (arith, h, length-drop a name))

-- from a place of the name no more is taken than is left
pub cell_left : (items : List Item) (name : List ℕ) (i a m : ℕ) → a ≤ length name → length name ≤ m → IfSome (cell items name i a) (λ n. n + a ≤ m)
cell_left items name i a m h w = code_small (drop i items) (drop a name) (λ n. n + a ≤ m) (λ n k. omega (arith, k, length-drop a name))

-- a cell at any place of the name, from those behind it
module _ (items : List Item) (name : List ℕ) (i p m : ℕ) (d : Item) (byte later after again : Option ℕ) where
  pub cell_here : i < length items → p ≤ length name → p + 1 ≡ m → byte ≡ cond (ltb p (length name)) (Some (get_or name p 0)) None → later ≡ cell items name (i + 1) p → (m ≤ length name → after ≡ cell items name (i + 1) m) → (m ≤ length name → again ≡ cell items name i m)
      → cell_of (get_or items i d) byte later after again ≡ cell items name i p
  cell_here h k e b w x y = ⊎_elim inner end (order p (length name))
    where
      inner : p < length name → cell_of (get_or items i d) byte later after again ≡ cell items name i p
      inner l =
          let z = b ∙ cond-true _ _ _ (lt-ltb p (length name) l) in
          rw (x (omega arith), y (omega arith), z, w, ← e) (sym (byte_here items name i p d h l))

      end : length name ≤ p → cell_of (get_or items i d) byte later after again ≡ cell items name i p
      end l = let z = b ∙ cond-false _ _ _ (le-ltb p (length name) l) in rw (z, w) (sym (end_here items name i p d after again h l))

-- one cell more of a row that is filled from its end
module _ (items : List Item) (name : List ℕ) (i : ℕ) where
  pub row_more : (row : List (Option ℕ)) (p m : ℕ) (v : Option ℕ) → p + 1 ≡ m → p < length row → v ≡ cell items name i p → ((a : ℕ) → m ≤ a → a ≤ length name → get_or row a None ≡ cell items name i a)
      → (a : ℕ) → p ≤ a → a ≤ length name → get_or (set row p v) a None ≡ cell items name i a
  row_more row p m v e h is above a le within = ⊎_elim other same (order p a)
    where
      other : p < a → get_or (set row p v) a None ≡ cell items name i a
      other l = let ne : a ≢ p = omega arith in rw get_or-set_other (above a (omega arith) within)

      same : a ≤ p → get_or (set row p v) a None ≡ cell items name i a
      same l = let k : a ≡ p = omega arith in rw (k, get_or-set_same) is

-- the row behind the last item
pub last_row : (items : List Item) (name : List ℕ) (size : ℕ) → length name < size → RowOf items name (length items) (set (replicate size None) (length name) (Some 0))
last_row items name size h a le = ⊎_elim other same (order a (length name))
  where
    other : a < length name → get_or (set (replicate size None) (length name) (Some 0)) a None ≡ cell items name (length items) a
    other l = let ne : a ≢ length name = omega arith in get_or-set_other (replicate size None) (length name) a (Some 0) None ne ∙ get_or-replicate size a None None (omega arith) ∙ sym (past_byte items name (length items) a refl l)

    same : length name ≤ a → get_or (set (replicate size None) (length name) (Some 0)) a None ≡ cell items name (length items) a
    same l =
        let k : a ≡ length name = omega arith in
        let w : length name < length (replicate {A = Option ℕ} size None) = omega (arith, length-replicate {A = Option ℕ} size None) in
        rw k (get_or-set_same (replicate size None) (length name) (Some 0) None w ∙ sym (past_end items name (length items) (length name) refl (omega arith)))
