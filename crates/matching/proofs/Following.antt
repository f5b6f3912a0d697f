-- One item more of a match.
use Rattle.std.proofs.Common.{◌≡◌, ℕ, ◌+◌, ◌<◌, ◌≤◌, true, List, [], ◌∷◌, length, get_or, drop, is_some, Some, None, Option, sym, refl, ap, ◌∙◌, subst, inl, inr, arith, length-append, length-drop}
use Rattle.std.proofs.lemmas.List.{drop-drop, drop_more}
use Rattle.matching.specs.declared.items.Item.{Item}
use Rattle.matching.specs.declared.items.Item.TheVariants.{Take, Open, Close}
use Rattle.matching.specs.Ways.{Way, takes, opened, closed, AtMost}
use Rattle.matching.specs.Best.{at_end, best}
use Rattle.matching.specs.Items.{as_seq}
use Rattle.matching.specs.Places.{Places, placed}
use Rattle.matching.specs.Cells.{code, cell, marked, takes_of}
use Rattle.matching.proofs.Greatest.{Top, best_top, at_most_both, drop_part}

-- the first item's take parts a way
record Parted (i : Item) (is : List Item) (cs : List ℕ) (t : ℕ) (ts : List ℕ) : Type 0 where
  small : t ≤ length cs
  later : Way (as_seq is) (drop t cs) ts
  again : (us : List ℕ) → Way (as_seq is) (drop t cs) us → Way (as_seq (i ∷ is)) cs (t ∷ us)

parted : (i : Item) (is : List Item) {cs : List ℕ} {t : ℕ} {ts : List ℕ} → Way (as_seq (i ∷ is)) cs (t ∷ ts) → Parted i is cs t ts
parted (Take s q) is (takes {rest = rest} {ts = ts} part m n w) =
    let P : List ℕ → Type 0 = λ l. Way (as_seq is) l ts in
    record {
      small = rw (length-append part rest) (omega arith);
      later = subst P (sym (drop_part part rest)) w;
      again = λ us v. takes part m n (subst (λ (l : List ℕ). Way (as_seq is) l us) (drop_part part rest) v);
    }
parted (Open k) is (opened w) = record { small = omega arith; later = w; again = λ us v. opened v }
parted (Close k) is (closed w) = record { small = omega arith; later = w; again = λ us v. closed v }

never-empty : (i : Item) (is : List Item) {cs : List ℕ} → Way (as_seq (i ∷ is)) cs [] → ⊥
never-empty (Take s q) is w = elim w [ ]
never-empty (Open k) is w = elim w [ ]
never-empty (Close k) is w = elim w [ ]

no_other : (W : List ℕ → Type 0) (r : Option (List ℕ)) (ts : List ℕ) → Top W r → Top W (Some ts) → r ≡ Some ts
no_other W None ts h k = absurd (h ts k.0)
no_other W (Some us) ts h k = ap (λ (l : List ℕ). Some l) (at_most_both us ts (k.1 us h.0) (h.1 ts k.0))

-- the later items match what is left, in their greatest way
tail_top : (i : Item) (is : List Item) (cs : List ℕ) (t : ℕ) (ts : List ℕ) → Top (Way (as_seq (i ∷ is)) cs) (Some (t ∷ ts)) → Top (Way (as_seq is) (drop t cs)) (Some ts)
tail_top i is cs t ts h = ((parted i is h.0).later, λ us w. lower us (h.1 (t ∷ us) ((parted i is h.0).again us w)))
  where
    lower : (us : List ℕ) → AtMost (t ∷ us) (t ∷ ts) → AtMost us ts
    lower us (inl x) = absurd (omega arith)
    lower us (inr x) = x.1

-- t is what the first item takes
record First (i : Item) (is : List Item) (cs : List ℕ) (t : ℕ) : Type 0 where
  ts : List ℕ
  small : t ≤ length cs
  now : best (as_seq (i ∷ is)) at_end cs ≡ Some (t ∷ ts)
  later : best (as_seq is) at_end (drop t cs) ≡ Some ts

first : (i : Item) (is : List Item) (cs : List ℕ) (t : ℕ) → code (best (as_seq (i ∷ is)) at_end cs) ≡ Some t → First i is cs t
first i is cs t = go (best (as_seq (i ∷ is)) at_end cs) refl (best_top (as_seq (i ∷ is)) cs)
  where
    go : (r : Option (List ℕ)) → best (as_seq (i ∷ is)) at_end cs ≡ r → Top (Way (as_seq (i ∷ is)) cs) r → code r ≡ Some t → First i is cs t
    go None e w h = cc
    go (Some []) e w h = absurd (never-empty i is w.0)
    go (Some (u ∷ ts)) e w h =
        let same : u ≡ t = cc in
        subst (First i is cs) same
        (record { ts = ts; small = (parted i is w.0).small; now = e; later = no_other (Way (as_seq is) (drop u cs)) (best (as_seq is) at_end (drop u cs)) ts (best_top (as_seq is) (drop u cs)) (tail_top i is cs u ts w) })

marked-first : (i : Item) (is : List Item) (t : ℕ) (ts : List ℕ) (at : ℕ) (l : Places) → placed (t ∷ ts) (as_seq (i ∷ is)) at l ≡ placed ts (as_seq is) (at + t) (marked i at l)
marked-first (Take s q) is t ts at l = refl
marked-first (Open k) is t ts at l = refl
marked-first (Close k) is t ts at l = refl

-- what holds of the items and the name that are left
abbrev pub Left : List Item → List ℕ → ℕ → ℕ → Places → Places → Type 0
Left items name i at l all =
    (at ≤ length name)
    × (is_some (best (as_seq (drop i items)) at_end (drop at name)) ≡ true)
    × (placed (takes_of (drop i items) (drop at name)) (as_seq (drop i items)) at l ≡ all)

module _ (items : List Item) (name : List ℕ) (i at : ℕ) (d : Item) (l all : Places) (more : i < length items) (inv : Left items name i at l all) where
  one : best (as_seq (drop i items)) at_end (drop at name) ≡ best (as_seq (get_or items i d ∷ drop (i + 1) items)) at_end (drop at name)
  one = ap (λ (l : List Item). best (as_seq l) at_end (drop at name)) (drop_more items i d more)

  pub onwards : (t : ℕ) (next : Places) → cell items name i at ≡ Some t → next ≡ marked (get_or items i d) at l → Left items name (i + 1) (at + t) next all
  onwards t next is o =
      let g = first (get_or items i d) (drop (i + 1) items) (drop at name) t (ap code (sym one) ∙ is) in
      let dd : drop (at + t) name ≡ drop t (drop at name) = sym (drop-drop t at name) in
      let long = length-drop at name in
      let small = g.small in (
        omega arith,
        rw (dd, g.later),
        rw (dd, g.later, o) (sym (marked-first (get_or items i d) (drop (i + 1) items) t g.ts at l) ∙ rw (drop_more items i d more, g.now) at inv.2),
      )
