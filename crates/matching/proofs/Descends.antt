-- A turn of the reader that descends.
use Rattle.std.proofs.Common.{◌≡◌, ℕ, suc, ◌+◌, ◌<◌, List, [], ◌∷◌, length, get_or, take, drop, set, Some, None, sym, refl, ap, ◌∙◌, append-nil, arith, take-suc-set}
use Rattle.matching.specs.declared.items.Item.{Item}
use Rattle.matching.specs.declared.items.Item.TheVariants.{Take, Open, Close}
use Rattle.matching.specs.declared.items.Set.{Set}
use Rattle.matching.specs.declared.items.Times.{Times}
use Rattle.matching.specs.Reader.{atom_at, times_at, Got, emit, read_from, items_of, after}
use Rattle.matching.proofs.ReadSteps.{after-emit, open_more, close_more, close_none, set_more}

-- what is read, and what is still to be read
abbrev pub State : List ℕ → List ℕ → ℕ → ℕ → List Item → Got
State rest ks groups len out = after (take len out) (read_from 0 ks groups rest)

-- a text that is not at its end
pub first_of_rest : (rest : List ℕ) → 0 < length rest → rest ≡ get_or rest 0 0 ∷ drop 1 rest
first_of_rest [] h = absurd (omega arith)
first_of_rest (c ∷ cs) h = refl

module _ (rest : List ℕ) (ks : List ℕ) (groups len : ℕ) (out : List Item) (more : 0 < length rest) where
  abbrev c : ℕ
  c = get_or rest 0 0

  abbrev cs : List ℕ
  cs = drop 1 rest

  next : read_from 0 ks groups rest ≡ read_from 0 ks groups (c ∷ cs)
  next = ap (read_from 0 ks groups) (first_of_rest rest more)

  puts : len < length out → (x : Item) (g : Got) → read_from 0 ks groups (c ∷ cs) ≡ emit x g → State rest ks groups len out ≡ after (take (len + 1) (set out len x)) g
  puts room x g e =
      let one : len + 1 ≡ suc len = omega arith in
      rw (one, take-suc-set out len x room) (ap (after (take len out)) (next ∙ e) ∙ after-emit (take len out) x g)

  pub opening : len < length out → c ≡ 40 → length ks < 16 → State rest ks groups len out ≡ State cs (groups ∷ ks) (groups + 1) (len + 1) (set out len (Open groups))
  opening room e h = puts room (Open groups) (read_from 0 (groups ∷ ks) (groups + 1) cs) (open_more ks groups c cs e h)

  pub set_here : len < length out → (c ≡ 40 → ⊥) → (c ≡ 41 → ⊥) → (s : Set) (m : ℕ) → Some (s, m) ≡ atom_at rest → (q : Times) (u : ℕ) → (q, u) ≡ times_at (drop m cs) → State rest ks groups len out ≡ State (drop (m + u) cs) ks groups (len + 1) (set out len (Take s q))
  set_here room h k s m e q u t =
      let g = set_more ks groups c cs h k s m (e ∙ ap atom_at (first_of_rest rest more)) in
      let g2 = rw (← t) at g in
      puts room (Take s q) (read_from 0 ks groups (drop (m + u) cs)) g2

pub closing_up : (rest : List ℕ) (k : ℕ) (ks : List ℕ) (groups len : ℕ) (out : List Item) → 0 < length rest → len < length out → get_or rest 0 0 ≡ 41 → State rest (k ∷ ks) groups len out ≡ State (drop 1 rest) ks groups (len + 1) (set out len (Close k))
closing_up rest k ks groups len out more room e = puts rest (k ∷ ks) groups len out more room (Close k) (read_from 0 ks groups (drop 1 rest)) (close_more k ks groups (get_or rest 0 0) (drop 1 rest) e)

pub never_closed : (rest : List ℕ) (k : ℕ) (ks : List ℕ) (groups len : ℕ) (out : List Item) → length rest ≡ 0 → State rest (k ∷ ks) groups len out ≡ None
never_closed [] k ks groups len out h = refl
never_closed (c ∷ cs) k ks groups len out h = absurd (omega arith)

-- ---- the same, where the reader goes on with what it holds then
module _ (rest rest' ks : List ℕ) (groups groups' len len' : ℕ) (out out' : List Item) (more : 0 < length rest) (room : len < length out) (g : groups' ≡ groups) (l : len' ≡ len + 1) where
  pub opened : rest' ≡ drop 1 rest → out' ≡ set out len (Open groups) → get_or rest 0 0 ≡ 40 → length ks < 16 → State rest ks groups len out ≡ State rest' (groups ∷ ks) (groups' + 1) len' out'
  opened r o e h = rw (r, o, g, l) (opening rest ks groups len out more room e h)

  pub closed : (k : ℕ) → rest' ≡ drop 1 rest → out' ≡ set out len (Close k) → get_or rest 0 0 ≡ 41 → State rest (k ∷ ks) groups len out ≡ State rest' ks groups' len' out'
  closed k r o e = rw (r, o, g, l) (closing_up rest k ks groups len out more room e)

  pub took : (s : Set) (q : Times) (m u : ℕ) → rest' ≡ drop (m + u) (drop 1 rest) → out' ≡ set out len (Take s q) → (get_or rest 0 0 ≡ 40 → ⊥) → (get_or rest 0 0 ≡ 41 → ⊥) → Some (s, m) ≡ atom_at rest → (q, u) ≡ times_at (drop m (drop 1 rest)) → State rest ks groups len out ≡ State rest' ks groups' len' out'
  took s q m u r o h k a t = rw (r, o, g, l) (set_here rest ks groups len out more room h k s m a q u t)

-- ---- where the outermost descent stops
no_items : (g : Got) → after [] g ≡ g
no_items None = refl
no_items (Some p) = refl

pub read_whole : (text rest : List ℕ) (groups len : ℕ) (out : List Item) → length rest ≡ 0 → after [] (items_of text) ≡ State rest [] groups len out → Some (take len out, groups) ≡ items_of text
read_whole text [] groups len out h e = ap (λ (l : List Item). Some (l, groups)) (sym (append-nil (take len out))) ∙ sym e ∙ no_items (items_of text)
read_whole text (c ∷ cs) groups len out h e = absurd (omega arith)

pub read_closed : (text rest : List ℕ) (groups len : ℕ) (out : List Item) → 0 < length rest → get_or rest 0 0 ≡ 41 → after [] (items_of text) ≡ State rest [] groups len out → None ≡ items_of text
read_closed text [] groups len out h b e = absurd (omega arith)
read_closed text (c ∷ cs) groups len out h b e = sym (sym (no_items (items_of text)) ∙ e ∙ ap (after (take len out)) (close_none groups c cs b))
