-- A line depends only on what it visits: on the terms below, and on what is chosen at them.
use Rattle.std.proofs.Common.{◌≡◌, ℕ, zero, suc, ◌<◌, ◌≤◌, Bool, true, false, cond, ltb, List, [], ◌∷◌, ◌++◌, length, Some, None, Option, refl, ap, ◌∙◌, arith}
use Rattle.std.specs.List.{AllByRecursion as All}
use Rattle.codes.specs.Decode.{on_some}
use Rattle.engine.specs.declared.span.Span.{Span}
use Rattle.grammar.specs.Readings.{Piece, text, child, capture, repeat, Separator, Repeat, Template}
use Rattle.terms.specs.Source.{Source, Same, item}
use Rattle.lines.specs.Chosen.{Chosen, Choosing}
use Rattle.lines.specs.Cut.{cut, stopped}
use Rattle.lines.specs.Laws.{AgreeAt, AlikeAt, Alike}
use Rattle.lines.specs.declared.error.LineError.TheVariants.{NoSuchTerm}
use Rattle.lines.specs.Children.{place_of, child_of, descend, between, selected}
use Rattle.lines.specs.Events.{Event, visit, byte, missing, Context, context, alone, encloses, among, or_missing, is_last, piece, pieces, separator, gap, row, range, repeated, body, enclosed, shown, events_by, line}
use Rattle.lines.proofs.Below.{offspring_below, descend-below, selected_under}

all_first : {A : Type 0} (P : A → Type 0) (xs ys : List A) → All P (xs ++ ys) → All P xs
all_first P [] ys a = tt
all_first P (x ∷ xs) ys a = (a.0, all_first P xs ys a.1)

all_second : {A : Type 0} (P : A → Type 0) (xs ys : List A) → All P (xs ++ ys) → All P ys
all_second P [] ys a = a
all_second P (x ∷ xs) ys a = all_second P xs ys a.1

pub all_unit : {A : Type 0} (xs : List A) → All (λ x. Unit {0}) xs
all_unit [] = tt
all_unit (x ∷ xs) = (tt, all_unit xs)

-- ---- sources with the same children
module _ (m m' : Source) (same : (t : ℕ) → m.children t ≡ m'.children t) where
  child_same : (t i : ℕ) → child_of m t i ≡ child_of m' t i
  child_same t i = ap (λ (cs : List ℕ). on_some (place_of (length cs) i) (item cs)) (same t)

  descend_same : (t : ℕ) (s : List ℕ) → descend m t s ≡ descend m' t s
  descend_same t [] = refl
  descend_same t (i ∷ s) = ap (λ o. on_some o (λ u. descend m u s)) (child_same t i) ∙ ap (on_some (child_of m' t i)) (λ j u. descend_same u s j)

  offspring_same : (t : ℕ) (s : List ℕ) (i : ℕ) → on_some (descend m t s) (λ u. child_of m u i) ≡ on_some (descend m' t s) (λ u. child_of m' u i)
  offspring_same t s i = λ j. on_some (descend_same t s j) (λ u. child_same u i j)

  selected_same : (t f g : ℕ) → selected m t f g ≡ selected m' t f g
  selected_same t f g = ap (λ (cs : List ℕ). between (length cs) f g 0 cs) (same t)

-- ---- the pieces of a term t, where the children below it show alike so far as their events keep P
module _ (m m' : Source) (same : (t : ℕ) → m.children t ≡ m'.children t) (P : Event → Type 0) (t : ℕ) (p q : ℕ → Context → List Event)
    (h : (c : ℕ) (x : Context) → c < t → All P (p c x) → p c x ≡ q c x) (name : List ℕ) (spans : List (Option Span)) where
  or_same : (o : Option ℕ) (x : Context) → ((c : ℕ) → o ≡ Some c → c < t) → All P (or_missing o (λ c. p c x)) → or_missing o (λ c. p c x) ≡ or_missing o (λ c. q c x)
  or_same None x l a = refl
  or_same (Some c) x l a = h c x (l c refl) a

  piece_same : {R : Type 0} (f g : List ℕ → R → List Event) → ((s : List ℕ) (x : R) → All P (f s x) → f s x ≡ g s x) → (k : Piece R) → All P (piece m p t name spans f k) → piece m p t name spans f k ≡ piece m' q t name spans g k
  piece_same f g e (text b bs) a = refl
  piece_same f g e (child s i l r) a =
      or_same (on_some (descend m t s) (λ u. child_of m u i)) (context l r) (λ c. offspring_below m t c s i) a ∙ ap (λ o. or_missing o (λ c. q c (context l r))) (offspring_same m m' same t s i)
  piece_same f g e (capture k) a = refl
  piece_same f g e (repeat s x) a = e s x a

  pieces_same : {R : Type 0} (f g : List ℕ → R → List Event) → ((s : List ℕ) (x : R) → All P (f s x) → f s x ≡ g s x) → (ks : List (Piece R)) → All P (pieces m p t name spans f ks) → pieces m p t name spans f ks ≡ pieces m' q t name spans g ks
  pieces_same f g e [] a = refl
  pieces_same f g e (k ∷ ks) a =
      let u = piece_same f g e k (all_first P (piece m p t name spans f k) (pieces m p t name spans f ks) a) in
      let v = pieces_same f g e ks (all_second P (piece m p t name spans f k) (pieces m p t name spans f ks) a) in
      λ i. u i ++ v i

  separator_same : (r : Separator) → All P (separator m p t name spans r) → separator m p t name spans r ≡ separator m' q t name spans r
  separator_same r a = pieces_same (λ s x. []) (λ s x. []) (λ s x b. refl) r.pieces a

  gap_same : (b : Bool) (r : Separator) → All P (gap m p t name spans b r) → gap m p t name spans b r ≡ gap m' q t name spans b r
  gap_same true r a = refl
  gap_same false r a = separator_same r a

  row_same : (x : Repeat) (b : Bool) (cs : List ℕ) → All (λ c. c < t) cs → All P (row m p t name spans x b cs) → row m p t name spans x b cs ≡ row m' q t name spans x b cs
  row_same x b [] l a = refl
  row_same x b (c ∷ cs) l a =
      let tail = all_second P (gap m p t name spans b x.between) (p c (among x b (is_last cs)) ++ row m p t name spans x false cs) a in
      let u = gap_same b x.between (all_first P (gap m p t name spans b x.between) (p c (among x b (is_last cs)) ++ row m p t name spans x false cs) a) in
      let v = h c (among x b (is_last cs)) l.0 (all_first P (p c (among x b (is_last cs))) (row m p t name spans x false cs) tail) in
      let w = row_same x false cs l.1 (all_second P (p c (among x b (is_last cs))) (row m p t name spans x false cs) tail) in
      λ i. u i ++ (v i ++ w i)

  range_same : (x : Repeat) (cs : List ℕ) → All (λ c. c < t) cs → All P (range m p t name spans x cs) → range m p t name spans x cs ≡ range m' q t name spans x cs
  range_same x [] l a = refl
  range_same x (c ∷ cs) l a =
      let tail = all_second P (separator m p t name spans x.before) (row m p t name spans x true (c ∷ cs) ++ separator m p t name spans x.behind) a in
      let u = separator_same x.before (all_first P (separator m p t name spans x.before) (row m p t name spans x true (c ∷ cs) ++ separator m p t name spans x.behind) a) in
      let v = row_same x true (c ∷ cs) l (all_first P (row m p t name spans x true (c ∷ cs)) (separator m p t name spans x.behind) tail) in
      let w = separator_same x.behind (all_second P (row m p t name spans x true (c ∷ cs)) (separator m p t name spans x.behind) tail) in
      λ i. u i ++ (v i ++ w i)

  reached_same : (o : Option ℕ) (x : Repeat) → ((u : ℕ) → o ≡ Some u → u ≤ t) → All P (or_missing o (λ u. range m p t name spans x (selected m u x.from x.to)))
      → or_missing o (λ u. range m p t name spans x (selected m u x.from x.to)) ≡ or_missing o (λ u. range m' q t name spans x (selected m' u x.from x.to))
  reached_same None x l a = refl
  reached_same (Some u) x l a = range_same x (selected m u x.from x.to) (selected_under m t u x.from x.to (l u refl)) a ∙ ap (range m' q t name spans x) (selected_same m m' same u x.from x.to)

  repeated_same : (s : List ℕ) (x : Repeat) → All P (repeated m p t name spans s x) → repeated m p t name spans s x ≡ repeated m' q t name spans s x
  repeated_same s x a = reached_same (descend m t s) x (λ u. descend-below m t u s) a ∙ ap (λ o. or_missing o (λ u. range m' q t name spans x (selected m' u x.from x.to))) (descend_same m m' same t s)

  body_same : (r : Template) → All P (body m p t name spans r) → body m p t name spans r ≡ body m' q t name spans r
  body_same r a = pieces_same (repeated m p t name spans) (repeated m' q t name spans) repeated_same r.pieces a

all_inside : (P : Event → Type 0) (b : Bool) (es : List Event) → All P (enclosed b es) → All P es
all_inside P true es a = all_first P es (byte 41 ∷ []) a.1
all_inside P false es a = a

-- what is shown by the same choice
shown_same : (m m' : Source) (s : (t : ℕ) → m.children t ≡ m'.children t) (P : Event → Type 0) (t : ℕ) (p q : ℕ → Context → List Event) (h : (c : ℕ) (x : Context) → c < t → All P (p c x) → p c x ≡ q c x) (name : List ℕ) (c : Context) (x : Chosen)
    → All P (enclosed (encloses c x.reading) (body m p t name x.spans x.reading))
    → enclosed (encloses c x.reading) (body m p t name x.spans x.reading) ≡ enclosed (encloses c x.reading) (body m' q t name x.spans x.reading)
shown_same m m' s P t p q h name c x a = ap (enclosed (encloses c x.reading)) (body_same m m' s P t p q h name x.spans x.reading (all_inside P (encloses c x.reading) _ a))

-- choosings that agree on the terms of the visits that keep P
module _ (ch ch' : Choosing) (m m' : Source) (same : Same m m') (P : Event → Type 0)
    (agree : (t d : ℕ) → P (visit t d) → ch (m.name t) (length (m.children t)) ≡ ch' (m.name t) (length (m.children t))) where
  pub events_same : (n n' d t : ℕ) (c : Context) → t < n → t < n' → All P (events_by ch m n d t c) → events_by ch m n d t c ≡ events_by ch' m' n' d t c
  events_same zero n' d t c l l' a = absurd (omega arith)
  events_same (suc n) zero d t c l l' a = absurd (omega arith)
  events_same (suc n) (suc n') d t c l l' a =
      let q = events_by ch' m' n' (suc d) in
      let inside = shown_same m m' same.children P t (events_by ch m n (suc d)) q (λ u x k b. events_same n n' (suc d) u x (omega arith) (omega arith) b) (m.name t) c (ch (m.name t) (length (m.children t))) a.1 in
      let chosen = ap (λ x. enclosed (encloses c x.reading) (body m' q t (m.name t) x.spans x.reading)) (agree t d a.0) in
      let named : shown m' q t c (ch' (m.name t) (length (m.children t))) ≡ shown m' q t c (ch' (m'.name t) (length (m'.children t))) = λ i. shown m' q t c (ch' (same.names t i) (length (same.children t i))) in
      let renamed : enclosed (encloses c (ch' (m.name t) (length (m.children t))).reading) (body m' q t (m.name t) (ch' (m.name t) (length (m.children t))).spans (ch' (m.name t) (length (m.children t))).reading) ≡ shown m' q t c (ch' (m.name t) (length (m.children t))) =
      ap (λ nm. enclosed (encloses c (ch' (m.name t) (length (m.children t))).reading) (body m' q t nm (ch' (m.name t) (length (m.children t))).spans (ch' (m.name t) (length (m.children t))).reading)) (same.names t) in
      ap (λ es. visit t d ∷ es) (inside ∙ chosen ∙ renamed ∙ named)

-- a line by the lines of the terms below
pub line_unfolds : (ch : Choosing) (m : Source) (d t : ℕ) (c : Context) → line ch m d t c ≡ visit t d ∷ shown m (line ch m (suc d)) t c (ch (m.name t) (length (m.children t)))
unfolding line
line_unfolds ch m d t c =
    let same : Same m m = record { counts = refl; names = λ u. refl; children = λ u. refl } in
    ap (λ es. visit t d ∷ es)
    (shown_same m m (λ u. refl) (λ e. Unit {0}) t (events_by ch m t (suc d)) (λ u x. events_by ch m (suc u) (suc d) u x)
    (λ u x k b. events_same ch ch m m same (λ e. Unit {0}) (λ v e w. refl) t (suc u) (suc d) u x k (omega arith) b) (m.name t) c (ch (m.name t) (length (m.children t))) (all_unit _))

-- ---- alike
module _ (ch ch' : Choosing) (m m' : Source) (t : ℕ) (same : Same m m') where
  alike_from : (line ch m 1 t alone ≡ line ch' m' 1 t alone) → AlikeAt ch ch' m m' t
  alike_from e = record { lines = e; prints = λ room. λ i. cond (ltb t (same.counts i)) (cut room 0 (e i)) (stopped 0 NoSuchTerm) }

  alike_lines : All (AgreeAt ch ch' m) (line ch m 1 t alone) → line ch m 1 t alone ≡ line ch' m' 1 t alone
  unfolding line
  alike_lines a = events_same ch ch' m m' same (AgreeAt ch ch' m) (λ u d h. h) (suc t) (suc t) 1 t alone (omega arith) (omega arith) a

agree_all : (ch ch' : Choosing) (m : Source) → ((name : List ℕ) (count : ℕ) → ch name count ≡ ch' name count) → (es : List Event) → All (AgreeAt ch ch' m) es
agree_all ch ch' m h [] = tt
agree_all ch ch' m h (visit t d ∷ es) = (h (m.name t) (length (m.children t)), agree_all ch ch' m h es)
agree_all ch ch' m h (byte b ∷ es) = (tt, agree_all ch ch' m h es)
agree_all ch ch' m h (missing ∷ es) = (tt, agree_all ch ch' m h es)

pub alike_holds : Alike
alike_holds = record {
  visited = λ ch ch' m m' t same a. alike_from ch ch' m m' t same (alike_lines ch ch' m m' t same a);
  everywhere = λ ch ch' m m' t same h. alike_from ch ch' m m' t same (alike_lines ch ch' m m' t same (agree_all ch ch' m h (line ch m 1 t alone)));
}
