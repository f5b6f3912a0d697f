-- The reader accepts just what the grammar has.
use Rattle.std.proofs.Common.{◌≡◌, ℕ, zero, suc, ◌+◌, ◌≤◌, Bool, true, false, cond, eqb, ltb, List, [], ◌∷◌, ◌++◌, length, drop, Some, None, Option, sym, refl, ap, ◌∙◌, subst, append_assoc, append-nil, arith, length-drop}
use Rattle.std.proofs.lemmas.List.{drop-drop}
use Rattle.std.proofs.lemmas.Bool.Decides.{nat_tests}
use Rattle.matching.specs.declared.items.Item.{Item}
use Rattle.matching.specs.declared.items.Item.TheVariants.{Take, Open, Close}
use Rattle.matching.specs.declared.items.Set.{Set}
use Rattle.matching.specs.declared.items.Set.TheVariants.{Dot, Byte}
use Rattle.matching.specs.declared.items.Times.{Times}
use Rattle.matching.specs.declared.items.Times.TheVariants.{Once, Maybe, Several, Many}
use Rattle.matching.specs.Reader.{special, plain, escaped, atom_at, times_at, Got, emit, in_group, outside, on_set, read_from, after}
use Rattle.matching.specs.Grammar.{Atom, dot, byte, escape, Often, once, many, several, maybe, Pattern, none, item, group, ReadsPatterns}
use Rattle.matching.proofs.ReadSteps.{open_more, set_more, close_more, skips}

-- ---- what is in the grammar is read
-- no quantifier stands in front
abbrev Clean : List ℕ → Type 0
Clean cs = times_at cs ≡ (Once, 0)

plain_no : (c k : ℕ) → plain c ≡ true → plain k ≡ false → c ≡ k → ⊥
plain_no c k p q e = let x : plain k ≡ true = rw e at p in cc

plain_clean : (c : ℕ) (cs : List ℕ) → plain c ≡ true → Clean (c ∷ cs)
plain_clean c cs p =
    let a : eqb c 42 ≡ false = other 42 (plain_no c 42 p refl) in
    let b : eqb c 43 ≡ false = other 43 (plain_no c 43 p refl) in
    let d : eqb c 63 ≡ false = other 63 (plain_no c 63 p refl) in
    rw (a, b, d)
  where
    other : (k : ℕ) → (c ≡ k → ⊥) → eqb c k ≡ false
    other k h = grind (arith, nat_tests)

pattern_clean : {d n m : ℕ} {text : List ℕ} {items : List Item} → Pattern d n m text items → (rest : List ℕ) → Clean rest → Clean (text ++ rest)
pattern_clean none rest h = h
pattern_clean (item dot o p) rest h = refl
pattern_clean (item {o = o} {rest = t} (byte {c} e) x p) rest h = plain_clean c ((o ++ t) ++ rest) e
pattern_clean (item (escape e) o p) rest h = refl
pattern_clean (group p q) rest h = refl

atom_read : {a : List ℕ} {s : Set} → Atom a s → (ks : List ℕ) (n : ℕ) (r : List ℕ) → read_from 0 ks n (a ++ r) ≡ emit (Take s (times_at r).0) (read_from 0 ks n (drop (times_at r).1 r))
atom_read dot ks n r =
    let z : 0 + (times_at r).1 ≡ (times_at r).1 = omega arith in
    ap (λ (k : ℕ). emit (Take Dot (times_at r).0) (read_from k ks n r)) z ∙ ap (emit (Take Dot (times_at r).0)) (skips (times_at r).1 ks n r)
atom_read (byte {c} p) ks n r =
    let e : atom_at (c ∷ r) ≡ Some (Byte c, 0) = at_plain c r p in
    let z : 0 + (times_at r).1 ≡ (times_at r).1 = omega arith in
    set_more ks n c r (plain_no c 40 p refl) (plain_no c 41 p refl) (Byte c) 0 (sym e)
    ∙ ap (λ (k : ℕ). emit (Take (Byte c) (times_at r).0) (read_from 0 ks n (drop k r))) z
  where
    at_plain : (c : ℕ) (r : List ℕ) → plain c ≡ true → atom_at (c ∷ r) ≡ Some (Byte c, 0)
    at_plain c r p =
        let x : eqb c 46 ≡ false = other c 46 (plain_no c 46 p refl) in
        let y : eqb c 92 ≡ false = other c 92 (plain_no c 92 p refl) in
        rw (p, x, y)
      where
        other : (c k : ℕ) → (c ≡ k → ⊥) → eqb c k ≡ false
        other c k h = grind (arith, nat_tests)
atom_read (escape {c} p) ks n r =
    let e : atom_at (92 ∷ c ∷ r) ≡ Some (Byte c, 1) = rw p in
    let z : 1 + (times_at r).1 ≡ suc (times_at r).1 = omega arith in
    set_more ks n 92 (c ∷ r) (λ x. omega (arith, x)) (λ x. omega (arith, x)) (Byte c) 1 (sym e)
    ∙ ap (λ (k : ℕ). emit (Take (Byte c) (times_at r).0) (read_from 0 ks n (drop k (c ∷ r)))) z

often_read : {o : List ℕ} {q : Times} → Often o q → (s : Set) (ks : List ℕ) (n : ℕ) (r : List ℕ) → Clean r → emit (Take s (times_at (o ++ r)).0) (read_from 0 ks n (drop (times_at (o ++ r)).1 (o ++ r))) ≡ emit (Take s q) (read_from 0 ks n r)
often_read once s ks n r h = rw h
often_read many s ks n r h = refl
often_read several s ks n r h = refl
often_read maybe s ks n r h = refl

after_none : (g : Got) → g ≡ after [] g
after_none None = refl
after_none (Some p) = refl

after-take : (i : Item) (is : List Item) (g : Got) → emit i (after is g) ≡ after (i ∷ is) g
after-take i is None = refl
after-take i is (Some p) = refl

after-group : (x y : Item) (is js : List Item) (g : Got) → emit x (after is (emit y (after js g))) ≡ after (x ∷ (is ++ y ∷ js)) g
after-group x y is js None = refl
after-group x y is js (Some p) = ap (λ (l : List Item). Some (x ∷ l, p.1)) (sym (append_assoc is (y ∷ js) p.0))

back : {d n m : ℕ} {text : List ℕ} {items : List Item} → Pattern d n m text items → (ks rest : List ℕ) → length ks + d ≡ 16 → Clean rest → read_from 0 ks n (text ++ rest) ≡ after items (read_from 0 ks m rest)
back (none {n = n}) ks rest h c = after_none (read_from 0 ks n rest)
back (item {n = n} {m = m} {a = a} {o = o} {rest = t} {s = s} {q = q} {is = is} x y p) ks rest h c =
    ap (read_from 0 ks n) (append_assoc a (o ++ t) rest ∙ ap (λ (l : List ℕ). a ++ l) (append_assoc o t rest))
    ∙ atom_read x ks n (o ++ (t ++ rest))
    ∙ often_read y s ks n (t ++ rest) (pattern_clean p rest c)
    ∙ ap (emit (Take s q)) (back p ks rest h c)
    ∙ after-take (Take s q) is (read_from 0 ks m rest)
back (group {d = d} {n = n} {m = m} {l = l} {inside = inside} {rest = t} {is = is} {js = js} p r) ks rest h c =
    ap (λ (u : List ℕ). read_from 0 ks n (40 ∷ u)) (append_assoc inside (41 ∷ t) rest)
    ∙ open_more ks n 40 (inside ++ 41 ∷ (t ++ rest)) refl (omega arith)
    ∙ ap (emit (Open n)) (back p (n ∷ ks) (41 ∷ (t ++ rest)) (omega arith) refl ∙ ap (after is) (close_more n ks m 41 (t ++ rest) refl ∙ ap (emit (Close n)) (back r ks rest h c)))
    ∙ after-group (Open n) (Close n) is js (read_from 0 ks l rest)

-- ---- what is read is in the grammar
data Rest : ℕ → List ℕ → ℕ → ℕ → List ℕ → List Item → Type 0 where
  base : {d n m : ℕ} {cs : List ℕ} {is : List Item} → Pattern d n m cs is → Rest d [] n m cs is
  closing : {d k n o m : ℕ} {ks inside rest : List ℕ} {is js : List Item} → Pattern d n o inside is → Rest (suc d) ks o m rest js → Rest d (k ∷ ks) n m (inside ++ 41 ∷ rest) (is ++ Close k ∷ js)

-- a piece in front of what follows
abbrev Piece : ℕ → ℕ → ℕ → List ℕ → List Item → Type 0
Piece d n o text items = (m : ℕ) (rest : List ℕ) (js : List Item) → Pattern d o m rest js → Pattern d n m (text ++ rest) (items ++ js)

front : {d n o m : ℕ} {ks rest : List ℕ} {js : List Item} (text : List ℕ) (items : List Item) → Piece d n o text items → Rest d ks o m rest js → Rest d ks n m (text ++ rest) (items ++ js)
front text items f (base p) = base (f _ _ _ p)
front {n = n} text items f (closing {d} {k} {o = o} {m = m} {ks = ks} {inside = inside} {rest = rest} {is = is} {js = js} p r) =
    subst (λ (l : List ℕ). Rest d (k ∷ ks) n m l (items ++ (is ++ Close k ∷ js))) (append_assoc text inside (41 ∷ rest))
    (subst (λ (l : List Item). Rest d (k ∷ ks) n m ((text ++ inside) ++ 41 ∷ rest) l) (append_assoc items is (Close k ∷ js))
    (closing (f _ _ _ p) r))

grouped : {d n m : ℕ} {ks cs : List ℕ} {is : List Item} → Rest d (n ∷ ks) (n + 1) m cs is → Rest (suc d) ks n m (40 ∷ cs) (Open n ∷ is)
grouped {d} {n} {m} {ks} (closing {o = o} {inside = inside} {rest = rest} {is = is} {js = js} p r) =
    subst (λ (l : List ℕ). Rest (suc d) ks n m (40 ∷ l) (Open n ∷ (is ++ Close n ∷ js))) (append_assoc inside (41 ∷ []) rest)
    (subst (λ (l : List Item). Rest (suc d) ks n m (40 ∷ ((inside ++ 41 ∷ []) ++ rest)) (Open n ∷ l)) (append_assoc is (Close n ∷ []) js)
    (front (40 ∷ (inside ++ 41 ∷ [])) (Open n ∷ (is ++ Close n ∷ [])) piece r))
  where
    piece : Piece (suc d) n o (40 ∷ (inside ++ 41 ∷ [])) (Open n ∷ (is ++ Close n ∷ []))
    piece m rest js q =
        subst (λ (l : List ℕ). Pattern (suc d) n m (40 ∷ l) (Open n ∷ ((is ++ Close n ∷ []) ++ js))) (sym (append_assoc inside (41 ∷ []) rest))
        (subst (λ (l : List Item). Pattern (suc d) n m (40 ∷ (inside ++ 41 ∷ rest)) (Open n ∷ l)) (sym (append_assoc is (Close n ∷ []) js))
        (group p q))

record Split (cs : List ℕ) (s : Set) (m : ℕ) : Type 0 where
  a : List ℕ
  atom : Atom a s
  joins : a ++ drop (suc m) cs ≡ cs

same_pair : (s t : Set) (k m : ℕ) → ◌≡◌ {A = Option (Set × ℕ)} (Some (s, k)) (Some (t, m)) → (s ≡ t) × (k ≡ m)
same_pair s t k m e = (ap (λ (p : Set × ℕ). p.0) (un e), ap (λ (p : Set × ℕ). p.1) (un e))
  where
    un : ◌≡◌ {A = Option (Set × ℕ)} (Some (s, k)) (Some (t, m)) → ◌≡◌ {A = Set × ℕ} (s, k) (t, m)
    un e = cc

split_as : (cs : List ℕ) (s t : Set) (k m : ℕ) → ◌≡◌ {A = Option (Set × ℕ)} (Some (s, k)) (Some (t, m)) → Split cs s k → Split cs t m
split_as cs s t k m e r = let p = same_pair s t k m e in subst (λ (u : ℕ). Split cs t u) p.1 (subst (λ (u : Set). Split cs u k) p.0 r)

no_pair : {P : Type 0} (t : Set) (m : ℕ) → ◌≡◌ {A = Option (Set × ℕ)} None (Some (t, m)) → P
no_pair t m e = cc

same_byte : (c k : ℕ) → eqb c k ≡ true → c ≡ k
same_byte c k e = grind (arith, nat_tests)

atom_split : (c : ℕ) (cs : List ℕ) (s : Set) (m : ℕ) → atom_at (c ∷ cs) ≡ Some (s, m) → Split (c ∷ cs) s m
atom_split c cs s m = go (eqb c 46) refl (eqb c 92) refl (plain c) refl
  where
    esc : (ds : List ℕ) → c ≡ 92 → escaped ds ≡ Some (s, m) → Split (c ∷ ds) s m
    esc [] e h = no_pair s m h
    esc (d ∷ ds) e h = on (special d) refl h
      where
        on : (b : Bool) → special d ≡ b → cond {A = Option (Set × ℕ)} b (Some (Byte d, 1)) None ≡ Some (s, m) → Split (c ∷ d ∷ ds) s m
        on true x h = split_as (c ∷ d ∷ ds) (Byte d) s 1 m h (record { a = 92 ∷ d ∷ []; atom = escape x; joins = ap (λ (n : ℕ). n ∷ d ∷ ds) (sym e) })
        on false x h = no_pair s m h

    go : (x : Bool) → eqb c 46 ≡ x → (y : Bool) → eqb c 92 ≡ y → (z : Bool) → plain c ≡ z → cond {A = Option (Set × ℕ)} x (Some (Dot, 0)) (cond y (escaped cs) (cond z (Some (Byte c, 0)) None)) ≡ Some (s, m) → Split (c ∷ cs) s m
    go true p y q z r h = split_as (c ∷ cs) Dot s 0 m h (record { a = 46 ∷ []; atom = dot; joins = ap (λ (n : ℕ). n ∷ cs) (sym (same_byte c 46 p)) })
    go false p true q z r h = esc cs (same_byte c 92 q) h
    go false p false q true r h = split_as (c ∷ cs) (Byte c) s 0 m h (record { a = c ∷ []; atom = byte r; joins = refl })
    go false p false q false r h = no_pair s m h

record Quantified (cs : List ℕ) (p : Times × ℕ) : Type 0 where
  o : List ℕ
  often : Often o p.0
  joins : o ++ drop p.1 cs ≡ cs

times_split : (cs : List ℕ) → Quantified cs (times_at cs)
times_split [] = record { o = []; often = once; joins = refl }
times_split (c ∷ cs) = go (eqb c 42) refl (eqb c 43) refl (eqb c 63) refl
  where
    go : (x : Bool) → eqb c 42 ≡ x → (y : Bool) → eqb c 43 ≡ y → (z : Bool) → eqb c 63 ≡ z → Quantified (c ∷ cs) (cond {A = Times × ℕ} x (Many, 1) (cond y (Several, 1) (cond z (Maybe, 1) (Once, 0))))
    go true p y q z r = record { o = 42 ∷ []; often = many; joins = ap (λ (n : ℕ). n ∷ cs) (sym (same_byte c 42 p)) }
    go false p true q z r = record { o = 43 ∷ []; often = several; joins = ap (λ (n : ℕ). n ∷ cs) (sym (same_byte c 43 q)) }
    go false p false q true r = record { o = 63 ∷ []; often = maybe; joins = ap (λ (n : ℕ). n ∷ cs) (sym (same_byte c 63 r)) }
    go false p false q false r = record { o = []; often = once; joins = refl }

record Emitted (i : Item) (g : Got) (items : List Item) (m : ℕ) : Type 0 where
  is : List Item
  got : g ≡ Some (is, m)
  all : i ∷ is ≡ items

emitted : (i : Item) (g : Got) (items : List Item) (m : ℕ) → emit i g ≡ Some (items, m) → Emitted i g items m
emitted i None items m e = cc
emitted i (Some p) items m e =
    let u : (i ∷ p.0, p.1) ≡ (items, m) = cc in
    record { is = p.0; got = ap (λ (k : ℕ). Some (p.0, k)) (ap (λ (q : List Item × ℕ). q.1) u); all = ap (λ (q : List Item × ℕ). q.0) u }

no_got : {P : Type 0} (items : List Item) (m : ℕ) → ◌≡◌ {A = Got} None (Some (items, m)) → P
no_got items m e = cc

ending : (ks : List ℕ) (d n m : ℕ) (items : List Item) → outside ks n ≡ Some (items, m) → Rest d ks n m [] items
ending [] d n m items e =
    let u : ([], n) ≡ (items, m) = cc in
    subst (λ (q : List Item × ℕ). Rest d [] n q.1 [] q.0) u (base none)
ending (k ∷ ks) d n m items e = no_got items m e

abbrev Forth : List ℕ → Type 0
Forth cs = (d : ℕ) (ks : List ℕ) (n m : ℕ) (items : List Item) → length ks + d ≡ 16 → read_from 0 ks n cs ≡ Some (items, m) → Rest d ks n m cs items

rest_as : {d n m : ℕ} {ks cs : List ℕ} {is items : List Item} → is ≡ items → Rest d ks n m cs is → Rest d ks n m cs items
rest_as {d} {n} {m} {ks} {cs} e r = subst (λ (l : List Item). Rest d ks n m cs l) e r

module _ (c : ℕ) (cs : List ℕ) (later : (k : ℕ) → Forth (drop k cs)) where
  at_open : (d : ℕ) (ks : List ℕ) (n m : ℕ) (items : List Item) → c ≡ 40 → length ks + d ≡ 16 → (b : Bool) → ltb (length ks) 16 ≡ b → cond b (emit (Open n) (read_from 0 (n ∷ ks) (n + 1) cs)) None ≡ Some (items, m) → Rest d ks n m (c ∷ cs) items
  at_open d ks n m items e h false x g = no_got items m g
  at_open zero ks n m items e h true x g = absurd (grind (arith, nat_tests))
  at_open (suc d) ks n m items e h true x g =
      let t = emitted (Open n) (read_from 0 (n ∷ ks) (n + 1) cs) items m g in
      let r = later 0 d (n ∷ ks) (n + 1) m t.is (omega arith) t.got in
      rest_as t.all (subst (λ (u : ℕ). Rest (suc d) ks n m (u ∷ cs) (Open n ∷ t.is)) (sym e) (grouped r))

  at_close : (d : ℕ) (ks : List ℕ) (n m : ℕ) (items : List Item) → c ≡ 41 → length ks + d ≡ 16 → in_group ks (λ k rest. emit (Close k) (read_from 0 rest n cs)) ≡ Some (items, m) → Rest d ks n m (c ∷ cs) items
  at_close d [] n m items e h g = no_got items m g
  at_close d (k ∷ ks) n m items e h g =
      let t = emitted (Close k) (read_from 0 ks n cs) items m g in
      let r = later 0 (suc d) ks n m t.is (omega arith) t.got in
      rest_as t.all (subst (λ (u : ℕ). Rest d (k ∷ ks) n m (u ∷ cs) (Close k ∷ t.is)) (sym e) (closing none r))

  at_set : (d : ℕ) (ks : List ℕ) (n m : ℕ) (items : List Item) → length ks + d ≡ 16 → (r : Option (Set × ℕ)) → atom_at (c ∷ cs) ≡ r → on_set r (λ s more. emit (Take s (times_at (drop more cs)).0) (read_from (more + (times_at (drop more cs)).1) ks n cs)) ≡ Some (items, m) → Rest d ks n m (c ∷ cs) items
  at_set d ks n m items h None x g = no_got items m g
  at_set d ks n m items h (Some p) x g =
      let s = p.0 in
      let more = p.1 in
      let q = times_at (drop p.1 cs) in
      let t = emitted (Take p.0 q.0) (read_from (p.1 + q.1) ks n cs) items m g in
      let far = p.1 + q.1 in
      let r = later far d ks n m t.is h (sym (skips far ks n cs) ∙ t.got) in
      let a = atom_split c cs p.0 p.1 x in
      let o = times_split (drop p.1 cs) in
      let piece : Piece d n n (a.a ++ o.o) (Take p.0 q.0 ∷ []) = λ m rest js w. subst (λ (l : List ℕ). Pattern d n m l (Take p.0 q.0 ∷ js)) (sym (append_assoc a.a o.o rest)) (item a.atom o.often w) in
      let whole : (a.a ++ o.o) ++ drop far cs ≡ c ∷ cs = append_assoc a.a o.o (drop far cs) ∙ ap (λ (l : List ℕ). a.a ++ (o.o ++ l)) (sym (drop-drop q.1 p.1 cs)) ∙ ap (λ (l : List ℕ). a.a ++ l) o.joins ∙ a.joins in
      rest_as t.all (subst (λ (l : List ℕ). Rest d ks n m l (Take p.0 q.0 ∷ t.is)) whole (front (a.a ++ o.o) (Take p.0 q.0 ∷ []) piece r))

  at_byte : Forth (c ∷ cs)
  at_byte d ks n m items h g = go (eqb c 40) refl (eqb c 41) refl g
    where
      go : (x : Bool) → eqb c 40 ≡ x → (y : Bool) → eqb c 41 ≡ y → cond x (cond (ltb (length ks) 16) (emit (Open n) (read_from 0 (n ∷ ks) (n + 1) cs)) None) (cond y (in_group ks (λ k rest. emit (Close k) (read_from 0 rest n cs))) (on_set (atom_at (c ∷ cs)) (λ s more. emit (Take s (times_at (drop more cs)).0) (read_from (more + (times_at (drop more cs)).1) ks n cs)))) ≡ Some (items, m) → Rest d ks n m (c ∷ cs) items
      go true p y q g = at_open d ks n m items (same_byte c 40 p) h (ltb (length ks) 16) refl g
      go false p true q g = at_close d ks n m items (same_byte c 41 q) h g
      go false p false q g = at_set d ks n m items h (atom_at (c ∷ cs)) refl g

forth : (len : ℕ) (cs : List ℕ) → length cs ≤ len → Forth cs
forth len [] h = λ d ks n m items e g. ending ks d n m items g
forth zero (c ∷ cs) h = absurd (omega arith)
forth (suc len) (c ∷ cs) h = at_byte c cs (λ k. forth len (drop k cs) (rw (length-drop k cs) (omega arith)))

unrest : {d n m : ℕ} {cs : List ℕ} {is : List Item} → Rest d [] n m cs is → Pattern d n m cs is
unrest (base p) = p

pub reads-patterns : ReadsPatterns
reads-patterns text items m = (
  λ g. unrest (forth (length text) text (omega arith) 16 [] 1 m items refl g),
  λ p. ap (read_from 0 [] 1) (sym (append-nil text)) ∙ back p [] [] refl refl ∙ ap (λ (l : List Item). Some (l, m)) (append-nil items),
)
