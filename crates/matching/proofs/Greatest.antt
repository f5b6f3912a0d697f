-- `best` finds the way in which earlier items take the most.
use Rattle.std.proofs.Common.{◌≡◌, ℕ, zero, suc, Bool, true, false, cond, List, [], ◌∷◌, ◌++◌, length, drop, Some, None, Option, sym, refl, ap, subst, inl, inr, arith}
use Rattle.matching.specs.declared.items.Times.{Times}
use Rattle.matching.specs.declared.items.Times.TheVariants.{Once, Maybe, Several, Many}
use Rattle.matching.specs.Ways.{Seq, end, bytes, opens, closes, either, join, AllOf, Count, Way, done, takes, opened, closed, left, right, AtMost, AtMostOne}
use Rattle.matching.specs.Best.{Finder, none, more, or, step, many, taken, at_end, best, Finds, BestIsMatch}

-- ---- the order
pub at_most_both : (ts us : List ℕ) → AtMost ts us → AtMost us ts → ts ≡ us
at_most_both [] [] a b = refl
at_most_both [] (u ∷ us) a b = absurd b
at_most_both (t ∷ ts) [] a b = absurd a
at_most_both (t ∷ ts) (u ∷ us) (inl x) (inl y) = absurd (omega arith)
at_most_both (t ∷ ts) (u ∷ us) (inl x) (inr y) = absurd (omega (arith, y.0))
at_most_both (t ∷ ts) (u ∷ us) (inr x) (inl y) = absurd (omega (arith, x.0))
at_most_both (t ∷ ts) (u ∷ us) (inr x) (inr y) = let e = at_most_both ts us x.1 y.1 in let h = x.0 in cc

pub at_most_one : AtMostOne
at_most_one p name ts us a b = at_most_both ts us (b.greatest ts a.way) (a.greatest us b.way)

-- ---- the greatest of a set of takes
abbrev pub Top : (List ℕ → Type 0) → Option (List ℕ) → Type 0
Top W None = (ts : List ℕ) → W ts → ⊥
Top W (Some ts) = W ts × ((us : List ℕ) → W us → AtMost us ts)

pub top_map : (V W : List ℕ → Type 0) → ((ts : List ℕ) → V ts → W ts) → ((ts : List ℕ) → W ts → V ts) → (r : Option (List ℕ)) → Top V r → Top W r
top_map V W to from None h = λ ts w. h ts (from ts w)
top_map V W to from (Some ts) h = (to ts h.0, λ us w. h.1 us (from us w))

abbrev pub Zero : (List ℕ → Type 0) → List ℕ → Type 0
Zero W [] = ⊥
Zero W (zero ∷ us) = W us
Zero W (suc t ∷ us) = ⊥

abbrev Up : (List ℕ → Type 0) → List ℕ → Type 0
Up V [] = ⊥
Up V (zero ∷ us) = ⊥
Up V (suc t ∷ us) = V (t ∷ us)

pub zero_top : (W : List ℕ → Type 0) (r : Option (List ℕ)) → Top W r → Top (Zero W) (none r)
zero_top W None h = go
  where
    go : (ts : List ℕ) → Zero W ts → ⊥
    go [] w = w
    go (zero ∷ us) w = h us w
    go (suc t ∷ us) w = w
zero_top W (Some ts) h = (h.0, go)
  where
    go : (us : List ℕ) → Zero W us → AtMost us (0 ∷ ts)
    go [] w = absurd w
    go (zero ∷ us) w = inr (refl, h.1 us w)
    go (suc t ∷ us) w = absurd w

pub more_top : (V : List ℕ → Type 0) (r : Option (List ℕ)) → Top V r → Top (Up V) (more r)
more_top V None h = go
  where
    go : (ts : List ℕ) → Up V ts → ⊥
    go [] w = w
    go (zero ∷ us) w = w
    go (suc t ∷ us) w = h (t ∷ us) w
more_top V (Some []) h = go
  where
    go : (ts : List ℕ) → Up V ts → ⊥
    go [] w = w
    go (zero ∷ us) w = w
    go (suc t ∷ us) w = h.1 (t ∷ us) w
more_top V (Some (t ∷ ts)) h = (h.0, go)
  where
    raise : (u : ℕ) (us : List ℕ) → AtMost (u ∷ us) (t ∷ ts) → AtMost (suc u ∷ us) (suc t ∷ ts)
    raise u us (inl x) = inl (omega arith)
    raise u us (inr x) = inr (ap suc x.0, x.1)

    go : (us : List ℕ) → Up V us → AtMost us (suc t ∷ ts)
    go [] w = absurd w
    go (zero ∷ us) w = absurd w
    go (suc u ∷ us) w = raise u us (h.1 (u ∷ us) w)

-- what takes a byte comes before what takes none
abbrev pub Either : (List ℕ → Type 0) → (List ℕ → Type 0) → List ℕ → Type 0
Either V W [] = ⊥
Either V W (zero ∷ us) = W us
Either V W (suc t ∷ us) = V (t ∷ us)

pub or_top : (V W : List ℕ → Type 0) (x y : Option (List ℕ)) → Top (Up V) x → Top (Zero W) y → Top (Either V W) (or x y)
or_top V W None y h k = top_map (Zero W) (Either V W) to from y k
  where
    to : (ts : List ℕ) → Zero W ts → Either V W ts
    to [] w = w
    to (zero ∷ us) w = w
    to (suc t ∷ us) w = absurd w

    from : (ts : List ℕ) → Either V W ts → Zero W ts
    from [] w = w
    from (zero ∷ us) w = w
    from (suc t ∷ us) w = h (suc t ∷ us) w
or_top V W (Some []) y h k = absurd h.0
or_top V W (Some (zero ∷ ts)) y h k = absurd h.0
or_top V W (Some (suc t ∷ ts)) y h k = (h.0, go)
  where
    go : (us : List ℕ) → Either V W us → AtMost us (suc t ∷ ts)
    go [] w = absurd w
    go (zero ∷ us) w = inl (omega arith)
    go (suc u ∷ us) w = h.1 (suc u ∷ us) w

-- ---- an item that takes
-- the first t bytes are there, and of the set
abbrev pub First : (ℕ → Bool) → ℕ → List ℕ → Type 0
First s zero cs = Unit {0}
First s (suc t) [] = ⊥
First s (suc t) (c ∷ cs) = (s c ≡ true) × First s t cs

abbrev pub Taking : (ℕ → Bool) → (ℕ → Type 0) → (List ℕ → List ℕ → Type 0) → List ℕ → List ℕ → Type 0
Taking s P W cs [] = ⊥
Taking s P W cs (t ∷ us) = First s t cs × P t × W (drop t cs) us

pub first_all : (s : ℕ → Bool) (part rest : List ℕ) → AllOf s part → First s (length part) (part ++ rest)
first_all s [] rest a = tt
first_all s (c ∷ part) rest a = (a.0, first_all s part rest a.1)

pub drop_part : (part rest : List ℕ) → drop (length part) (part ++ rest) ≡ rest
drop_part [] rest = refl
drop_part (c ∷ part) rest = drop_part part rest

pub record Cut (s : ℕ → Bool) (t : ℕ) (cs : List ℕ) : Type 0 where
  pub part : List ℕ
  pub all : AllOf s part
  pub long : length part ≡ t
  pub joins : part ++ drop t cs ≡ cs

pub cut : (s : ℕ → Bool) (t : ℕ) (cs : List ℕ) → First s t cs → Cut s t cs
cut s zero cs h = record { part = []; all = tt; long = refl; joins = refl }
cut s (suc t) [] h = absurd h
cut s (suc t) (c ∷ cs) h =
    let r = cut s t cs h.1 in
    record { part = c ∷ r.part; all = (h.0, r.all); long = ap suc r.long; joins = ap (λ l. c ∷ l) r.joins }

module _ (s : ℕ → Bool) (W : List ℕ → List ℕ → Type 0) (f : List ℕ → Option (List ℕ)) (later : (cs : List ℕ) → Top (W cs) (f cs)) where
  here : (cs : List ℕ) → Top (Zero (W cs)) (none (f cs))
  here cs = zero_top (W cs) (f cs) (later cs)

  abbrev Any : ℕ → Type 0
  Any n = Unit {0}

  many-none : (ts : List ℕ) → Zero (W []) ts → Taking s Any W [] ts
  many-none [] w = w
  many-none (zero ∷ us) w = (tt, tt, w)
  many-none (suc t ∷ us) w = absurd w

  none-many : (ts : List ℕ) → Taking s Any W [] ts → Zero (W []) ts
  none-many [] w = w
  none-many (zero ∷ us) w = w.2
  none-many (suc t ∷ us) w = absurd w.0

  many_top : (cs : List ℕ) → Top (Taking s Any W cs) (many s f cs)
  many_top [] = top_map (Zero (W [])) (Taking s Any W []) many-none none-many (none (f [])) (here [])
  many_top (c ∷ cs) = go (many_top cs) (s c) refl
    where
      go : Top (Taking s Any W cs) (many s f cs) → (b : Bool) → s c ≡ b → Top (Taking s Any W (c ∷ cs)) (or (cond b (more (many s f cs)) None) (none (f (c ∷ cs))))
      go ih true e =
          top_map (Either (Taking s Any W cs) (W (c ∷ cs))) (Taking s Any W (c ∷ cs)) to from (or (more (many s f cs)) (none (f (c ∷ cs))))
          (or_top (Taking s Any W cs) (W (c ∷ cs)) (more (many s f cs)) (none (f (c ∷ cs))) (more_top (Taking s Any W cs) (many s f cs) ih) (here (c ∷ cs)))
        where
          to : (ts : List ℕ) → Either (Taking s Any W cs) (W (c ∷ cs)) ts → Taking s Any W (c ∷ cs) ts
          to [] w = w
          to (zero ∷ us) w = (tt, tt, w)
          to (suc t ∷ us) w = ((e, w.0), tt, w.2)

          from : (ts : List ℕ) → Taking s Any W (c ∷ cs) ts → Either (Taking s Any W cs) (W (c ∷ cs)) ts
          from [] w = w
          from (zero ∷ us) w = w.2
          from (suc t ∷ us) w = (w.0.1, tt, w.2)
      go ih false e = top_map (Zero (W (c ∷ cs))) (Taking s Any W (c ∷ cs)) to from (none (f (c ∷ cs))) (here (c ∷ cs))
        where
          to : (ts : List ℕ) → Zero (W (c ∷ cs)) ts → Taking s Any W (c ∷ cs) ts
          to [] w = w
          to (zero ∷ us) w = (tt, tt, w)
          to (suc t ∷ us) w = absurd w

          from : (ts : List ℕ) → Taking s Any W (c ∷ cs) ts → Zero (W (c ∷ cs)) ts
          from [] w = w
          from (zero ∷ us) w = w.2
          from (suc t ∷ us) w = let x = w.0.0 in cc

  -- one byte, and then as g says
  abbrev Step : (List ℕ → List ℕ → Type 0) → List ℕ → List ℕ → Type 0
  Step V [] ts = ⊥
  Step V (c ∷ cs) ts = (s c ≡ true) × Up (V cs) ts

  step_top : (V : List ℕ → List ℕ → Type 0) (g : List ℕ → Option (List ℕ)) → ((cs : List ℕ) → Top (V cs) (g cs)) → (cs : List ℕ) → Top (Step V cs) (step s g cs)
  step_top V g h [] = λ ts w. w
  step_top V g h (c ∷ cs) = go (s c) refl
    where
      go : (b : Bool) → s c ≡ b → Top (Step V (c ∷ cs)) (cond b (more (g cs)) None)
      go true e = top_map (Up (V cs)) (Step V (c ∷ cs)) (λ ts w. (e, w)) (λ ts w. w.1) (more (g cs)) (more_top (V cs) (g cs) (h cs))
      go false e = λ ts w. let x = w.0 in cc

  abbrev Zeros : List ℕ → List ℕ → Type 0
  Zeros cs ts = Zero (W cs) ts

  once_to : (cs ts : List ℕ) → Step Zeros cs ts → Taking s (Count Once) W cs ts
  once_to [] ts w = absurd w
  once_to (c ∷ cs) [] w = w.1
  once_to (c ∷ cs) (zero ∷ us) w = absurd w.1
  once_to (c ∷ cs) (suc zero ∷ us) w = ((w.0, tt), refl, w.1)
  once_to (c ∷ cs) (suc (suc t) ∷ us) w = absurd w.1

  once_from : (cs ts : List ℕ) → Taking s (Count Once) W cs ts → Step Zeros cs ts
  once_from [] [] w = w
  once_from [] (zero ∷ us) w = absurd (omega (arith, w.1))
  once_from [] (suc t ∷ us) w = absurd w.0
  once_from (c ∷ cs) [] w = absurd w
  once_from (c ∷ cs) (zero ∷ us) w = absurd (omega (arith, w.1))
  once_from (c ∷ cs) (suc zero ∷ us) w = (w.0.0, w.2)
  once_from (c ∷ cs) (suc (suc t) ∷ us) w = absurd (omega (arith, w.1))

  several_to : (cs ts : List ℕ) → Step (Taking s Any W) cs ts → Taking s (Count Several) W cs ts
  several_to [] ts w = absurd w
  several_to (c ∷ cs) [] w = w.1
  several_to (c ∷ cs) (zero ∷ us) w = absurd w.1
  several_to (c ∷ cs) (suc t ∷ us) w = ((w.0, w.1.0), omega arith, w.1.2)

  several_from : (cs ts : List ℕ) → Taking s (Count Several) W cs ts → Step (Taking s Any W) cs ts
  several_from [] [] w = w
  several_from [] (zero ∷ us) w = absurd (omega (arith, w.1))
  several_from [] (suc t ∷ us) w = absurd w.0
  several_from (c ∷ cs) [] w = absurd w
  several_from (c ∷ cs) (zero ∷ us) w = absurd (omega (arith, w.1))
  several_from (c ∷ cs) (suc t ∷ us) w = (w.0.0, (w.0.1, tt, w.2))

  -- one byte or none
  abbrev Down : List ℕ → List ℕ → Type 0
  Down [] us = ⊥
  Down (c ∷ cs) us = (s c ≡ true) × Zeros cs us

  down_to : (cs ts : List ℕ) → Step Zeros cs ts → Up (Down cs) ts
  down_to [] ts w = absurd w
  down_to (c ∷ cs) [] w = w.1
  down_to (c ∷ cs) (zero ∷ us) w = w.1
  down_to (c ∷ cs) (suc t ∷ us) w = w

  down_from : (cs ts : List ℕ) → Up (Down cs) ts → Step Zeros cs ts
  down_from [] [] w = w
  down_from [] (zero ∷ us) w = w
  down_from [] (suc t ∷ us) w = w
  down_from (c ∷ cs) [] w = absurd w
  down_from (c ∷ cs) (zero ∷ us) w = absurd w
  down_from (c ∷ cs) (suc t ∷ us) w = w

  maybe_to : (cs ts : List ℕ) → Either (Down cs) (W cs) ts → Taking s (Count Maybe) W cs ts
  maybe_to cs [] w = w
  maybe_to cs (zero ∷ us) w = (tt, omega arith, w)
  maybe_to [] (suc t ∷ us) w = absurd w
  maybe_to (c ∷ cs) (suc zero ∷ us) w = ((w.0, tt), omega arith, w.1)
  maybe_to (c ∷ cs) (suc (suc t) ∷ us) w = absurd w.1

  maybe_from : (cs ts : List ℕ) → Taking s (Count Maybe) W cs ts → Either (Down cs) (W cs) ts
  maybe_from cs [] w = w
  maybe_from cs (zero ∷ us) w = w.2
  maybe_from [] (suc t ∷ us) w = w.0
  maybe_from (c ∷ cs) (suc zero ∷ us) w = (w.0.0, w.2)
  maybe_from (c ∷ cs) (suc (suc t) ∷ us) w = absurd (omega (arith, w.1))

  one-step : (cs : List ℕ) → Top (Step Zeros cs) (step s (λ r. none (f r)) cs)
  one-step cs = step_top Zeros (λ r. none (f r)) here cs

  pub taking_top : (q : Times) (cs : List ℕ) → Top (Taking s (Count q) W cs) (taken s q f cs)
  taking_top Once cs = top_map (Step Zeros cs) (Taking s (Count Once) W cs) (once_to cs) (once_from cs) (step s (λ r. none (f r)) cs) (one-step cs)
  taking_top Maybe cs =
      top_map (Either (Down cs) (W cs)) (Taking s (Count Maybe) W cs) (maybe_to cs) (maybe_from cs) (or (step s (λ r. none (f r)) cs) (none (f cs)))
      (or_top (Down cs) (W cs) (step s (λ r. none (f r)) cs) (none (f cs))
      (top_map (Step Zeros cs) (Up (Down cs)) (down_to cs) (down_from cs) (step s (λ r. none (f r)) cs) (one-step cs))
      (here cs))
  taking_top Several cs =
      top_map (Step (Taking s Any W) cs) (Taking s (Count Several) W cs) (several_to cs) (several_from cs) (step s (many s f) cs)
      (step_top (Taking s Any W) (many s f) many_top cs)
  taking_top Many cs = many_top cs

-- ---- every part of a pattern
into : {s : ℕ → Bool} {q : Times} {r : Seq} {cs ts : List ℕ} → Way (bytes s q r) cs ts → Taking s (Count q) (Way r) cs ts
into {s} {q} {r} (takes {rest = rest} {ts = ts} part a n w) =
    (first_all s part rest a, n, subst (λ (l : List ℕ). Way r l ts) (sym (drop_part part rest)) w)

out : (s : ℕ → Bool) (q : Times) (r : Seq) (cs ts : List ℕ) → Taking s (Count q) (Way r) cs ts → Way (bytes s q r) cs ts
out s q r cs [] w = absurd w
out s q r cs (t ∷ us) w =
    let p = cut s t cs w.0 in
    subst (λ (l : List ℕ). Way (bytes s q r) l (t ∷ us)) p.joins
    (subst (λ (n : ℕ). Way (bytes s q r) (p.part ++ drop t cs) (n ∷ us)) p.long
    (takes p.part p.all (subst (Count q) (sym p.long) w.1) w.2))

opened_to : (k : ℕ) (r : Seq) (cs ts : List ℕ) → Zero (Way r cs) ts → Way (opens k r) cs ts
opened_to k r cs [] w = absurd w
opened_to k r cs (zero ∷ us) w = opened w
opened_to k r cs (suc t ∷ us) w = absurd w

opened-from : {k : ℕ} {r : Seq} {cs ts : List ℕ} → Way (opens k r) cs ts → Zero (Way r cs) ts
opened-from (opened w) = w

closed_to : (k : ℕ) (r : Seq) (cs ts : List ℕ) → Zero (Way r cs) ts → Way (closes k r) cs ts
closed_to k r cs [] w = absurd w
closed_to k r cs (zero ∷ us) w = closed w
closed_to k r cs (suc t ∷ us) w = absurd w

closed_from : {k : ℕ} {r : Seq} {cs ts : List ℕ} → Way (closes k r) cs ts → Zero (Way r cs) ts
closed_from (closed w) = w

either_to : (a b r : Seq) (cs ts : List ℕ) → Either (Zero (Way (join a r) cs)) (Way (join b r) cs) ts → Way (either a b r) cs ts
either_to a b r cs [] w = absurd w
either_to a b r cs (zero ∷ us) w = right w
either_to a b r cs (suc zero ∷ us) w = left w
either_to a b r cs (suc (suc t) ∷ us) w = absurd w

either_from : {a b r : Seq} {cs ts : List ℕ} → Way (either a b r) cs ts → Either (Zero (Way (join a r) cs)) (Way (join b r) cs) ts
either_from (left w) = w
either_from (right w) = w

abbrev pub Right : Seq → Finder → Type 0
Right r k = (cs : List ℕ) → Top (Way r cs) (k cs)

pub seq_top : (p r : Seq) (k : Finder) → Right r k → Right (join p r) (best p k)
seq_top end r k h cs = h cs
seq_top (bytes s q p) r k h cs =
    top_map (Taking s (Count q) (Way (join p r)) cs) (Way (bytes s q (join p r)) cs) (out s q (join p r) cs) (λ ts w. into w) (taken s q (best p k) cs)
    (taking_top s (Way (join p r)) (best p k) (seq_top p r k h) q cs)
seq_top (opens n p) r k h cs =
    top_map (Zero (Way (join p r) cs)) (Way (opens n (join p r)) cs) (opened_to n (join p r) cs) (λ ts w. opened-from w) (none (best p k cs)) (zero_top (Way (join p r) cs) (best p k cs) (seq_top p r k h cs))
seq_top (closes n p) r k h cs =
    top_map (Zero (Way (join p r) cs)) (Way (closes n (join p r)) cs) (closed_to n (join p r) cs) (λ ts w. closed_from w) (none (best p k cs)) (zero_top (Way (join p r) cs) (best p k cs) (seq_top p r k h cs))
seq_top (either a b p) r k h cs =
    let x = seq_top a (join p r) (best p k) (seq_top p r k h) cs in
    let y = seq_top b (join p r) (best p k) (seq_top p r k h) cs in
    top_map (Either (Zero (Way (join a (join p r)) cs)) (Way (join b (join p r)) cs)) (Way (either a b (join p r)) cs) (either_to a b (join p r) cs) (λ ts w. either_from w)
    (or (more (none (best a (best p k) cs))) (none (best b (best p k) cs)))
    (or_top (Zero (Way (join a (join p r)) cs)) (Way (join b (join p r)) cs) (more (none (best a (best p k) cs))) (none (best b (best p k) cs))
    (more_top (Zero (Way (join a (join p r)) cs)) (none (best a (best p k) cs)) (zero_top (Way (join a (join p r)) cs) (best a (best p k) cs) x))
    (zero_top (Way (join b (join p r)) cs) (best b (best p k) cs) y))

end_is : {cs ts : List ℕ} → Way end cs ts → (cs ≡ []) × (ts ≡ [])
end_is done = (refl, refl)

pub end_top : Right end at_end
end_top [] = (done, λ us w. subst (λ (l : List ℕ). AtMost l []) (sym (end_is w).1) tt)
end_top (c ∷ cs) = λ ts w. let e = (end_is w).0 in cc

pub join_end : (p : Seq) → join p end ≡ p
join_end end = refl
join_end (bytes s q p) = ap (bytes s q) (join_end p)
join_end (opens k p) = ap (opens k) (join_end p)
join_end (closes k p) = ap (closes k) (join_end p)
join_end (either a b p) = ap (either a b) (join_end p)

as_finds : (p : Seq) (cs : List ℕ) (r : Option (List ℕ)) → Top (Way p cs) r → Finds p cs r
as_finds p cs None h = h
as_finds p cs (Some ts) h = record { way = h.0; greatest = h.1 }

pub best_top : (p : Seq) (cs : List ℕ) → Top (Way p cs) (best p at_end cs)
best_top p cs = subst (λ (s : Seq). Top (Way s cs) (best p at_end cs)) (join_end p) (seq_top p end at_end end_top cs)

pub best_is_match : BestIsMatch
best_is_match p cs = as_finds p cs (best p at_end cs) (best_top p cs)
