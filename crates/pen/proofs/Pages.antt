-- Bytes written one behind the other.
use Rattle.std.proofs.Common.{◌≡◌, ℕ, ◌+◌, ◌-◌, ◌≤◌, ◌<◌, true, false, leb, List, [], ◌∷◌, ◌++◌, length, take, drop, Ok, Err, Result, is_ok, IsErrAnd, set, sym, refl, ap, subst, ◌∙◌, ⊎_elim, append_assoc, arith, length-append, length-drop}
use Rattle.std.proofs.str.Laws.{order}
use Rattle.std.proofs.lemmas.Bool.{le-leb}
use Rattle.std.proofs.lemmas.Bool.Decides.{nat_tests}
use Rattle.std.proofs.lemmas.Result.{err_from_is_err_and}
use Rattle.std.proofs.lemmas.List.{length-set, length-take, take_all, take_more_set, drop-set-lt, drop_all, drop-drop, append-nil, take-append-le}
use Rattle.std.proofs.Math.Seq.{take-append-add}
use Rattle.pen.specs.Pen.{Page, writes, page, Wrote}
use Rattle.pen.specs.declared.writing.Full.{Full}
use Rattle.pen.specs.declared.writing.Pen.{Pen}

-- ---- a page stays as long as it was
pub writes-length : (bs : List ℕ) (p : Page) → length (writes bs p).written + length (writes bs p).rest ≡ length p.written + length p.rest
writes-length bs p = omega (arith, length-append p.written (take (length p.rest) bs), length-take (length p.rest) bs, length-drop (length bs) p.rest)

-- ---- more bytes behind the first ones
module _ (p : Page) (u v : List ℕ) where
  left_over : length (drop (length u) p.rest) ≡ length p.rest - length u
  left_over = length-drop (length u) p.rest

  -- as many of both as there is room for
  taken : take (length p.rest) u ++ take (length (drop (length u) p.rest)) v ≡ take (length p.rest) (u ++ v)
  taken = ⊎_elim none some (order (length p.rest) (length u))
    where
      none : length p.rest < length u → take (length p.rest) u ++ take (length (drop (length u) p.rest)) v ≡ take (length p.rest) (u ++ v)
      none h =
          let e : length (drop (length u) p.rest) ≡ 0 = omega (arith, left_over) in
          ap (λ k. take (length p.rest) u ++ take k v) e ∙ append-nil (take (length p.rest) u) ∙ sym (take-append-le (length p.rest) u v (omega arith))

      some : length u ≤ length p.rest → take (length p.rest) u ++ take (length (drop (length u) p.rest)) v ≡ take (length p.rest) (u ++ v)
      some h =
          let k = length (drop (length u) p.rest) in
          let e : length p.rest ≡ length u + k = omega (arith, left_over) in
          ap (λ l. l ++ take k v) (take_all (length p.rest) u h) ∙ sym (ap (λ n. take n (u ++ v)) e ∙ take-append-add u v k)

  -- both at once, whether or not there is room for them
  pub writes_more : writes v (writes u p) ≡ writes (u ++ v) p
  writes_more =
      let t = append_assoc p.written (take (length p.rest) u) (take (length (drop (length u) p.rest)) v) ∙ ap (λ l. p.written ++ l) taken in
      let d : drop (length v) (drop (length u) p.rest) ≡ drop (length (u ++ v)) p.rest = drop-drop (length v) (length u) p.rest ∙ ap (λ n. drop n p.rest) (sym (length-append u v)) in
      λ i. record { written = t i; rest = d i }

  -- where the first ones have no room, more ones change nothing
  pub writes_full : length p.rest < length u → writes u p ≡ writes (u ++ v) p
  writes_full h =
      let t : take (length p.rest) u ≡ take (length p.rest) (u ++ v) = sym (take-append-le (length p.rest) u v (omega arith)) in
      let d : drop (length u) p.rest ≡ drop (length (u ++ v)) p.rest = drop_all (length u) p.rest (omega arith) ∙ sym (drop_all (length (u ++ v)) p.rest (omega (arith, length-append u v))) in
      λ i. record { written = p.written ++ t i; rest = d i }

  pub room_more : length u ≤ length p.rest → leb (length v) (length (drop (length u) p.rest)) ≡ leb (length (u ++ v)) (length p.rest)
  room_more h = grind (arith, nat_tests, left_over, length-append u v)

  pub room_full : length p.rest < length u → false ≡ leb (length (u ++ v)) (length p.rest)
  room_full h = grind (arith, nat_tests, length-append u v)

-- ---- the pages of two pens
has_room : {p q : Pen} {u : List ℕ} {r : Result (Unit {0}) Full} → Wrote p q u r → is_ok r ≡ true → length u ≤ length (page p).rest
has_room w e = let h = sym w.answer ∙ e in grind (arith, nat_tests)

no_room : {p q : Pen} {u : List ℕ} {r : Result (Unit {0}) Full} → Wrote p q u r → is_ok r ≡ false → length (page p).rest < length u
no_room w e = let h = sym w.answer ∙ e in grind (arith, nat_tests)

module _ {p q : Pen} {u : List ℕ} where
  -- the first bytes had room, and more were written behind them
  pub then : {s : Pen} {v : List ℕ} {r : Result (Unit {0}) Full} {x : Unit {0}} → Wrote p q u (Ok x) → Wrote q s v r → Wrote p s (u ++ v) r
  then {s} {v} {r} a b =
      let h = has_room a refl in
      record {
        same = b.same ∙ a.same;
        bytes = b.bytes ∙ ap (writes v) a.bytes ∙ writes_more (page p) u v;
        answer = b.answer ∙ ap (λ (g : Page). leb (length v) (length g.rest)) a.bytes ∙ room_more (page p) u v h;
      }

  -- the first bytes had no room
  pub full : (v : List ℕ) {e : Full} {r : Result (Unit {0}) Full} → Wrote p q u (Err e) → IsErrAnd r (λ y. y ≡ e) → Wrote p q (u ++ v) r
  full v {r = r} a f =
      let h = no_room a refl in
      record { same = a.same; bytes = a.bytes ∙ writes_full (page p) u v h; answer = ap is_ok (err_from_is_err_and r f).1 ∙ room_full (page p) u v h }

-- what is written then, where all had room
pub all_written : {p q : Pen} {u : List ℕ} {r : Result (Unit {0}) Full} → Wrote p q u r → is_ok r ≡ true → (page q).written ≡ (page p).written ++ u
all_written {p} {u = u} w e =
    let h = has_room w e in
    ap (λ (g : Page). g.written) w.bytes ∙ ap (λ l. (page p).written ++ l) (take_all (length (page p).rest) u h)

-- ---- one byte, and none
module _ (l : List ℕ) (at : ℕ) (b : ℕ) where
  abbrev cut : Page
  cut = record { written = take at l; rest = drop at l }

  pub byte_page : at < length l → ◌≡◌ {A = Page} (record { written = take (at + 1) (set l at b); rest = drop (at + 1) (set l at b) }) (writes (b ∷ []) cut)
  byte_page h =
      let t : take (at + 1) (set l at b) ≡ take at l ++ take (length (drop at l)) (b ∷ []) = take_more_set l at b h ∙ sym (ap (λ k. take at l ++ k) (take_all (length (drop at l)) (b ∷ []) (omega (arith, length-drop at l)))) in
      let d : drop (at + 1) (set l at b) ≡ drop 1 (drop at l) = drop-set-lt (at + 1) l at b (omega arith) ∙ sym (drop-drop 1 at l) in
      λ i. record { written = t i; rest = d i }

  pub byte_room : at < length l → true ≡ leb 1 (length (drop at l))
  byte_room h = grind (arith, nat_tests, length-drop at l)

-- ---- two bytes at once
module _ (l : List ℕ) (at : ℕ) (a b : ℕ) where
  pub pair_page : at + 2 ≤ length l → ◌≡◌ {A = Page} (record { written = take (at + 2) (set (set l at a) (at + 1) b); rest = drop (at + 2) (set (set l at a) (at + 1) b) }) (writes (a ∷ b ∷ []) (record { written = take at l; rest = drop at l }))
  pair_page h =
      let two : at + 2 ≡ at + 1 + 1 = omega arith in
      let first = byte_page l at a (omega arith) in
      let second = byte_page (set l at a) (at + 1) b (omega (arith, length-set l at a)) in
      rw two (second ∙ ap (writes (b ∷ [])) first ∙ writes_more (record { written = take at l; rest = drop at l }) (a ∷ []) (b ∷ []))

  pub pair_room : at + 2 ≤ length l → true ≡ leb 2 (length (drop at l))
  pair_room h = grind (arith, nat_tests, length-drop at l)

same-written : (g : Page) → g ≡ writes [] g
same-written g =
    let t : g.written ≡ g.written ++ take (length g.rest) [] = sym (ap (λ l. g.written ++ l) (take_all (length g.rest) [] (omega arith)) ∙ append-nil g.written) in
    λ i. record { written = t i; rest = g.rest }

pub nothing : (p : Pen) {x : Unit {0}} → Wrote p p [] (Ok x)
nothing p = record { same = refl; bytes = same-written (page p); answer = sym (le-leb 0 (length (page p).rest) (omega arith)) }

-- ---- bytes that are written piece by piece: what is left to write gives the whole
pub record Goes (old : Pen) (whole : List ℕ) (new : Pen) (left : List ℕ) : Type 0 where
  pub on : (s : Pen) (r : Result (Unit {0}) Full) → Wrote new s left r → Wrote old s whole r

pub begun : (p : Pen) {whole left : List ℕ} → left ≡ whole → Goes p whole p left
begun p e = record { on = λ s r w. subst (λ l. Wrote p s l r) e w }

module _ {p q : Pen} {whole left : List ℕ} (g : Goes p whole q left) where
  pub more : {s : Pen} (u v : List ℕ) {x : Unit {0}} → left ≡ u ++ v → Wrote q s u (Ok x) → Goes p whole s v
  more {s} u v e w = record { on = λ t r k. g.on t r (subst (λ l. Wrote q t l r) (sym e) (then w k)) }

  pub stops : {s : Pen} (u v : List ℕ) {e : Full} {r : Result (Unit {0}) Full} → left ≡ u ++ v → Wrote q s u (Err e) → IsErrAnd r (λ y. y ≡ e) → Wrote p s whole r
  stops {s} u v {e} {r} h w f = g.on s r (subst (λ l. Wrote q s l r) (sym h) (full v w f))

  pub ends : {x : Unit {0}} → left ≡ [] → Wrote p q whole (Ok x)
  ends {x} e = g.on q (Ok x) (subst (λ l. Wrote q q l (Ok x)) (sym e) (nothing q))
