-- The reader of repeats accepts just the repeats of the grammar.
use Rattle.std.proofs.Common.{◌≡◌, ℕ, ◌+◌, Bool, true, false, cond, eqb, leb, List, [], ◌∷◌, ◌++◌, length, take, drop, Some, None, Ok, Option, sym, refl, ap, ◌∙◌, subst, ap₂, append_assoc, append-nil, arith}
use Rattle.std.proofs.lemmas.List.{drop-drop, drop_all, take-append-drop}
use Rattle.std.proofs.lemmas.Bool.{eqb-true, eqb-false, eq-eqb}
use Rattle.refusal.specs.declared.error.FormatterError.TheVariants.{MissingRange}
use Rattle.grammar.specs.declared.defns.ChildIndex.{ChildIndex}
use Rattle.grammar.specs.Controls.{Range, range_at, repeat_powers, repeat_parts, Parts, repeated, front_at, repeat_at}
use Rattle.grammar.specs.Grammar.{Path, Powers}
use Rattle.grammar.specs.Limits.{step_allowance}
use Rattle.grammar.specs.Marks.{up_to, first_mark, halve, closes}
use Rattle.grammar.specs.Numbers.{bits, numeral, int}
use Rattle.grammar.specs.Paths.{index_at, path_at, steps_of}
use Rattle.grammar.specs.Powers.{Triple, symmetric, asymmetric, powers_at}
use Rattle.grammar.specs.Readings.{Index, RepeatOf}
use Rattle.grammar.specs.Results.{on_ok, on_some, refusal}
use Rattle.grammar.specs.Shapes.{TypedRepeat, Shape, typed_repeat}
use Rattle.grammar.proofs.Bytes.{Without, without_append}
use Rattle.grammar.proofs.Chains.{by_on_ok, same_ok, refused}
use Rattle.grammar.proofs.MarksFound.{mark_found, mark_stands, take_front, drop_front, drop_behind}
use Rattle.grammar.proofs.Numerals.{bits-int, index_forth, index_back, numeral-without}
use Rattle.grammar.proofs.PartsRead.{Starts, front_short, up_to_front, drop-up_to, parts_forth, parts-back, separators_start, SeparatorsRead}
use Rattle.grammar.proofs.PathsRead.{path_forth, path-back, path-without}
use Rattle.grammar.proofs.PowersRead.{powers_forth, powers_back_lem, powers_without, PowersBegin, absent, barred, powers_begin}
use Rattle.grammar.proofs.Unread.{Raw, unread_repeat}

-- ---- what stands before a mark of two bytes, and behind it
pub behind_mark_lem : (a b : ℕ) (inside rest : List ℕ) → drop (length inside + 2) (inside ++ a ∷ b ∷ rest) ≡ rest
behind_mark_lem a b inside rest = sym (drop-drop 2 (length inside) (inside ++ a ∷ b ∷ rest)) ∙ ap (drop 2) (drop_front inside (a ∷ b ∷ rest))

pub mark_cut : (a b : ℕ) (cs : List ℕ) (n : ℕ) → first_mark a b 0 cs ≡ Some n → (cs ≡ take n cs ++ a ∷ b ∷ drop (n + 2) cs) × (length (take n cs) ≡ n)
mark_cut a b cs n e =
    let m = mark_stands a b 0 cs n e in
    let long : n ≡ length m.inside = omega (arith, m.long) in
    go m.inside m.rest m.is long
  where
    go : (inside rest : List ℕ) → cs ≡ inside ++ a ∷ b ∷ rest → n ≡ length inside → (cs ≡ take n cs ++ a ∷ b ∷ drop (n + 2) cs) × (length (take n cs) ≡ n)
    go inside rest is long = rw (is, long) (rw (take_front inside (a ∷ b ∷ rest), behind_mark_lem a b inside rest) (refl, refl))

-- ---- the range
pub record RangeRead (cs : List ℕ) (r : Range) : Type 0 where
  pub path : List ℕ
  pub is : cs ≡ 35 ∷ path ++ 46 ∷ 46 ∷ numeral (bits r.2.0)
  pub steps : Path path (steps_of r.0) (bits r.1.0)
  pub few : leb (length (steps_of r.0)) step_allowance ≡ true
  pub index : Index (bits r.2.0)

range_parts : (place : ℕ) (cs : List ℕ) (r : Range) (front back : List ℕ) (behind : ℕ) → cs ≡ front ++ 46 ∷ 46 ∷ back
    → on_ok (path_at place front) (λ p. on_ok (index_at behind back) (λ to. Ok (front, p.2, to))) ≡ Ok r → RangeRead cs r
range_parts place cs r front back behind is e =
    let b = by_on_ok (path_at place front) (λ p. on_ok (index_at behind back) (λ to. Ok (front, p.2, to))) r e in
    let d = by_on_ok (index_at behind back) (λ to. Ok (front, b.0.2, to)) r b.2 in
    let p = path_forth place front b.0 b.1 in
    let i = index_forth behind back d.0 d.1 in
    subst (RangeRead cs) (same_ok _ _ d.2)
    (record { path = p.0; is = is ∙ ap₂ (λ x y. x ++ 46 ∷ 46 ∷ y) p.1 i.0; steps = p.2; few = p.3; index = i.1 })

pub range_forth : (place : ℕ) (cs : List ℕ) (r : Range) → range_at place cs ≡ Ok r → RangeRead cs r
range_forth place cs r e = go (first_mark 46 46 0 cs) refl e
  where
    go : (o : Option ℕ) → first_mark 46 46 0 cs ≡ o
        → on_some o (refusal MissingRange place (length cs)) (λ at. on_ok (path_at place (take at cs)) (λ p. on_ok (index_at (place + (at + 2)) (drop (at + 2) cs)) (λ to. Ok (take at cs, p.2, to)))) ≡ Ok r → RangeRead cs r
    go None p q = refused _ _ q
    go (Some at) p q = range_parts place cs r (take at cs) (drop (at + 2) cs) (place + (at + 2)) (mark_cut 46 46 cs at p).0 q

range_at_lem : (place at : ℕ) (cs front back : List ℕ) (p : ℕ × ℕ × ChildIndex) (t : ChildIndex) → first_mark 46 46 0 cs ≡ Some at → take at cs ≡ front → drop (at + 2) cs ≡ back
    → path_at place front ≡ Ok p → index_at (place + (at + 2)) back ≡ Ok t → range_at place cs ≡ Ok (front, p.2, t)
range_at_lem place at cs front back p t m f b x y = rw (m, f, x, b, y)

pub range_back : (place : ℕ) (path s : List ℕ) (from to : ℕ) → Path path s from → leb (length s) step_allowance ≡ true → Index to
    → range_at place (35 ∷ path ++ 46 ∷ 46 ∷ numeral to) ≡ Ok (35 ∷ path, record { 0 = int from }, record { 0 = int to })
range_back place path s from to p few i =
    let n = length (35 ∷ path) in
    let m = mark_found 46 46 0 (35 ∷ path) (numeral to) (refl, path-without 46 refl p) in
    let none : 0 + n ≡ n = omega arith in
    let f = path-back place p few in
    range_at_lem place n (35 ∷ path ++ 46 ∷ 46 ∷ numeral to) (35 ∷ path) (numeral to) f.0 (record { 0 = int to }) (m ∙ ap (λ (k : ℕ). Some k) none)
    (take_front (35 ∷ path) (46 ∷ 46 ∷ numeral to)) (behind_mark_lem 46 46 (35 ∷ path) (numeral to)) f.1 (index_back (place + (n + 2)) to i)
    ∙ ap (λ (x : ChildIndex). Ok (35 ∷ path, x, record { 0 = int to })) f.2

-- ---- range and powers
abbrev PowersRead : List ℕ → Triple → Type 0
PowersRead t p = Powers t p.0 p.1.left p.1.right p.2

begin_start : {cs : List ℕ} {a b c d : ℕ} → PowersBegin cs a b c d → Starts 124 cs
begin_start absent = tt
begin_start (barred p) = refl

front_at_lem : (place n : ℕ) (head front : List ℕ) (r : Range) (t : Triple) → up_to 124 head ≡ n → take n head ≡ front → range_at place front ≡ Ok r → repeat_powers place head n ≡ Ok t → front_at place head ≡ Ok (r, t)
front_at_lem place n head front r t u f x y = rw (u, f, x, y)

-- ---- a repeat
pub record RepeatRead (cs : List ℕ) (s : Shape) : Type 0 where
  pub typed : TypedRepeat
  pub shape : s ≡ typed_repeat typed
  pub inside : List ℕ
  pub is : cs ≡ 35 ∷ inside
  pub raw : closes inside ≡ false → Raw inside (steps_of typed.path) (unread_repeat typed)
  pub few : leb (length (steps_of typed.path)) step_allowance ≡ true

regroup : (a b c d : List ℕ) → ((a ++ b) ++ c) ++ d ≡ a ++ (b ++ (c ++ d))
regroup a b c d = append_assoc (a ++ b) c d ∙ append_assoc a b (c ++ d)

repeat_made : (cs front powers sep : List ℕ) (r : Range) (t : Triple) (p : Parts) → cs ≡ (front ++ powers) ++ sep → RangeRead front r → PowersRead powers t → SeparatorsRead sep p
    → RepeatRead cs (repeated r t p)
repeat_made cs front powers sep r t p is f g h =
    let to = 46 ∷ 46 ∷ numeral (bits r.2.0) in
    record {
      typed = record { path = r.0; from = r.1; to = r.2; left = t.0; middle = t.1; right = t.2; left_sep = p.0; middle_sep = p.1; right_sep = p.2 };
      shape = refl;
      inside = f.path ++ (to ++ (powers ++ sep));
      is = is ∙ ap (λ (l : List ℕ). (l ++ powers) ++ sep) f.is ∙ regroup (35 ∷ f.path) to powers sep;
      raw = λ k. record { path = f.path; powers = powers; separators = sep; is = refl; first = k; steps = f.steps; index = f.index; given = g; three = h };
      few = f.few;
    }

repeat_at_lem : (place n : ℕ) (cs head : List ℕ) (f : Range × Triple) (s : Parts) → up_to 36 cs ≡ n → take n cs ≡ head → front_at place head ≡ Ok f → repeat_parts place cs n ≡ Ok s → repeat_at place cs ≡ Ok (repeated f.0 f.1 s)
repeat_at_lem place n cs head f s u t x y = rw (u, t, x, y)

pub path_index : {t s : List ℕ} {i : ℕ} → Path t s i → Index i
path_index (Path.last h) = h
path_index (Path.step h p) = path_index p

pub record RepeatFound (place : ℕ) (t s : List ℕ) (x : RepeatOf (List ℕ)) : Type 0 where
  pub typed : TypedRepeat
  pub reads : repeat_at place (35 ∷ t) ≡ Ok (typed_repeat typed)
  pub steps : steps_of typed.path ≡ s
  pub means : unread_repeat typed ≡ x

-- what is typed of a repeat that reads as x
abbrev typed_as : List ℕ → RepeatOf (List ℕ) → Parts → TypedRepeat
typed_as path x p = record {
  path = 35 ∷ path;
  from = record { 0 = int x.from };
  to = record { 0 = int x.to };
  left = x.left;
  middle = asymmetric x.middle_left x.middle_right;
  right = x.right;
  left_sep = p.0;
  middle_sep = p.1;
  right_sep = p.2;
}

unread_same : (y : TypedRepeat) (x : RepeatOf (List ℕ)) → bits y.from.0 ≡ x.from → bits y.to.0 ≡ x.to → y.left ≡ x.left → y.middle.left ≡ x.middle_left → y.middle.right ≡ x.middle_right → y.right ≡ x.right
    → halve 124 y.left_sep ≡ x.before → halve 124 y.middle_sep ≡ x.between → halve 124 y.right_sep ≡ x.behind → unread_repeat y ≡ x
unread_same y x a b c d e f g h k = λ j. record { from = a j; to = b j; left = c j; middle_left = d j; middle_right = e j; right = f j; before = g j; between = h j; behind = k j }

given_forth : (place : ℕ) (head : List ℕ) (t : Triple) → repeat_powers place head (up_to 124 head) ≡ Ok t → PowersRead (drop (up_to 124 head) head) t
given_forth place head t e = go (eqb (up_to 124 head) (length head)) refl e
  where
    go : (b : Bool) → eqb (up_to 124 head) (length head) ≡ b → cond b (Ok (0, symmetric 0, 0)) (powers_at (place + (up_to 124 head + 1)) (drop (up_to 124 head + 1) head)) ≡ Ok t → PowersRead (drop (up_to 124 head) head) t
    go true p q =
        let l = eqb-true _ _ p in
        subst (λ (x : List ℕ). PowersRead x t) (sym (drop_all (up_to 124 head) head (omega arith))) (subst (PowersRead []) (same_ok _ _ q) Powers.none)
    go false p q = subst (λ (x : List ℕ). PowersRead x t) (sym (drop-up_to 124 head (eqb-false _ _ p))) (powers_forth (place + (up_to 124 head + 1)) (drop (up_to 124 head + 1) head) t q)

typed_back : (place : ℕ) (front cs : List ℕ) (a b c d : ℕ) → Powers (124 ∷ cs) a b c d → repeat_powers place (front ++ 124 ∷ cs) (length front) ≡ Ok (a, asymmetric b c, d)
typed_back place front cs a b c d p =
    let short = front_short front 124 cs in
    rw (short, drop_behind front cs 124) (powers_back_lem (place + (length front + 1)) p)

given_back : (place : ℕ) (front cs : List ℕ) (a b c d : ℕ) → PowersBegin cs a b c d → repeat_powers place (front ++ cs) (length front) ≡ Ok (a, asymmetric b c, d)
given_back place front cs a b c d absent = let same : eqb (length front) (length (front ++ [])) ≡ true = eq-eqb _ _ (sym (ap length (append-nil front))) in rw same
given_back place front cs a b c d (barred {cs = t} p) = typed_back place front t a b c d p

front_forth : (place : ℕ) (head : List ℕ) (f : Range × Triple) → front_at place head ≡ Ok f → RangeRead (take (up_to 124 head) head) f.0 × PowersRead (drop (up_to 124 head) head) f.1
front_forth place head f e =
    let b = by_on_ok (range_at place (take (up_to 124 head) head)) (λ r. on_ok (repeat_powers place head (up_to 124 head)) (λ t. Ok (r, t))) f e in
    let d = by_on_ok (repeat_powers place head (up_to 124 head)) (λ t. Ok (b.0, t)) f b.2 in
    subst (λ (g : Range × Triple). RangeRead (take (up_to 124 head) head) g.0 × PowersRead (drop (up_to 124 head) head) g.1) (same_ok _ _ d.2)
    (range_forth place (take (up_to 124 head) head) b.0 b.1, given_forth place head d.0 d.1)

front_back : (place : ℕ) (front cs : List ℕ) (a b c d : ℕ) (r : Range) → Without 124 front → range_at place front ≡ Ok r → Powers cs a b c d → front_at place (front ++ cs) ≡ Ok (r, (a, asymmetric b c, d))
front_back place front cs a b c d r w e p =
    front_at_lem place (length front) (front ++ cs) front r (a, asymmetric b c, d) (up_to_front 124 front cs w (begin_start (powers_begin p))) (take_front front cs) e (given_back place front cs a b c d (powers_begin p))

pub repeat_forth : (place : ℕ) (cs : List ℕ) (s : Shape) → repeat_at place cs ≡ Ok s → RepeatRead cs s
repeat_forth place cs s e =
    let n = up_to 36 cs in
    let head = take (up_to 36 cs) cs in
    let b = by_on_ok (front_at place (take (up_to 36 cs) cs)) (λ f. on_ok (repeat_parts place cs (up_to 36 cs)) (λ p. Ok (repeated f.0 f.1 p))) s e in
    let d = by_on_ok (repeat_parts place cs (up_to 36 cs)) (λ p. Ok (repeated b.0.0 b.0.1 p)) s b.2 in
    let f = front_forth place (take (up_to 36 cs) cs) b.0 b.1 in
    let is : cs ≡ (take (up_to 124 head) head ++ drop (up_to 124 head) head) ++ drop n cs = sym (ap (λ (l : List ℕ). l ++ drop n cs) (take-append-drop (up_to 124 head) head) ∙ take-append-drop n cs) in
    subst (RepeatRead cs) (same_ok _ _ d.2) (repeat_made cs (take (up_to 124 head) head) (drop (up_to 124 head) head) (drop n cs) b.0.0 b.0.1 d.0 is f.0 f.1 (parts_forth place cs d.0 d.1))

front_without : {path s powers : List ℕ} {from to a b c d : ℕ} → Path path s from → Index to → Powers powers a b c d → Without 36 ((35 ∷ path ++ 46 ∷ 46 ∷ numeral to) ++ powers)
front_without {path} {s} {powers} {from} {to} {a} {b} {c} {d} p i g =
    without_append 36 (35 ∷ path ++ 46 ∷ 46 ∷ numeral to) powers
    (without_append 36 (35 ∷ path) (46 ∷ 46 ∷ numeral to) (refl, path-without 36 refl p) (refl, (refl, numeral-without 36 refl to i.0))) (powers_without 36 refl g)

pub repeat_back_lem : (place : ℕ) (t s : List ℕ) (x : RepeatOf (List ℕ)) → Raw t s x → leb (length s) step_allowance ≡ true → RepeatFound place t s x
repeat_back_lem place t s x g few =
    let front = 35 ∷ g.path ++ 46 ∷ 46 ∷ numeral x.to in
    let head = front ++ g.powers in
    let r = range_back place g.path s x.from x.to g.steps few g.index in
    let w = without_append 124 (35 ∷ g.path) (46 ∷ 46 ∷ numeral x.to) (refl, path-without 124 refl g.steps) (refl, (refl, numeral-without 124 refl x.to g.index.0)) in
    let f = front_back place front g.powers x.left x.middle_left x.middle_right x.right (35 ∷ g.path, record { 0 = int x.from }, record { 0 = int x.to }) w r g.given in
    let q = parts-back place head g.separators x.before x.between x.behind g.three in
    let is : head ++ g.separators ≡ 35 ∷ t = regroup (35 ∷ g.path) (46 ∷ 46 ∷ numeral x.to) g.powers g.separators ∙ ap (λ (l : List ℕ). 35 ∷ l) (sym g.is) in
    let y = repeat_at_lem place (length head) (head ++ g.separators) head _ q.parts (up_to_front 36 head g.separators (front_without g.steps g.index g.given) (separators_start g.three)) (take_front head g.separators) f q.reads in
    record {
      typed = typed_as g.path x q.parts;
      reads = subst (λ (l : List ℕ). repeat_at place l ≡ Ok (typed_repeat (typed_as g.path x q.parts))) is y;
      steps = (path-back place g.steps few).3;
      means = unread_same (typed_as g.path x q.parts) x (bits-int x.from (path_index g.steps).0) (bits-int x.to g.index.0) refl refl refl refl q.before q.between q.behind;
    }
