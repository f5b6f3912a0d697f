-- The readers of children and captures accept just those of the grammar.
use Rattle.std.proofs.Common.{◌≡◌, ℕ, ◌+◌, ◌-◌, ◌<◌, Bool, true, false, cond, eqb, leb, List, [], ◌∷◌, ◌++◌, length, ℤ, pos, negsuc, Ok, Result, sym, refl, ap, ◌∙◌, subst, arith}
use Rattle.std.proofs.lemmas.List.{append-nil}
use Rattle.std.proofs.lemmas.Bool.Decides.{nat_tests}
use Rattle.grammar.specs.declared.defns.BindPowerPair.{BindPowerPair}
use Rattle.grammar.specs.declared.defns.ChildIndex.{ChildIndex}
use Rattle.grammar.specs.Controls.{child_at, captured, capture_at}
use Rattle.grammar.specs.Grammar.{Path, Pair, ChildPowers, untyped, typed}
use Rattle.grammar.specs.Limits.{step_allowance}
use Rattle.grammar.specs.Numbers.{number_at, bits, numeral, int}
use Rattle.grammar.specs.Paths.{path_at, steps_of}
use Rattle.grammar.specs.Powers.{asymmetric, symmetric, pair_at}
use Rattle.grammar.specs.Readings.{Capture}
use Rattle.grammar.specs.Results.{on_ok, Fault}
use Rattle.grammar.specs.Shapes.{Shape, typed_child, typed_capture}
use Rattle.grammar.proofs.Bytes.{Each, Without, each_weaken, each_without, orb_right, without_append}
use Rattle.grammar.proofs.Chains.{by_on_ok, same_ok, refused}
use Rattle.grammar.proofs.MarksFound.{Cut, whole, parted, cut, up_to_at, whole_test, whole_take, parted_test, parted-take, parted-drop}
use Rattle.grammar.proofs.Numerals.{number_forth, number_back}
use Rattle.grammar.proofs.PathsRead.{is_path, path-without, path_forth, path-back}
use Rattle.grammar.proofs.PowersRead.{is_pair, is_powers, pair_forth, pair_back_lem, pair_bytes}

-- ---- the definition of a child where there is no bar, and at the first bar
child_whole : (place : ℕ) (cs : List ℕ) → Without 124 cs → child_at place cs ≡ on_ok (path_at place cs) (λ p. Ok (typed_child cs p.2 (symmetric 0)))
child_whole place cs h = rw (whole_test 124 cs h, whole_take 124 cs h)

abbrev behind_path : ℕ → List ℕ → List ℕ → ℕ × ℕ × ChildIndex → Result Shape Fault
behind_path place x y p = on_ok (on_ok (pair_at place y) (λ q. Ok q.1)) (λ b. Ok (typed_child x p.2 b))

child_parted : (place : ℕ) (x y : List ℕ) → Without 124 x → child_at place (x ++ 124 ∷ y) ≡ on_ok (path_at place x) (behind_path (place + (length x + 1)) x y)
child_parted place x y h = rw (parted_test 124 x y h, parted-take 124 x y h, parted-drop 124 x y h, up_to_at 124 x y h)

-- ---- what stands between `$[` and `]$`
pub record ChildRead (cs : List ℕ) (s : Shape) : Type 0 where
  pub path : List ℕ
  pub index : ChildIndex
  pub pair : BindPowerPair
  pub t : List ℕ
  pub u : List ℕ
  pub is : s ≡ typed_child path index pair
  pub text : cs ≡ 35 ∷ (t ++ u)
  pub steps : Path t (steps_of path) (bits index.0)
  pub powers : ChildPowers u pair.left pair.right
  pub few : leb (length (steps_of path)) step_allowance ≡ true

forth : (place : ℕ) (cs : List ℕ) (s : Shape) → Cut 124 cs → child_at place cs ≡ Ok s → ChildRead cs s
forth place cs s (whole h) e =
    let b = by_on_ok (path_at place cs) (λ p. Ok (typed_child cs p.2 (symmetric 0))) s (sym (child_whole place cs h) ∙ e) in
    let p = path_forth place cs b.0 b.1 in
    record {
      path = cs;
      index = b.0.2;
      pair = symmetric 0;
      t = p.0;
      u = [];
      is = sym (same_ok _ _ b.2);
      text = p.1 ∙ ap (λ (l : List ℕ). 35 ∷ l) (sym (append-nil p.0));
      steps = p.2;
      powers = untyped;
      few = p.3;
    }
forth place cs s (parted x y h) e =
    let b = by_on_ok (path_at place x) (behind_path (place + (length x + 1)) x y) s (sym (child_parted place x y h) ∙ e) in
    let p = path_forth place x b.0 b.1 in
    let c = by_on_ok (on_ok (pair_at (place + (length x + 1)) y) (λ q. Ok q.1)) (λ k. Ok (typed_child x b.0.2 k)) s b.2 in
    let q = paired (place + (length x + 1)) c.0 c.1 in
    record {
      path = x;
      index = b.0.2;
      pair = c.0;
      t = p.0;
      u = 124 ∷ y;
      is = sym (same_ok _ _ c.2);
      text = ap (λ (l : List ℕ). l ++ 124 ∷ y) p.1;
      steps = p.2;
      powers = typed q;
      few = p.3;
    }
  where
    paired : (at : ℕ) (k : BindPowerPair) → on_ok (pair_at at y) (λ q. Ok q.1) ≡ Ok k → Pair y k.left k.right
    paired at k f =
        let d = by_on_ok (pair_at at y) (λ q. Ok q.1) k f in
        subst (λ (l : BindPowerPair). Pair y l.left l.right) (same_ok _ _ d.2) (pair_forth at y d.0 d.1)

pub child_forth : (place : ℕ) (cs : List ℕ) (s : Shape) → child_at place cs ≡ Ok s → ChildRead cs s
child_forth place cs s e = forth place cs s (cut 124 cs) e

pub record ChildFound (place : ℕ) (t u s : List ℕ) (i l r : ℕ) : Type 0 where
  pub path : List ℕ
  pub reads : child_at place (35 ∷ (t ++ u)) ≡ Ok (typed_child path (record { 0 = int i }) (asymmetric l r))
  pub steps : steps_of path ≡ s

pub child_back : (place : ℕ) {t u s : List ℕ} {i l r : ℕ} → Path t s i → ChildPowers u l r → leb (length s) step_allowance ≡ true → ChildFound place t u s i l r
child_back place {t} {u} {s} {i} p untyped h =
    let f = path-back place p h in
    let clear : Without 124 (35 ∷ t) = (refl, path-without 124 refl p) in
    record {
      path = 35 ∷ t;
      reads = rw (append-nil t) (child_whole place (35 ∷ t) clear ∙ rw f.1 (ap (λ (x : ChildIndex). Ok (typed_child (35 ∷ t) x (symmetric 0))) f.2));
      steps = f.3;
    }
child_back place {t} {u} {s} {i} {l} {r} p (typed {t = y} q) h =
    let f = path-back place p h in
    let clear : Without 124 (35 ∷ t) = (refl, path-without 124 refl p) in
    let k = pair_back_lem (place + (length (35 ∷ t) + 1)) q in
    record {
      path = 35 ∷ t;
      reads = child_parted place (35 ∷ t) y clear ∙ rw f.1 (rw k.1 (ap (λ (x : ChildIndex). Ok (typed_child (35 ∷ t) x (asymmetric l r))) f.2));
      steps = f.3;
    }

-- ---- the bytes of a child
pub child_powers-bytes : {u : List ℕ} {l r : ℕ} → ChildPowers u l r → Each is_powers u
child_powers-bytes untyped = tt
child_powers-bytes (typed {t = t} p) = (refl, each_weaken is_pair is_powers (λ c. orb_right (eqb c 124) (is_pair c)) t (pair_bytes p))

pub child_without : (m : ℕ) → eqb 35 m ≡ false → is_path m ≡ false → is_powers m ≡ false → {t u s : List ℕ} {i l r : ℕ} → Path t s i → ChildPowers u l r → Without m (35 ∷ (t ++ u))
child_without m a b c {t} {u} p q = (a, without_append m t u (path-without m b p) (each_without is_powers m c u (child_powers-bytes q)))

-- ---- what stands between `${` and `}$`
pub record CaptureRead (cs : List ℕ) (s : Shape) : Type 0 where
  pub n : ℕ
  pub is : s ≡ typed_capture n
  pub text : cs ≡ numeral n
  pub small : Capture n

below : (n : ℕ) → pos n ≡ int n → Capture n
below n e = go (leb n 2147483647) refl e
  where
    go : (b : Bool) → leb n 2147483647 ≡ b → pos n ≡ cond b (pos n) (negsuc (4294967295 - n)) → n < 2147483648
    go true p q = grind (arith, nat_tests)
    go false p q = let z : ◌≡◌ {A = ℕ} 0 1 = cc in absurd (omega arith)

capture_of : (place : ℕ) (cs : List ℕ) (s : Shape) (z : ℤ) → (cs ≡ numeral (bits z)) × (bits z < 4294967296) × (z ≡ int (bits z)) → captured place cs z ≡ Ok s → CaptureRead cs s
capture_of place cs s (pos n) t e = record { n = n; is = sym (same_ok _ _ e); text = t.0; small = below n t.2 }
capture_of place cs s (negsuc n) t e = refused _ _ e

pub capture_forth : (place : ℕ) (cs : List ℕ) (s : Shape) → capture_at place cs ≡ Ok s → CaptureRead cs s
capture_forth place cs s e =
    let b = by_on_ok (number_at place cs) (captured place cs) s e in
    capture_of place cs s b.0 (number_forth place cs b.0 b.1) b.2

pub capture_back : (place n : ℕ) → Capture n → capture_at place (numeral n) ≡ Ok (typed_capture n)
capture_back place n h =
    let small : leb n 2147483647 ≡ true = grind (arith, nat_tests) in
    let is : int n ≡ pos n = rw small in
    rw (number_back place n (omega arith), is)
