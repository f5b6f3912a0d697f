-- Words and bytes are read back, and nothing else is.
use Rattle.std.proofs.Common.{◌≡◌, ℕ, ◌+◌, ◌*◌, ◌/◌, ◌%◌, ◌≤◌, Bool, true, false, cond, ◌&&◌, eqb, leb, List, [], ◌∷◌, Some, None, Option, refl, ap, ◌∙◌, arith}
use Rattle.std.proofs.lemmas.Bool.Decides.{nat_tests}
use Rattle.grammar.proofs.Chains.{nothing as none, same_some}
use Rattle.grammar.specs.Readings.{Byte, Power, Index, Capture}
use Rattle.codes.specs.Code.{word}
use Rattle.codes.specs.Decode.{on_some, Got, given, word_at, byte_at, index_at, capture_at}

pub by_on_some : {A B : Type 0} (m : Option A) (f : A → Option B) (r : B) → on_some m f ≡ Some r → (v : A) × (m ≡ Some v) × (f v ≡ Some r)
by_on_some None f r e = none r e
by_on_some (Some v) f r e = (v, refl, e)

-- what is in P is read back from the form w, and nothing else is
pub record Inverse {A : Type 0} (at : List ℕ → Got A) (w : A → List ℕ → List ℕ) (P : A → Type 0) : Type 0 where
  pub forth : (cs : List ℕ) (x : A) (rest : List ℕ) → at cs ≡ Some (x, rest) → (cs ≡ w x rest) × P x
  pub back : (x : A) (rest : List ℕ) → P x → at (w x rest) ≡ Some (x, rest)

by_given : {A : Type 0} (b : Bool) (v : A) (cs : List ℕ) (x : A) (rest : List ℕ) → given b v cs ≡ Some (x, rest) → (b ≡ true) × (v ≡ x) × (cs ≡ rest)
by_given true v cs x rest e = let p = same_some _ _ e in (refl, ap (λ (q : _ × List ℕ). q.0) p, ap (λ (q : _ × List ℕ). q.1) p)
by_given false v cs x rest e = none _ e

word_forth : (cs : List ℕ) (x : ℕ) (rest : List ℕ) → word_at cs ≡ Some (x, rest) → (cs ≡ word x rest) × Power x
word_forth [] x rest e = none _ e
word_forth (a ∷ []) x rest e = none _ e
word_forth (a ∷ b ∷ []) x rest e = none _ e
word_forth (a ∷ b ∷ c ∷ []) x rest e = none _ e
word_forth (a ∷ b ∷ c ∷ d ∷ cs) x rest e =
    let g = by_given (leb a 255 && (leb b 255 && (leb c 255 && leb d 255))) _ cs x rest e in
    let t = g.0 in
    let n = g.1 in
    let f : (a ≤ 255) × (b ≤ 255) × (c ≤ 255) × (d ≤ 255) = grind (arith, nat_tests) in
    let p : a ≡ x / 16777216 = omega arith in
    let q : b ≡ x / 65536 % 256 = omega arith in
    let r : c ≡ x / 256 % 256 = omega arith in
    let s : d ≡ x % 256 = omega arith in
    ((λ i. p i ∷ q i ∷ r i ∷ s i ∷ g.2 i), omega arith)

word_back : (x : ℕ) (rest : List ℕ) → Power x → word_at (word x rest) ≡ Some (x, rest)
word_back x rest h =
    let a : leb (x / 16777216) 255 ≡ true = grind (arith, nat_tests) in
    let b : leb (x / 65536 % 256) 255 ≡ true = grind (arith, nat_tests) in
    let c : leb (x / 256 % 256) 255 ≡ true = grind (arith, nat_tests) in
    let d : leb (x % 256) 255 ≡ true = grind (arith, nat_tests) in
    let n : x / 16777216 * 16777216 + x / 65536 % 256 * 65536 + x / 256 % 256 * 256 + x % 256 ≡ x = omega arith in
    rw (a, b, c, d, n)

pub words : Inverse word_at word Power
words = record { forth = word_forth; back = word_back }

byte_forth : (cs : List ℕ) (x : ℕ) (rest : List ℕ) → byte_at cs ≡ Some (x, rest) → (cs ≡ x ∷ rest) × Byte x
byte_forth [] x rest e = none _ e
byte_forth (b ∷ cs) x rest e =
    let g = by_given (leb b 255) b cs x rest e in
    let t = g.0 in
    let n = g.1 in
    ((λ i. g.1 i ∷ g.2 i), grind (arith, nat_tests))

byte_back : (x : ℕ) (rest : List ℕ) → Byte x → byte_at (x ∷ rest) ≡ Some (x, rest)
byte_back x rest h = let a : leb x 255 ≡ true = grind (arith, nat_tests) in rw a

pub one_byte : Inverse byte_at (λ b cs. b ∷ cs) Byte
one_byte = record { forth = byte_forth; back = byte_back }

index_forth : (cs : List ℕ) (x : ℕ) (rest : List ℕ) → index_at cs ≡ Some (x, rest) → (cs ≡ word x rest) × Index x
index_forth cs x rest e = let b = by_on_some (word_at cs) _ _ e in go b.0 b.1 (eqb b.0.0 2147483647) refl b.2
  where
    go : (v : ℕ × List ℕ) → word_at cs ≡ Some v → (t : Bool) → eqb v.0 2147483647 ≡ t → cond t None (Some v) ≡ Some (x, rest) → (cs ≡ word x rest) × Index x
    go v m true p q = none _ q
    go v m false p q =
        let w = word_forth cs x rest (m ∙ q) in
        let s : v.0 ≡ x = ap (λ (k : ℕ × List ℕ). k.0) (same_some _ _ q) in
        (w.0, (w.1, λ h. let z : v.0 ≡ 2147483647 = s ∙ h in grind (arith, nat_tests)))

index_back : (x : ℕ) (rest : List ℕ) → Index x → index_at (word x rest) ≡ Some (x, rest)
index_back x rest h =
    let m = h.1 in
    let t : eqb x 2147483647 ≡ false = grind (arith, nat_tests) in
    rw (word_back x rest h.0, t)

pub indices : Inverse index_at word Index
indices = record { forth = index_forth; back = index_back }

capture_forth : (cs : List ℕ) (x : ℕ) (rest : List ℕ) → capture_at cs ≡ Some (x, rest) → (cs ≡ word x rest) × Capture x
capture_forth cs x rest e = let b = by_on_some (word_at cs) _ _ e in go b.0 b.1 (leb b.0.0 2147483647) refl b.2
  where
    go : (v : ℕ × List ℕ) → word_at cs ≡ Some v → (t : Bool) → leb v.0 2147483647 ≡ t → cond t (Some v) None ≡ Some (x, rest) → (cs ≡ word x rest) × Capture x
    go v m false p q = none _ q
    go v m true p q =
        let w = word_forth cs x rest (m ∙ q) in
        let s : v.0 ≡ x = ap (λ (k : ℕ × List ℕ). k.0) (same_some _ _ q) in
        (w.0, grind (arith, nat_tests))

capture_back : (x : ℕ) (rest : List ℕ) → Capture x → capture_at (word x rest) ≡ Some (x, rest)
capture_back x rest h =
    let t : leb x 2147483647 ≡ true = grind (arith, nat_tests) in
    rw (word_back x rest (omega arith), t)

pub captures : Inverse capture_at word Capture
captures = record { forth = capture_forth; back = capture_back }
