-- The operands that stand first in a code.
use Rattle.std.proofs.Common.{◌≡◌, ℕ, ◌+◌, ◌*◌, ◌<◌, Bool, true, false, cond, ◌&&◌, eqb, leb, List, [], ◌∷◌, length, get_or, take, drop, Some, None, refl, ap, ◌∙◌, w32, arith}
use Rattle.std.specs.Int.{from_be_bytes}
use Rattle.std.proofs.lemmas.List.{drop-drop}
use Rattle.std.proofs.lemmas.Bool.{le-leb}
use Rattle.codes.specs.Decode.{Got, given, on_some, byte_at, word_at, capture_at}
use Rattle.grammar.specs.declared.defns.ChildIndex.{ChildIndex}
use Rattle.wire.specs.Commands.{first, byte_in, word_in, index_in, index_of, capture_in}
use Rattle.wire.specs.Reading.{index_first}

-- four bytes, the most significant first
pub word_here : (cs bs r : List ℕ) (n : ℕ) → (bs ≡ take 4 cs) × (r ≡ drop 4 cs) × (length r + 4 ≡ length cs) → n ≡ from_be_bytes w32 bs
    → get_or bs 0 0 < 256 → get_or bs 1 0 < 256 → get_or bs 2 0 < 256 → get_or bs 3 0 < 256 → word_at cs ≡ Some (n, r)
word_here [] bs r n p e i j k l = absurd (omega (arith, p.2))
word_here (a ∷ []) bs r n p e i j k l = absurd (omega (arith, p.2))
word_here (a ∷ b ∷ []) bs r n p e i j k l = absurd (omega (arith, p.2))
word_here (a ∷ b ∷ c ∷ []) bs r n p e i j k l = absurd (omega (arith, p.2))
word_here (a ∷ b ∷ c ∷ d ∷ cs) bs r n p e i j k l =
    let z : n ≡ a * 16777216 + b * 65536 + c * 256 + d = e ∙ ap (from_be_bytes w32) p.0 ∙ omega arith in
    let byte : (m : ℕ) (x : ℕ) → get_or bs m 0 < 256 → get_or bs m 0 ≡ x → leb x 255 ≡ true = λ m x h q. le-leb x 255 (omega arith) in
    rw (z, p.1, byte 0 a i (ap (λ l. get_or l 0 0) p.0), byte 1 b j (ap (λ l. get_or l 1 0) p.0), byte 2 c k (ap (λ l. get_or l 2 0) p.0), byte 3 d l (ap (λ l. get_or l 3 0) p.0))

-- ---- what stands behind an operand, by its length
pub byte_behind : (cs : List ℕ) → byte_at cs ≡ on_some (byte_in cs) (λ b. Some (b, drop 1 cs))
byte_behind [] = refl
byte_behind (b ∷ cs) = go (leb b 255)
  where
    go : (t : Bool) → given t b cs ≡ on_some (first (given t b cs)) (λ x. Some (x, cs))
    go true = refl
    go false = refl

pub word_behind : (cs : List ℕ) → word_at cs ≡ on_some (word_in cs) (λ n. Some (n, drop 4 cs))
word_behind [] = refl
word_behind (a ∷ []) = refl
word_behind (a ∷ b ∷ []) = refl
word_behind (a ∷ b ∷ c ∷ []) = refl
word_behind (a ∷ b ∷ c ∷ d ∷ cs) = go (leb a 255 && (leb b 255 && (leb c 255 && leb d 255))) _
  where
    go : (t : Bool) (n : ℕ) → given t n cs ≡ on_some (first (given t n cs)) (λ x. Some (x, cs))
    go true n = refl
    go false n = refl

pub word_later : (k : ℕ) (cs : List ℕ) → word_at (drop k cs) ≡ on_some (word_in (drop k cs)) (λ n. Some (n, drop (k + 4) cs))
word_later k cs = word_behind (drop k cs) ∙ ap (λ l. on_some (word_in (drop k cs)) (λ n. Some (n, l))) (drop-drop 4 k cs)

pub capture_behind : (cs : List ℕ) → capture_at cs ≡ on_some (capture_in cs) (λ n. Some (n, drop 4 cs))
capture_behind cs = go (word_at cs) (word_behind cs)
  where
    go : (m : Got ℕ) → m ≡ on_some (first m) (λ n. Some (n, drop 4 cs))
        → on_some m (λ n. cond (leb n.0 2147483647) (Some n) None) ≡ on_some (first (on_some m (λ n. cond (leb n.0 2147483647) (Some n) None))) (λ n. Some (n, drop 4 cs))
    go None e = refl
    go (Some p) e = at (leb p.0 2147483647) e
      where
        at : (t : Bool) → Some p ≡ Some (p.0, drop 4 cs) → cond t (Some p) None ≡ on_some (first (cond t (Some p) None)) (λ n. Some (n, drop 4 cs))
        at true f = f
        at false f = refl

pub index_behind : (cs : List ℕ) → index_first cs ≡ on_some (index_in cs) (λ i. Some (i, drop 4 cs))
index_behind cs = go (word_at cs) (word_behind cs)
  where
    go : (m : Got ℕ) → m ≡ on_some (first m) (λ n. Some (n, drop 4 cs))
        → on_some {B = ChildIndex × List ℕ} (on_some m (λ i. cond (eqb i.0 2147483647) None (Some i))) (λ p. Some (index_of p.0, p.1))
        ≡ on_some (on_some (on_some m (λ i. cond (eqb i.0 2147483647) None (Some i))) (λ p. Some (index_of p.0))) (λ i. Some (i, drop 4 cs))
    go None e = refl
    go (Some p) e = at (eqb p.0 2147483647) e
      where
        at : (t : Bool) → Some p ≡ Some (p.0, drop 4 cs)
            → on_some {B = ChildIndex × List ℕ} (cond t None (Some p)) (λ p. Some (index_of p.0, p.1)) ≡ on_some (on_some (cond t None (Some p)) (λ p. Some (index_of p.0))) (λ i. Some (i, drop 4 cs))
        at true f = refl
        at false f = ap (λ (o : Got ℕ). on_some {B = ChildIndex × List ℕ} o (λ p. Some (index_of p.0, p.1))) f

pub index_later : (k : ℕ) (cs : List ℕ) → index_first (drop k cs) ≡ on_some (index_in (drop k cs)) (λ i. Some (i, drop (k + 4) cs))
index_later k cs = index_behind (drop k cs) ∙ ap (λ l. on_some (index_in (drop k cs)) (λ n. Some (n, l))) (drop-drop 4 k cs)
