-- Parts written one after the other.
use Rattle.std.proofs.Common.{◌≡◌, ℕ, zero, suc, ◌+◌, ◌<◌, ◌≤◌, List, [], ◌∷◌, map, length, drop, set, Option, sym, refl, ap, ◌∙◌, arith}
use lib.Seq.{sets}
use Rattle.engine.specs.declared.span.Span.{Span}
use Rattle.engine.specs.Rules.{span_at}
use Rattle.kernel.specs.Answers.{part_of}
use Rattle.kernel.specs.declared.records.Part.{Part}

next : (l : List (Option Span)) (k : ℕ) → k < length l → drop k (map part_of l) ≡ part_of (span_at l k) ∷ drop (k + 1) (map part_of l)
next [] k h = absurd (omega arith)
next (o ∷ l) zero h = refl
next (o ∷ l) (suc k) h = let e : suc k + 1 ≡ suc (k + 1) = omega arith in next l k (omega arith) ∙ ap (λ n. part_of (span_at l k) ∷ drop n (part_of o ∷ map part_of l)) (sym e)

-- the part at k goes to its place, and what is left gives the whole
pub one_more : (l : List (Option Span)) (k : ℕ) (b : List Part) → k < length l → sets (set b k (part_of (span_at l k))) (k + 1) (drop (k + 1) (map part_of l)) ≡ sets b k (drop k (map part_of l))
one_more l k b h =
    let e : k + 1 ≡ suc k = omega arith in
    ap (λ n. sets (set b k (part_of (span_at l k))) n (drop (k + 1) (map part_of l))) e ∙ sym (ap (sets b k) (next l k h))

pub all_done : (l : List (Option Span)) (k : ℕ) (b : List Part) → length l ≤ k → sets b k (drop k (map part_of l)) ≡ b
all_done l k b h = ap (sets b k) (past l k h)
  where
    past : (l : List (Option Span)) (k : ℕ) → length l ≤ k → drop k (map part_of l) ≡ []
    past [] zero h = refl
    past [] (suc k) h = refl
    past (o ∷ l) zero h = absurd (omega arith)
    past (o ∷ l) (suc k) h = past l k (omega arith)
