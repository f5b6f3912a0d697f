-- The greatest capture, put together from the parts of a template.
use Rattle.std.proofs.Common.{◌≡◌, ℕ, ◌+◌, max, List, [], ◌∷◌, Some, None, Ok, Option, sym, refl, ap, ◌∙◌, arith}
use Rattle.grammar.specs.Deep.{texted, plains, repeat_from, deep_from, most}
use Rattle.grammar.specs.Marks.{halve}
use Rattle.grammar.specs.Readings.{Piece, Repeat}
use Rattle.grammar.specs.Shapes.{Shape, typed_text, typed_child, typed_repeat, typed_capture}
use Rattle.grammar.specs.Templates.{greater, most_typed}
use Rattle.grammar.proofs.Chains.{by_on_ok, same_ok}
use Rattle.formatter.specs.Views.{greater_of}

grouped : (a b c : Option ℕ) → greater_of (greater_of a b) c ≡ greater_of a (greater_of b c)
grouped None b c = refl
grouped (Some x) None c = refl
grouped (Some x) (Some y) None = refl
grouped (Some x) (Some y) (Some z) = let h : max (max x y) z ≡ max x (max y z) = omega arith in ap (λ n. Some n) h

one_more : (m : Option ℕ) (n : ℕ) → greater m n ≡ greater_of m (Some n)
one_more None n = refl
one_more (Some x) n = refl

-- the greatest among the pieces joins what was the greatest before them
pub joins : (m : Option ℕ) (ss : List Shape) → greater_of m (most_typed None ss) ≡ most_typed m ss
joins None [] = refl
joins (Some x) [] = refl
joins m (typed_text t ∷ ss) = joins m ss
joins m (typed_child p i b ∷ ss) = joins m ss
joins m (typed_repeat x ∷ ss) = joins m ss
joins m (typed_capture n ∷ ss) =
    ap (greater_of m) (sym (joins (Some n) ss)) ∙ sym (grouped m (Some n) (most_typed None ss)) ∙ ap (λ o. greater_of o (most_typed None ss)) (sym (one_more m n)) ∙ joins (greater m n) ss

pub most-texted : {R : Type 0} (m : Option ℕ) (t : List ℕ) (ps : List (Piece R)) → most m (texted t ps) ≡ most m ps
most-texted m [] ps = refl
most-texted m (b ∷ bs) ps = refl

pub most-plain : (m : Option ℕ) (ss : List Shape) → most m (plains ss) ≡ most_typed m ss
most-plain m [] = refl
most-plain m (typed_text t ∷ ss) = most-texted m (halve 36 t) (plains ss) ∙ most-plain m ss
most-plain m (typed_child p i b ∷ ss) = most-plain m ss
most-plain m (typed_repeat x ∷ ss) = most-plain m ss
most-plain m (typed_capture n ∷ ss) = most-plain (greater m n) ss

pub most_deep : (m : Option ℕ) (n : ℕ) (ss : List Shape) (ps : List (Piece Repeat)) → deep_from n ss ≡ Ok ps → most m ps ≡ most_typed m ss
most_deep m n [] ps e = ap (most m) (sym (same_ok [] ps e))
most_deep m n (typed_text t ∷ ss) ps e =
    let p = by_on_ok (deep_from (n + 1) ss) _ ps e in
    ap (most m) (sym (same_ok _ ps p.2)) ∙ most-texted m (halve 36 t) p.0 ∙ most_deep m (n + 1) ss p.0 p.1
most_deep m n (typed_child a i b ∷ ss) ps e =
    let p = by_on_ok (deep_from (n + 1) ss) _ ps e in
    ap (most m) (sym (same_ok _ ps p.2)) ∙ most_deep m (n + 1) ss p.0 p.1
most_deep m n (typed_repeat x ∷ ss) ps e =
    let y = by_on_ok (repeat_from n x) _ ps e in
    let p = by_on_ok (deep_from (n + 1) ss) _ ps y.2 in
    ap (most m) (sym (same_ok _ ps p.2)) ∙ most_deep m (n + 1) ss p.0 p.1
most_deep m n (typed_capture k ∷ ss) ps e =
    let p = by_on_ok (deep_from (n + 1) ss) _ ps e in
    ap (most m) (sym (same_ok _ ps p.2)) ∙ most_deep (greater m k) (n + 1) ss p.0 p.1
