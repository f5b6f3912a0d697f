-- The paths of pieces that are read are those of the grammar.
use Rattle.std.proofs.Common.{◌≡◌, ℕ, suc, ◌+◌, Bool, true, false, cond, eqb, List, [], ◌∷◌, length, take, drop, ℤ, pos, negsuc, IfOk, Some, None, Ok, Err, Option, Result, sym, refl, ap, subst}
use Rattle.std.proofs.lemmas.Bool.{cond_both}
use Rattle.refusal.specs.declared.error.ClosingMark.{ClosingMark}
use Rattle.refusal.specs.declared.error.ClosingMark.TheVariants.{Square, Round, Curly}
use Rattle.refusal.specs.declared.error.FormatterError.TheVariants.{IncorrectControl, MissingControl, MissingRange}
use Rattle.grammar.specs.declared.defns.ChildIndex.{ChildIndex}
use Rattle.grammar.specs.Controls.{child_powers, child_at, captured, capture_at, Range, range_at, repeat_powers, repeat_parts, repeated, front_at, repeat_at, closed_by, control_at}
use Rattle.grammar.specs.Grammar.{Path}
use Rattle.grammar.specs.Marks.{up_to, first_mark, unpaired}
use Rattle.grammar.specs.Numbers.{number_at, bits}
use Rattle.grammar.specs.Paths.{index_at, path_at, steps_of}
use Rattle.grammar.specs.Powers.{Triple}
use Rattle.grammar.specs.Results.{on_ok, on_some, refusal, Fault}
use Rattle.grammar.specs.Shapes.{Shape, typed_text, typed_child}
use Rattle.grammar.proofs.Chains.{same_some, nothing}
use Rattle.grammar.proofs.PathsRead.{path_forth}
use Rattle.templates.specs.Views.{okay, control_first, output_at}
use Rattle.encode.specs.Walks.{Stepped, Pathed}

stepped : (place : ℕ) (p : List ℕ) (r : ℕ × ℕ × ChildIndex) → path_at place p ≡ Ok r → Stepped p
stepped place p r e =
    let f = path_forth place p r e in
    record { index = bits r.2.0; is = subst (λ (l : List ℕ). Path l (steps_of p) (bits r.2.0)) (sym (ap (drop 1) f.1)) f.2 }

then : {A B E : Type 0} (m : Result A E) (k : A → Result B E) (P : A → Type 0) (Q : B → Type 0) → IfOk m P → ((x : A) → P x → IfOk (k x) Q) → IfOk (on_ok m k) Q
then (Ok x) k P Q h g = g x h
then (Err e) k P Q h g = tt

found : {A B E : Type 0} (m : Result A E) (k : A → Result B E) (Q : B → Type 0) → ((x : A) → m ≡ Ok x → IfOk (k x) Q) → IfOk (on_ok m k) Q
found (Ok x) k Q g = g x refl
found (Err e) k Q g = tt

-- ---- the controls
children : (place : ℕ) (cs : List ℕ) → IfOk (child_at place cs) Pathed
children place cs =
    found (path_at place (take (up_to 124 cs) cs)) _ Pathed (λ p e.
    found (child_powers place cs (up_to 124 cs)) (λ b. Ok (typed_child (take (up_to 124 cs) cs) p.2 b)) Pathed (λ b _. stepped place (take (up_to 124 cs) cs) p e))

abbrev Ranged : Range → Type 0
Ranged r = Stepped r.0

ranges_at : (place : ℕ) (cs : List ℕ) (o : Option ℕ)
    → IfOk (on_some o (refusal MissingRange place (length cs)) (λ at. on_ok (path_at place (take at cs)) (λ p. on_ok (index_at (place + (at + 2)) (drop (at + 2) cs)) (λ to. Ok (take at cs, p.2, to))))) Ranged
ranges_at place cs None = tt
ranges_at place cs (Some at) =
    found (path_at place (take at cs)) _ Ranged (λ p e.
    found (index_at (place + (at + 2)) (drop (at + 2) cs)) (λ to. Ok (take at cs, p.2, to)) Ranged (λ to _. stepped place (take at cs) p e))

ranges : (place : ℕ) (cs : List ℕ) → IfOk (range_at place cs) Ranged
ranges place cs = ranges_at place cs (first_mark 46 46 0 cs)

abbrev Fronted : Range × Triple → Type 0
Fronted f = Stepped f.0.0

fronts : (place : ℕ) (cs : List ℕ) → IfOk (front_at place cs) Fronted
fronts place cs =
    then (range_at place (take (up_to 124 cs) cs)) _ Ranged Fronted (ranges place (take (up_to 124 cs) cs)) (λ r h.
    found (repeat_powers place cs (up_to 124 cs)) (λ t. Ok (r, t)) Fronted (λ t _. h))

repeats : (place : ℕ) (cs : List ℕ) → IfOk (repeat_at place cs) Pathed
repeats place cs =
    then (front_at place (take (up_to 36 cs) cs)) _ Fronted Pathed (fronts place (take (up_to 36 cs) cs)) (λ f h.
    found (repeat_parts place cs (up_to 36 cs)) (λ s. Ok (repeated f.0 f.1 s)) Pathed (λ s _. h))

one_capture : (place : ℕ) (cs : List ℕ) (z : ℤ) → IfOk (captured place cs z) Pathed
one_capture place cs (pos k) = tt
one_capture place cs (negsuc k) = tt

captures : (place : ℕ) (cs : List ℕ) → IfOk (capture_at place cs) Pathed
captures place cs = found (number_at place cs) (captured place cs) Pathed (λ z _. one_capture place cs z)

abbrev FirstPathed : Shape × ℕ → Type 0
FirstPathed p = Pathed p.0

closed : (mark : ClosingMark) (f : ℕ → List ℕ → Result Shape Fault) (place : ℕ) (cs : List ℕ) → ((place : ℕ) (cs : List ℕ) → IfOk (f place cs) Pathed) → (o : Option ℕ)
    → IfOk (on_some o (refusal (MissingControl mark) place (length cs)) (λ at. on_ok (f place (take at cs)) (λ s. Ok (s, at + 3)))) FirstPathed
closed mark f place cs g None = tt
closed mark f place cs g (Some at) = then (f place (take at cs)) (λ s. Ok (s, at + 3)) Pathed FirstPathed (g place (take at cs)) (λ s k. k)

control : (place : ℕ) (cs : List ℕ) → IfOk (control_at place cs) FirstPathed
control place [] = tt
control place (c ∷ cs) =
    let last : IfOk (cond (eqb c 123) (closed_by 125 Curly capture_at (place + 1) cs) (refusal IncorrectControl place (suc (length cs)))) FirstPathed = cond_both (eqb c 123) (closed_by 125 Curly capture_at (place + 1) cs) (refusal IncorrectControl place (suc (length cs))) (λ r. IfOk r FirstPathed) (λ _. closed Curly capture_at (place + 1) cs captures (first_mark 125 36 0 cs)) (λ _. tt) in
    let middle : IfOk (cond (eqb c 40) (closed_by 41 Round repeat_at (place + 1) cs) (cond (eqb c 123) (closed_by 125 Curly capture_at (place + 1) cs) (refusal IncorrectControl place (suc (length cs))))) FirstPathed = cond_both (eqb c 40) (closed_by 41 Round repeat_at (place + 1) cs) _ (λ r. IfOk r FirstPathed) (λ _. closed Round repeat_at (place + 1) cs repeats (first_mark 41 36 0 cs)) (λ _. last) in
    cond_both (eqb c 91) (closed_by 93 Square child_at (place + 1) cs) _ (λ r. IfOk r FirstPathed) (λ _. closed Square child_at (place + 1) cs children (first_mark 93 36 0 cs)) (λ _. middle)

-- ---- a piece
from-okay : (c : Result (Shape × ℕ) Fault) (s : Shape) (u : ℕ) → IfOk c FirstPathed → okay c ≡ Some (s, u) → Pathed s
from-okay (Ok p) s u h e = subst FirstPathed (same_some (p.0, suc p.1) (s, u) e) h
from-okay (Err x) s u h e = nothing _ e

from_first : (place : ℕ) (cs : List ℕ) (s : Shape) (u : ℕ) → control_first place cs ≡ Some (s, u) → Pathed s
from_first place [] s u e = nothing _ e
from_first place (c ∷ cs) s u e = from-okay (control_at (place + 1) cs) s u (control (place + 1) cs) e

from_either : (place : ℕ) (cs t : List ℕ) (k : ℕ) (b : Bool) (s : Shape) (u : ℕ) → cond b (control_first place cs) (Some (typed_text t, k)) ≡ Some (s, u) → Pathed s
from_either place cs t k true s u e = from_first place cs s u e
from_either place cs t k false s u e = subst FirstPathed (same_some (typed_text t, k) (s, u) e) tt

pub output_pathed : (place : ℕ) (cs : List ℕ) (s : Shape) (u : ℕ) → output_at place cs ≡ Some (s, u) → Pathed s
output_pathed place cs s u e = from_either place cs (take (unpaired 36 cs) cs) (unpaired 36 cs) (eqb (unpaired 36 cs) 0) s u e
