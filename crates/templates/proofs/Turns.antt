-- One turn of reading a body.
use Rattle.std.proofs.Common.{◌≡◌, ℕ, zero, suc, ◌+◌, ◌-◌, ◌<◌, List, [], ◌∷◌, length, drop, Some, None, Ok, Err, Option, Result, sym, refl, ap, arith}
use Rattle.refusal.specs.declared.error.FormatterError.TheVariants.{TooManyPieces}
use Rattle.grammar.specs.Limits.{piece_allowance}
use Rattle.grammar.specs.Results.{on_ok, refusal, Fault}
use Rattle.grammar.specs.Shapes.{Shape, typed_text, typed_child, typed_repeat, typed_capture}
use Rattle.grammar.specs.Templates.{piece_at, body_at, most_typed}
use Rattle.templates.specs.Views.{totals}

-- n pieces before, m the greatest capture among them
abbrev sums : ℕ → Option ℕ → Result (List Shape) Fault → Result (ℕ × Option ℕ) Fault
sums n m (Ok ss) = Ok (n + length ss, most_typed m ss)
sums n m (Err e) = Err e

-- what a body gives, closed so that it is not unrolled
unfoldable pub whole : ℕ → List ℕ → Result (ℕ × Option ℕ) Fault
whole place cs = totals (body_at piece_allowance place cs)

-- what is left gives, n pieces and the greatest capture m being counted
unfoldable pub rest : ℕ → Option ℕ → ℕ → List ℕ → Result (ℕ × Option ℕ) Fault
rest n m place cs = sums n m (body_at (piece_allowance - n) place cs)

pub whole_is : (place : ℕ) (cs : List ℕ) → whole place cs ≡ totals (body_at piece_allowance place cs)
unfolding whole
whole_is place cs = refl

pub rest_none : (place : ℕ) (cs : List ℕ) → rest 0 None place cs ≡ whole place cs
unfolding whole rest
rest_none place cs = sums_none (body_at piece_allowance place cs) where
  sums_none : (b : Result (List Shape) Fault) → sums 0 None b ≡ totals b
  sums_none (Ok ss) = let e : 0 + length ss ≡ length ss = omega arith in rw e refl
  sums_none (Err e) = refl

-- one piece more
sums_more : (n : ℕ) (m : Option ℕ) (s : Shape) (b : Result (List Shape) Fault) → sums n m (on_ok b (λ ss. Ok (s ∷ ss))) ≡ sums (n + 1) (most_typed m (s ∷ [])) b
sums_more n m s (Err e) = refl
sums_more n m s (Ok ss) = let e : n + suc (length ss) ≡ n + 1 + length ss = omega arith in rw e (ap (λ (x : Option ℕ). Ok (n + 1 + length ss, x)) (most-more m s ss)) where
  most-more : (m : Option ℕ) (s : Shape) (ss : List Shape) → most_typed m (s ∷ ss) ≡ most_typed (most_typed m (s ∷ [])) ss
  most-more m (typed_text t) ss = refl
  most-more m (typed_child p i b) ss = refl
  most-more m (typed_repeat x) ss = refl
  most-more m (typed_capture k) ss = refl

-- ---- a turn
left-more : (n : ℕ) → n < piece_allowance → piece_allowance - n ≡ suc (piece_allowance - (n + 1))
left-more n h = omega arith

refused : (n l at : ℕ) (m : Option ℕ) (cs : List ℕ) (e : Fault) → piece_at at cs ≡ Err e → sums n m (body_at l at cs) ≡ Err e
refused n zero at m cs e p = rw p refl
refused n (suc l) at m cs e p = rw p refl

ended : (n l at : ℕ) (m : Option ℕ) (cs : List ℕ) → piece_at at cs ≡ Ok None → sums n m (body_at l at cs) ≡ Ok (n, m)
ended n zero at m cs p = let z : n + 0 ≡ n = omega arith in rw p (rw z refl)
ended n (suc l) at m cs p = let z : n + 0 ≡ n = omega arith in rw p (rw z refl)

pub rest_refused : (n at : ℕ) (m : Option ℕ) (cs : List ℕ) (e : Fault) → Err e ≡ piece_at at cs → Err e ≡ rest n m at cs
unfolding rest
rest_refused n at m cs e h = sym (refused n (piece_allowance - n) at m cs e (sym h))

pub rest_ended : (n at : ℕ) (m : Option ℕ) (cs : List ℕ) → Ok None ≡ piece_at at cs → Ok (n, m) ≡ rest n m at cs
unfolding rest
rest_ended n at m cs h = sym (ended n (piece_allowance - n) at m cs (sym h))

pub rest_more : (n at : ℕ) (m : Option ℕ) (cs : List ℕ) (s : Shape) (u : ℕ) → n < piece_allowance → Ok (Some (s, u)) ≡ piece_at at cs → rest n m at cs ≡ rest (n + 1) (most_typed m (s ∷ [])) (at + u) (drop u cs)
unfolding rest
rest_more n at m cs s u l h = rw (left-more n l) (rw (← h) (sums_more n m s (body_at (piece_allowance - (n + 1)) (at + u) (drop u cs))))

pub rest_full : (n at : ℕ) (m : Option ℕ) (cs : List ℕ) (s : Shape) (u : ℕ) → n ≡ piece_allowance → Ok (Some (s, u)) ≡ piece_at at cs → refusal TooManyPieces at u ≡ rest n m at cs
unfolding rest
rest_full n at m cs s u e h = let z : piece_allowance - n ≡ 0 = omega arith in rw (z, ← h) refl
