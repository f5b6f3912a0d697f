-- Answers in sequence, taken apart.
use Rattle.std.proofs.Common.{◌≡◌, ℕ, Some, None, Ok, Err, Option, Result, refl, ap, arith}
use Rattle.grammar.specs.Results.{on_ok, on_err}

pub by_on_ok : {A B E : Type 0} (m : Result A E) (f : A → Result B E) (r : B) → on_ok m f ≡ Ok r → (v : A) × (m ≡ Ok v) × (f v ≡ Ok r)
by_on_ok (Ok v) f r e = (v, refl, e)
by_on_ok (Err x) f r e = let b : ◌≡◌ {A = ℕ} 0 1 = cc in absurd (omega arith)

pub by_on_err : {A E F : Type 0} (f : E → F) (m : Result A E) (r : A) → on_err f m ≡ Ok r → m ≡ Ok r
by_on_err f (Ok v) r e = let h : v ≡ r = cc in ap (λ (x : _). Ok x) h
by_on_err f (Err x) r e = let b : ◌≡◌ {A = ℕ} 0 1 = cc in absurd (omega arith)

pub same_ok : {A E : Type 0} (x y : A) → ◌≡◌ {A = Result A E} (Ok x) (Ok y) → x ≡ y
same_ok x y e = cc

pub same_some : {A : Type 0} (x y : A) → ◌≡◌ {A = Option A} (Some x) (Some y) → x ≡ y
same_some x y e = cc

pub refused : {A E P : Type 0} (x : E) (y : A) → ◌≡◌ {A = Result A E} (Err x) (Ok y) → P
refused x y e = let b : ◌≡◌ {A = ℕ} 0 1 = cc in absurd (omega arith)

pub nothing : {A P : Type 0} (y : A) → ◌≡◌ {A = Option A} None (Some y) → P
nothing y e = let b : ◌≡◌ {A = ℕ} 0 1 = cc in absurd (omega arith)
