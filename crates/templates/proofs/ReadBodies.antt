-- The pieces of a body that is read, one by one.
use Rattle.std.proofs.Common.{◌≡◌, ℕ, zero, suc, ◌+◌, Bool, true, false, cond, eqb, List, [], ◌∷◌, take, drop, is_ok, Some, None, Ok, Err, Option, Result, sym, refl, ap, ◌∙◌, arith}
use Rattle.std.proofs.lemmas.Bool.{eqb-true}
use Rattle.grammar.specs.Controls.{control_at}
use Rattle.grammar.specs.Marks.{unpaired}
use Rattle.grammar.specs.Results.{on_ok, Fault}
use Rattle.grammar.specs.Shapes.{Shape, typed_text}
use Rattle.grammar.specs.Templates.{leading, piece_at, body_at}
use Rattle.templates.specs.Views.{control_first, okay, output_at}

failed : {P : Type 0} → false ≡ true → P
failed e = let b : ◌≡◌ {A = ℕ} 0 1 = cc in absurd (omega arith)

starts : {A B E : Type 0} (m : Result A E) (f : A → Result B E) → is_ok (on_ok m f) ≡ true → is_ok m ≡ true
starts (Ok v) f h = refl
starts (Err e) f h = failed h

abbrev found : Shape × ℕ → Result (Option (Shape × ℕ)) Fault
found p = Ok (Some (p.0, suc p.1))

leads : (c : Result (Shape × ℕ) Fault) → is_ok (on_ok c found) ≡ true → on_ok c found ≡ Ok (okay c)
leads (Ok p) h = refl
leads (Err e) h = failed h

led : (place : ℕ) (cs : List ℕ) → is_ok (leading place cs) ≡ true → leading place cs ≡ Ok (control_first place cs)
led place [] h = refl
led place (c ∷ cs) h = leads (control_at (place + 1) cs) h

-- where no byte of text stands first, and where some do
no_words : (place u : ℕ) (cs : List ℕ) → u ≡ 0 → is_ok (leading (place + u) (drop u cs)) ≡ true → leading (place + u) (drop u cs) ≡ Ok (control_first place cs)
no_words place u cs e h =
    let z : place + u ≡ place = omega arith in
    let d : leading (place + u) (drop u cs) ≡ leading place cs = rw (z, e) in
    d ∙ led place cs (sym (ap is_ok d) ∙ h)

some_words : {A B E : Type 0} (m : Result A E) (x : B) → is_ok m ≡ true → on_ok m (λ _. Ok x) ≡ Ok x
some_words (Ok v) x h = refl
some_words (Err e) x h = failed h

first_piece : (place u : ℕ) (cs : List ℕ) (x : Option (Shape × ℕ)) (b : Bool) → eqb u 0 ≡ b → is_ok (leading (place + u) (drop u cs)) ≡ true
    → on_ok (leading (place + u) (drop u cs)) (λ next. cond b (Ok next) (Ok x)) ≡ Ok (cond b (control_first place cs) x)
first_piece place u cs x true e h = ap (λ m. on_ok m (λ next. Ok next)) (no_words place u cs (eqb-true u 0 e) h)
first_piece place u cs x false e h = some_words (leading (place + u) (drop u cs)) x h

piece_is : (place : ℕ) (cs : List ℕ) → is_ok (piece_at place cs) ≡ true → piece_at place cs ≡ Ok (output_at place cs)
piece_is place cs h =
    first_piece place (unpaired 36 cs) cs (Some (typed_text (take (unpaired 36 cs) cs), unpaired 36 cs)) (eqb (unpaired 36 cs) 0) refl (starts (leading (place + unpaired 36 cs) (drop (unpaired 36 cs) cs)) _ h)

-- ---- the body
pub body_over : (left place : ℕ) (cs : List ℕ) → is_ok (body_at left place cs) ≡ true → output_at place cs ≡ None → body_at left place cs ≡ Ok []
body_over zero place cs h e = let p = piece_is place cs (starts (piece_at place cs) _ h) in rw (p, e)
body_over (suc left) place cs h e = let p = piece_is place cs (starts (piece_at place cs) _ h) in rw (p, e)

pub body_goes : (left place : ℕ) (cs : List ℕ) (s : Shape) (u : ℕ) → is_ok (body_at (suc left) place cs) ≡ true → output_at place cs ≡ Some (s, u)
    → body_at (suc left) place cs ≡ on_ok (body_at left (place + u) (drop u cs)) (λ ss. Ok (s ∷ ss))
body_goes left place cs s u h e = let p = piece_is place cs (starts (piece_at place cs) _ h) in rw (p, e)

pub body_full : (place : ℕ) (cs : List ℕ) (s : Shape) (u : ℕ) → is_ok (body_at zero place cs) ≡ true → output_at place cs ≡ Some (s, u) → ⊥
body_full place cs s u h e =
    let p = piece_is place cs (starts (piece_at place cs) _ h) in
    failed (rw (p, e) at h)
