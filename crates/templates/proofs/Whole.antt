-- A template from its prefix, its suffix and its body.
use Rattle.std.proofs.Common.{◌≡◌, ℕ, ◌+◌, ◌-◌, ◌≤◌, List, length, take, drop, Ok, Err, Option, Result, sym, refl, ◌∙◌, arith}
use Rattle.std.proofs.lemmas.List.{length-take, length-drop, drop-take}
use Rattle.grammar.specs.Limits.{piece_allowance}
use Rattle.grammar.specs.Results.{on_ok, Fault}
use Rattle.grammar.specs.Shapes.{Shape}
use Rattle.grammar.specs.Templates.{Typed, prefix_at, suffix_at, body_at, template_at}
use Rattle.templates.specs.Views.{Summary, summed, totals}

-- the pieces of a body, closed so that they are not unrolled
unfoldable pieces : ℕ → List ℕ → Result (List Shape) Fault
pieces place cs = body_at piece_allowance place cs

abbrev typed : ℕ → ℕ → ℕ → List ℕ → List Shape → Result Typed Fault
typed l r place body ss = Ok (record { left = l; right = r; place = place; body = body; shapes = ss })

-- what is answered, by the count of pieces and the greatest capture
abbrev pub counted : ℕ → ℕ → List ℕ → ℕ → ℕ × Option ℕ → Result Summary Fault
counted l r front start p = Ok (record { left = l; right = r; front = front; start = start; outputs = p.0; most = p.1 })

template_is : (cs : List ℕ) → template_at cs ≡ on_ok (prefix_at cs) (λ p. on_ok (suffix_at p.1 (drop p.1 cs)) (λ s. on_ok (pieces p.1 (take s.1 (drop p.1 cs))) (typed p.0 s.0 p.1 (take s.1 (drop p.1 cs)))))
unfolding pieces
template_is cs = refl

summed_is : (cs : List ℕ) (l r place : ℕ) (body : List ℕ) (b : Result (List Shape) Fault) → on_ok (totals b) (counted l r (take (place + length body) cs) place) ≡ on_ok (on_ok b (typed l r place body)) (summed cs)
summed_is cs l r place body (Ok ss) = refl
summed_is cs l r place body (Err e) = refl

module _ (cs : List ℕ) (l start r size : ℕ) (within : start + size ≤ length cs) where
  body_is : drop start (take (start + size - 0) cs) ≡ take size (drop start cs)
  body_is = let z : start + size - 0 ≡ start + size = omega arith in rw z (drop-take start size cs)

  front_is : take (start + size - 0) cs ≡ take (start + length (take size (drop start cs))) cs
  front_is =
      let z : start + size - 0 ≡ start + length (take size (drop start cs)) = omega (arith, length-take size (drop start cs), length-drop start cs) in
      rw z refl

  read_pieces : (t : Result (ℕ × Option ℕ) Fault) → Ok (l, start) ≡ prefix_at cs → Ok (r, size) ≡ suffix_at start (drop start cs) → t ≡ totals (pieces start (drop start (take (start + size - 0) cs))) → on_ok t (counted l r (take (start + size - 0) cs) start) ≡ on_ok (template_at cs) (summed cs)
  read_pieces t p s e =
      let a : on_ok t (counted l r (take (start + size - 0) cs) start) ≡ on_ok (totals (pieces start (take size (drop start cs)))) (counted l r (take (start + length (take size (drop start cs))) cs) start) =
      rw (e, body_is, front_is) refl in
      let b : on_ok (template_at cs) (summed cs) ≡ on_ok (on_ok (pieces start (take size (drop start cs))) (typed l r start (take size (drop start cs)))) (summed cs) =
      rw (template_is cs, ← p, ← s) refl in
      a ∙ summed_is cs l r start (take size (drop start cs)) (pieces start (take size (drop start cs))) ∙ sym b

  pub template_read_lem : (t : Result (ℕ × Option ℕ) Fault) → Ok (l, start) ≡ prefix_at cs → Ok (r, size) ≡ suffix_at start (drop start cs) → t ≡ totals (body_at piece_allowance start (drop start (take (start + size - 0) cs))) → on_ok t (counted l r (take (start + size - 0) cs) start) ≡ on_ok (template_at cs) (summed cs)
  unfolding pieces
  template_read_lem t p s e = read_pieces t p s e
