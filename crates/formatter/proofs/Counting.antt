-- A reading has as many pieces as were typed.
use Rattle.std.proofs.Common.{◌≡◌, ℕ, zero, suc, ◌+◌, ◌&&◌, eqb, List, [], ◌∷◌, length, drop, is_ok, Some, None, Ok, Option, sym, refl, ap, ◌∙◌, subst}
use Rattle.std.proofs.lemmas.Bool.{cond_both}
use Rattle.grammar.specs.Deep.{texted, repeat_from, deep_from}
use Rattle.grammar.specs.Marks.{halve}
use Rattle.grammar.specs.Readings.{Piece, Repeat}
use Rattle.grammar.specs.Shapes.{Shape, typed_text, typed_child, typed_repeat, typed_capture}
use Rattle.grammar.specs.Templates.{body_at}
use Rattle.grammar.proofs.Chains.{by_on_ok, same_ok}
use Rattle.templates.specs.Views.{output_at}
use Rattle.formatter.proofs.Outputs.{Worded, output_worded}
use Rattle.templates.proofs.ReadBodies.{body_over, body_goes, body_full}

abbrev AllWorded : List Shape → Type 0
AllWorded [] = Unit {0}
AllWorded (s ∷ ss) = Worded s × AllWorded ss

all_worded : (left place : ℕ) (cs : List ℕ) (o : Option (Shape × ℕ)) (ss : List Shape) → output_at place cs ≡ o → body_at left place cs ≡ Ok ss → AllWorded ss
all_worded left place cs None ss o e = subst AllWorded (same_ok [] ss (sym (body_over left place cs (ap is_ok e) o) ∙ e)) tt
all_worded zero place cs (Some p) ss o e = absurd (body_full place cs p.0 p.1 (ap is_ok e) o)
all_worded (suc left) place cs (Some p) ss o e =
    let r = by_on_ok (body_at left (place + p.1) (drop p.1 cs)) (λ ss. Ok (p.0 ∷ ss)) ss (sym (body_goes left place cs p.0 p.1 (ap is_ok e) o) ∙ e) in
    subst AllWorded (same_ok (p.0 ∷ r.0) ss r.2) (output_worded place cs p.0 p.1 o, all_worded left (place + p.1) (drop p.1 cs) (output_at (place + p.1) (drop p.1 cs)) r.0 refl r.1)

-- a text that has bytes is a piece
texted_some : (t : List ℕ) (ps : List (Piece Repeat)) → Worded (typed_text t) → length (texted t ps) ≡ suc (length ps)
texted_some [] ps h = absurd h
texted_some (b ∷ bs) ps h = refl

halved_some : (t : List ℕ) → Worded (typed_text t) → Worded (typed_text (halve 36 t))
halved_some [] h = h
halved_some (c ∷ []) h = h
halved_some (c ∷ d ∷ cs) h =
    cond_both (eqb c 36 && eqb d 36) (36 ∷ halve 36 cs) (c ∷ halve 36 (d ∷ cs)) (λ t. Worded (typed_text t)) (λ _. tt) (λ _. tt)

deep_length : (n : ℕ) (ss : List Shape) (ps : List (Piece Repeat)) → AllWorded ss → deep_from n ss ≡ Ok ps → length ps ≡ length ss
deep_length n [] ps h e = ap length (sym (same_ok [] ps e))
deep_length n (typed_text t ∷ ss) ps h e =
    let p = by_on_ok (deep_from (n + 1) ss) _ ps e in
    ap length (sym (same_ok _ ps p.2)) ∙ texted_some (halve 36 t) p.0 (halved_some t h.0) ∙ ap suc (deep_length (n + 1) ss p.0 h.1 p.1)
deep_length n (typed_child a i b ∷ ss) ps h e =
    let p = by_on_ok (deep_from (n + 1) ss) _ ps e in
    ap length (sym (same_ok _ ps p.2)) ∙ ap suc (deep_length (n + 1) ss p.0 h.1 p.1)
deep_length n (typed_repeat x ∷ ss) ps h e =
    let y = by_on_ok (repeat_from n x) _ ps e in
    let p = by_on_ok (deep_from (n + 1) ss) _ ps y.2 in
    ap length (sym (same_ok _ ps p.2)) ∙ ap suc (deep_length (n + 1) ss p.0 h.1 p.1)
deep_length n (typed_capture k ∷ ss) ps h e =
    let p = by_on_ok (deep_from (n + 1) ss) _ ps e in
    ap length (sym (same_ok _ ps p.2)) ∙ ap suc (deep_length (n + 1) ss p.0 h.1 p.1)

pub as_many : (left place : ℕ) (cs : List ℕ) (ss : List Shape) (ps : List (Piece Repeat)) → body_at left place cs ≡ Ok ss → deep_from 0 ss ≡ Ok ps → length ps ≡ length ss
as_many left place cs ss ps e = deep_length 0 ss ps (all_worded left place cs (output_at place cs) ss refl e)
