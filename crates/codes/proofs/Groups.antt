-- The pieces of a run of commands, and the commands of the pieces.
use Rattle.std.proofs.Common.{◌≡◌, ℕ, List, [], ◌∷◌, Some, sym, refl, ap, ◌∙◌, subst}
use Rattle.grammar.proofs.Chains.{nothing as none, same_some}
use Rattle.grammar.specs.Readings.{Piece, text, child, capture, repeat, NoText}
use Rattle.codes.specs.Formed.{Apart}
use Rattle.codes.specs.Code.{Command, byte, step, point, range, hold, bytes, steps, commands}
use Rattle.codes.specs.Decode.{glue, put, group}
use Rattle.codes.proofs.Words.{by_on_some}

-- ---- from the commands
glue-commands : {R : Type 0} (b : ℕ) (ps : List (Piece R)) → commands (glue b ps) ≡ byte b ∷ commands ps
glue-commands b [] = refl
glue-commands b (text c cs ∷ ps) = refl
glue-commands b (child s i l r ∷ ps) = refl
glue-commands b (capture n ∷ ps) = refl
glue-commands b (repeat s x ∷ ps) = refl

glue_apart : {R : Type 0} (b : ℕ) (ps : List (Piece R)) → Apart ps → Apart (glue b ps)
glue_apart b [] h = (tt, tt)
glue_apart b (text c cs ∷ ps) h = h
glue_apart b (child s i l r ∷ ps) h = (tt, h)
glue_apart b (capture n ∷ ps) h = (tt, h)
glue_apart b (repeat s x ∷ ps) h = (tt, h)

put_forth : {R : Type 0} (k : Command R) (ps qs : List (Piece R)) → Apart ps → put k ps ≡ Some qs → (commands qs ≡ k ∷ commands ps) × Apart qs
put_forth {R} (byte b) ps qs h e = let s = same_some _ _ e in subst (λ (l : List (Piece R)). (commands l ≡ byte b ∷ commands ps) × Apart l) s (glue-commands b ps, glue_apart b ps h)
put_forth (step y) [] qs h e = none _ e
put_forth (step y) (text b bs ∷ ps) qs h e = none _ e
put_forth {R} (step y) (child s i l r ∷ ps) qs h e = subst (λ (q : List (Piece R)). (commands q ≡ step y ∷ commands (child s i l r ∷ ps)) × Apart q) (same_some _ _ e) (refl, h)
put_forth (step y) (capture n ∷ ps) qs h e = none _ e
put_forth {R} (step y) (repeat s x ∷ ps) qs h e = subst (λ (q : List (Piece R)). (commands q ≡ step y ∷ commands (repeat s x ∷ ps)) × Apart q) (same_some _ _ e) (refl, h)
put_forth {R} (point i l r) ps qs h e = subst (λ (q : List (Piece R)). (commands q ≡ point i l r ∷ commands ps) × Apart q) (same_some _ _ e) (refl, h)
put_forth {R} (range x) ps qs h e = subst (λ (q : List (Piece R)). (commands q ≡ range x ∷ commands ps) × Apart q) (same_some _ _ e) (refl, h)
put_forth {R} (hold n) ps qs h e = subst (λ (q : List (Piece R)). (commands q ≡ hold n ∷ commands ps) × Apart q) (same_some _ _ e) (refl, h)

pub group_forth : {R : Type 0} (ks : List (Command R)) (ps : List (Piece R)) → group ks ≡ Some ps → (ks ≡ commands ps) × Apart ps
group_forth {R} [] ps e = subst (λ (q : List (Piece R)). ([] ≡ commands q) × Apart q) (same_some _ _ e) (refl, tt)
group_forth (k ∷ ks) ps e =
    let b = by_on_some (group ks) (put k) ps e in
    let ih = group_forth ks b.0 b.1 in
    let p = put_forth k b.0 ps ih.1 b.2 in
    (ap (λ l. k ∷ l) ih.0 ∙ sym p.0, p.1)

-- ---- from the pieces
glue-fresh : {R : Type 0} (b : ℕ) (ps : List (Piece R)) → NoText ps → glue b ps ≡ text b [] ∷ ps
glue-fresh b [] h = refl
glue-fresh b (text c cs ∷ ps) h = absurd h
glue-fresh b (child s i l r ∷ ps) h = refl
glue-fresh b (capture n ∷ ps) h = refl
glue-fresh b (repeat s x ∷ ps) h = refl

group-bytes : {R : Type 0} (b : ℕ) (bs : List ℕ) (ks : List (Command R)) (ps : List (Piece R)) → NoText ps → group ks ≡ Some ps → group (byte b ∷ bytes bs ks) ≡ Some (text b bs ∷ ps)
group-bytes b [] ks ps h e = rw e (ap (λ l. Some l) (glue-fresh b ps h))
group-bytes b (c ∷ bs) ks ps h e = rw (group-bytes c bs ks ps h e)

group_child : {R : Type 0} (s : List ℕ) (i l r : ℕ) (ks : List (Command R)) (ps : List (Piece R)) → group ks ≡ Some ps → group (steps s (point i l r ∷ ks)) ≡ Some (child s i l r ∷ ps)
group_child [] i l r ks ps e = rw e
group_child (y ∷ s) i l r ks ps e = rw (group_child s i l r ks ps e)

group_repeat : {R : Type 0} (s : List ℕ) (x : R) (ks : List (Command R)) (ps : List (Piece R)) → group ks ≡ Some ps → group (steps s (range x ∷ ks)) ≡ Some (repeat s x ∷ ps)
group_repeat [] x ks ps e = rw e
group_repeat (y ∷ s) x ks ps e = rw (group_repeat s x ks ps e)

pub group-back : {R : Type 0} (ps : List (Piece R)) → Apart ps → group (commands ps) ≡ Some ps
group-back [] h = refl
group-back (text b bs ∷ ps) h = group-bytes b bs (commands ps) ps h.0 (group-back ps h.1)
group-back (child s i l r ∷ ps) h = group_child s i l r (commands ps) ps (group-back ps h)
group-back (capture n ∷ ps) h = rw (group-back ps h)
group-back (repeat s x ∷ ps) h = group_repeat s x (commands ps) ps (group-back ps h)
