-- A separator that stands in a template has no `)` of a text before a `$`.
use Rattle.std.proofs.Common.{◌≡◌, ℕ, Bool, true, false, not, ◌&&◌, eqb, List, [], ◌∷◌, ◌++◌, sym, refl, ◌∙◌, subst, append-nil}
use Rattle.std.proofs.lemmas.Bool.{and_from, and_left, and_right, or_parts, or_from, not_from_false}
use Rattle.grammar.proofs.MarksFound.{closes-left, closes_right, keeps}
use Rattle.grammar.proofs.Opens.{part_closes}
use Rattle.grammar.proofs.Plain.{prefix_closes}
use Rattle.grammar.specs.Grammar.{Separators, Repeats, Control, is_child, is_capture, is_repeat, Doubled, Body, over, control, words, Suffix, NoRepeat, ReadsSeparator}
use Rattle.grammar.specs.Marks.{begins, ends, closes}
use Rattle.grammar.specs.Numbers.{numeral}
use Rattle.grammar.specs.Readings.{Piece, text, Separator, Repeat, NoText}
use Rattle.codes.specs.Acceptable.{clear}

abbrev pub Clears : Separator → Type 0
Clears r = clear (not (eqb r.right 0)) r.pieces ≡ true

-- no `)` stands last in front of a `$`
closes-between : (a b : List ℕ) → closes (a ++ b) ≡ false → (ends 41 a && begins 36 b) ≡ false
closes-between [] b h = refl
closes-between (c ∷ []) b h = (or_parts (eqb c 41 && begins 36 b) (closes b) h).0
closes-between (c ∷ d ∷ a) b h = closes-between (d ∷ a) b (or_parts (eqb c 41 && eqb d 36) (closes (d ∷ a ++ b)) h).1

ends_right : (d : ℕ) (m : Bool) (a b : List ℕ) → (ends d (a ++ b) && m) ≡ false → (ends d b && m) ≡ false
ends_right d m [] b h = h
ends_right d m (c ∷ []) [] h = refl
ends_right d m (c ∷ []) (e ∷ b) h = h
ends_right d m (c ∷ e ∷ a) b h = ends_right d m (e ∷ a) b h

-- ---- a `)$` in a text stands in what was typed
doubled_first : {t u : List ℕ} → Doubled t u → begins 36 u ≡ true → begins 36 t ≡ true
doubled_first Doubled.done e = e
doubled_first (Doubled.mark p) e = refl
doubled_first (Doubled.other h p) e = e

doubled_closes : {t u : List ℕ} → Doubled t u → closes t ≡ false → closes u ≡ false
doubled_closes Doubled.done h = refl
doubled_closes (Doubled.mark p) h = doubled_closes p h
doubled_closes (Doubled.other {c} {t} {u} e p) h =
    let k = or_parts (eqb c 41 && begins 36 t) (closes t) h in
    or_from _ _ (keeps c t u (doubled_first p) k.0) (doubled_closes p k.1)

doubled_ends : {t u : List ℕ} → Doubled t u → ends 41 t ≡ false → ends 41 u ≡ false
doubled_ends Doubled.done h = refl
doubled_ends (Doubled.mark Doubled.done) h = refl
doubled_ends (Doubled.mark (Doubled.mark p)) h = doubled_ends (Doubled.mark p) h
doubled_ends (Doubled.mark (Doubled.other e p)) h = doubled_ends (Doubled.other e p) h
doubled_ends (Doubled.other e Doubled.done) h = h
doubled_ends (Doubled.other e (Doubled.mark p)) h = doubled_ends (Doubled.mark p) h
doubled_ends (Doubled.other e (Doubled.other f p)) h = doubled_ends (Doubled.other f p) h

-- ---- the body
control_first_lem : {c : List ℕ} {p : Piece ⊥} (t : List ℕ) → Control NoRepeat c p → begins 36 (c ++ t) ≡ true
control_first_lem t (is_child h k) = refl
control_first_lem t (is_capture h) = refl
control_first_lem t (is_repeat h) = absurd h

and_true : (a b : Bool) → b ≡ true → (a && b) ≡ false → a ≡ false
and_true true b e h = sym e ∙ h
and_true false b e h = refl

clear_control : {c : List ℕ} {p : Piece ⊥} (m : Bool) (ps : List (Piece ⊥)) → Control NoRepeat c p → clear m ps ≡ true → clear m (p ∷ ps) ≡ true
clear_control m ps (is_child g h) k = k
clear_control m ps (is_capture h) k = k
clear_control m ps (is_repeat h) k = absurd h

body_clear : (m : Bool) {t : List ℕ} {ps : List (Piece ⊥)} → Body NoRepeat t ps → closes t ≡ false → (ends 41 t && m) ≡ false → clear m ps ≡ true
body_clear m over h e = refl
body_clear m (control {c} {t} {p} {ps} g b) h e = clear_control m ps g (body_clear m b (closes_right c t h) (ends_right 41 m c t e))
body_clear m (words {c} {t} {b} {bs} {ps} g n r) h e = go r n (closes-left c t h, closes-between c t h) e (body_clear m r (closes_right c t h) (ends_right 41 m c t e))
  where
    half : (k : Bool) → (ends 41 c && k) ≡ false → (ends 41 (b ∷ bs) && k) ≡ false
    half true z = and_left (ends 41 (b ∷ bs)) true (doubled_ends g (and_true (ends 41 c) true refl z))
    half false z = and_right (ends 41 (b ∷ bs)) false refl

    go : {t : List ℕ} {ps : List (Piece ⊥)} → Body NoRepeat t ps → NoText ps → (closes c ≡ false) × ((ends 41 c && begins 36 t) ≡ false) → (ends 41 (c ++ t) && m) ≡ false → clear m ps ≡ true → clear m (text b bs ∷ ps) ≡ true
    go over n q e k = and_from _ _ (not_from_false _ (doubled_closes g q.0)) (not_from_false _ (half m (subst (λ (l : List ℕ). (ends 41 l && m) ≡ false) (append-nil c) e)))
    go (control {c = c'} {t = t'} f r) n q e k = and_from _ _ (not_from_false _ (doubled_closes g q.0)) (and_from _ _ (not_from_false _ (doubled_ends g (and_true (ends 41 c) (begins 36 (c' ++ t')) (control_first_lem t' f) q.1))) k)
    go (words f n' r) n q e k = absurd n

-- ---- a reading
suffix_closes : {t body : List ℕ} {r : ℕ} → Suffix t r body → closes t ≡ false → (closes body ≡ false) × ((ends 41 body && not (eqb r 0)) ≡ false)
suffix_closes (Suffix.absent {t} e) h = (h, and_right (ends 41 t) false refl)
suffix_closes (Suffix.stands {n} {t} w) h =
    let p = and_true (ends 41 t) true refl (closes-between t (36 ∷ numeral n ++ 36 ∷ []) h) in
    (closes-left t (36 ∷ numeral n ++ 36 ∷ []) h, and_left (ends 41 t) (not (eqb n 0)) p)

reads-clear : (t : List ℕ) (r : Separator) → ReadsSeparator t r → closes t ≡ false → Clears r
reads-clear t r g h =
    let s = suffix_closes g.suffix (prefix_closes g.prefix h) in
    body_clear (not (eqb r.right 0)) g.pieces s.0 s.1

three_clear : {t : List ℕ} {a b c : Separator} → Separators ReadsSeparator t a b c → closes t ≡ false → Clears a × Clears b × Clears c
three_clear (Separators.unwritten {x} {y} {z} f g k) h = (reads-clear [] x f refl, reads-clear [] y g refl, reads-clear [] z k refl)
three_clear (Separators.single {m} {x} {y} {z} p f g k) h = (reads-clear [] x f refl, reads-clear m y g (part_closes p h).0, reads-clear [] z k refl)
three_clear (Separators.triple {l} {m} {r} {x} {y} {z} p f g k) h =
    let q = part_closes p h in
    (reads-clear l x f q.0, reads-clear m y g q.1.0, reads-clear r z k q.1.1.0)

pub separators_clear : (t s : List ℕ) (x : Repeat) → Repeats ReadsSeparator t s x → Clears x.before × Clears x.between × Clears x.behind
separators_clear t s x g =
    let u = g.powers ++ g.separators in
    let h : closes (g.path ++ (46 ∷ 46 ∷ numeral x.to ++ u)) ≡ false = subst (λ (l : List ℕ). closes l ≡ false) g.is g.first in
    three_clear g.three (closes_right g.powers g.separators (closes_right (46 ∷ 46 ∷ numeral x.to) u (closes_right g.path (46 ∷ 46 ∷ numeral x.to ++ u) h)))
