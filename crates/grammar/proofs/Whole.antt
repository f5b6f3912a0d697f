-- The whole reading of a template is the grammar's.
use Rattle.std.proofs.Common.{◌≡◌, ℕ, suc, ◌+◌, true, ◌&&◌, leb, List, [], ◌∷◌, length, Ok, sym, refl, ap, ◌∙◌, subst, ap₂}
use Rattle.std.proofs.lemmas.Bool.{and_parts}
use Rattle.refusal.specs.Refusals.{of_template}
use Rattle.grammar.specs.Deep.{texted, repeat_from, deep_from, deepened, reading_at, within, limited_by, limited_repeat, limited}
use Rattle.grammar.specs.Grammar.{Repeats, is_child, is_capture, is_repeat, Body, over, control, words, ReadsSeparator, Reads}
use Rattle.grammar.specs.Laws.{ReadAsTheGrammar}
use Rattle.grammar.specs.Limits.{step_allowance, piece_allowance}
use Rattle.grammar.specs.Marks.{halve}
use Rattle.grammar.specs.Numbers.{bits}
use Rattle.grammar.specs.Paths.{steps_of}
use Rattle.grammar.specs.Readings.{Piece, text, child, capture, repeat, RepeatOf, Repeat, Template, Unread, NoText}
use Rattle.grammar.specs.Results.{on_ok, on_err}
use Rattle.grammar.specs.Shapes.{Shape, typed_text, typed_child, typed_repeat, typed_capture}
use Rattle.grammar.specs.Templates.{Typed, template_at}
use Rattle.grammar.proofs.Chains.{by_on_ok, by_on_err, same_ok}
use Rattle.grammar.proofs.Deepened.{Alike, repeat_read, repeat_raw, alike_limited, repeat_forth, repeat_back_lem}
use Rattle.grammar.proofs.Unread.{Raw, unread_repeat, unreads, unread, stepped, UnreadForth, UnreadBack, Open, SeparatorsOpen}

-- ---- pieces one by one the same, the separators of repeats read
pub data Deepens : List (Piece (RepeatOf (List ℕ))) → List (Piece Repeat) → Type 0 where
  none : Deepens [] []
  on_text : {b : ℕ} {bs : List ℕ} {ps : List (Piece (RepeatOf (List ℕ)))} {qs : List (Piece Repeat)} → Deepens ps qs → Deepens (text b bs ∷ ps) (text b bs ∷ qs)
  on_child : {s : List ℕ} {i l r : ℕ} {ps : List (Piece (RepeatOf (List ℕ)))} {qs : List (Piece Repeat)} → Deepens ps qs → Deepens (child s i l r ∷ ps) (child s i l r ∷ qs)
  on_capture : {n : ℕ} {ps : List (Piece (RepeatOf (List ℕ)))} {qs : List (Piece Repeat)} → Deepens ps qs → Deepens (capture n ∷ ps) (capture n ∷ qs)
  on_repeat : {s : List ℕ} {x : RepeatOf (List ℕ)} {y : Repeat} {ps : List (Piece (RepeatOf (List ℕ)))} {qs : List (Piece Repeat)} → Alike x y → Deepens ps qs → Deepens (repeat s x ∷ ps) (repeat s y ∷ qs)

deepens_length : {ps : List (Piece (RepeatOf (List ℕ)))} {qs : List (Piece Repeat)} → Deepens ps qs → length ps ≡ length qs
deepens_length none = refl
deepens_length (on_text d) = ap suc (deepens_length d)
deepens_length (on_child d) = ap suc (deepens_length d)
deepens_length (on_capture d) = ap suc (deepens_length d)
deepens_length (on_repeat k d) = ap suc (deepens_length d)

deepens_within : {ps : List (Piece (RepeatOf (List ℕ)))} {qs : List (Piece Repeat)} → Deepens ps qs → stepped ps ≡ within limited_repeat qs
deepens_within none = refl
deepens_within (on_text d) = deepens_within d
deepens_within (on_child {s} d) = ap (λ b. leb (length s) step_allowance && b) (deepens_within d)
deepens_within (on_capture d) = deepens_within d
deepens_within (on_repeat {s} {qs = qs} k d) =
    ap₂ (λ a b. leb (length s) step_allowance && (a && b)) (sym (alike_limited k)) (deepens_within d)

deepens_no_text : {ps : List (Piece (RepeatOf (List ℕ)))} {qs : List (Piece Repeat)} → Deepens ps qs → NoText ps → NoText qs
deepens_no_text none n = tt
deepens_no_text (on_text d) n = n
deepens_no_text (on_child d) n = tt
deepens_no_text (on_capture d) n = tt
deepens_no_text (on_repeat k d) n = tt

no_text_deepens : {ps : List (Piece (RepeatOf (List ℕ)))} {qs : List (Piece Repeat)} → Deepens ps qs → NoText qs → NoText ps
no_text_deepens none n = tt
no_text_deepens (on_text d) n = n
no_text_deepens (on_child d) n = tt
no_text_deepens (on_capture d) n = tt
no_text_deepens (on_repeat k d) n = tt

-- ---- the grammar
body_read : {cs : List ℕ} {ps : List (Piece (RepeatOf (List ℕ)))} {qs : List (Piece Repeat)} → Body Raw cs ps → Deepens ps qs → Body (Repeats ReadsSeparator) cs qs
body_read over none = over
body_read (control (is_child g h) b) (on_child d) = control (is_child g h) (body_read b d)
body_read (control (is_capture g) b) (on_capture d) = control (is_capture g) (body_read b d)
body_read (control (is_repeat g) b) (on_repeat k d) = control (is_repeat (repeat_read g k)) (body_read b d)
body_read (words g n b) (on_text d) = words g (deepens_no_text d n) (body_read b d)

-- the pieces with their separators as texts
record Underlies (cs : List ℕ) (qs : List (Piece Repeat)) : Type 0 where
  pieces : List (Piece (RepeatOf (List ℕ)))
  body : Body Raw cs pieces
  deepens : Deepens pieces qs

body_raw : SeparatorsOpen → {cs : List ℕ} {qs : List (Piece Repeat)} → Body (Repeats ReadsSeparator) cs qs → within limited_repeat qs ≡ true → Underlies cs qs
body_raw opened over h = record { pieces = []; body = over; deepens = none }
body_raw opened (control {ps = ps} (is_child {s = s} {i} {l} {r} f g) b) h =
    let u = body_raw opened b (and_parts (leb (length s) step_allowance) (within limited_repeat ps) h).1 in
    record { pieces = child s i l r ∷ u.pieces; body = control (is_child f g) u.body; deepens = on_child u.deepens }
body_raw opened (control (is_capture {n} g) b) h =
    let u = body_raw opened b h in
    record { pieces = capture n ∷ u.pieces; body = control (is_capture g) u.body; deepens = on_capture u.deepens }
body_raw opened (control {ps = ps} (is_repeat {t} {s} {x = y} g) b) h =
    let p = and_parts (leb (length s) step_allowance) (limited_repeat y && within limited_repeat ps) h in
    let q = and_parts (limited_repeat y) (within limited_repeat ps) p.1 in
    let k = repeat_raw opened t s y g q.0 in
    let u = body_raw opened b q.1 in
    record { pieces = repeat s k.0 ∷ u.pieces; body = control (is_repeat k.1) u.body; deepens = on_repeat k.2 u.deepens }
body_raw opened (words {b = b} {bs} g n r) h =
    let u = body_raw opened r h in
    record { pieces = text b bs ∷ u.pieces; body = words g (no_text_deepens u.deepens n) u.body; deepens = on_text u.deepens }

-- ---- the reader
abbrev Opened : List (Piece (RepeatOf (List ℕ))) → Type 0
Opened [] = Unit {0}
Opened (text b bs ∷ ps) = Opened ps
Opened (child s i l r ∷ ps) = Opened ps
Opened (capture n ∷ ps) = Opened ps
Opened (repeat s x ∷ ps) = Open x × Opened ps

body_opened : SeparatorsOpen → {cs : List ℕ} {ps : List (Piece (RepeatOf (List ℕ)))} → Body Raw cs ps → Opened ps
body_opened opened over = tt
body_opened opened (control (is_child g h) b) = body_opened opened b
body_opened opened (control (is_capture g) b) = body_opened opened b
body_opened opened (control (is_repeat {t} {s} {x} g) b) = (opened t s x g, body_opened opened b)
body_opened opened (words g n b) = body_opened opened b

texted-opened : (u : List ℕ) (ps : List (Piece (RepeatOf (List ℕ)))) → Opened (texted u ps) → Opened ps
texted-opened [] ps o = o
texted-opened (b ∷ bs) ps o = o

texted_deepens : (u : List ℕ) {ps : List (Piece (RepeatOf (List ℕ)))} {qs : List (Piece Repeat)} → Deepens ps qs → Deepens (texted u ps) (texted u qs)
texted_deepens [] d = d
texted_deepens (b ∷ bs) d = on_text d

texted-back : (u : List ℕ) (ps : List (Piece (RepeatOf (List ℕ)))) {qs : List (Piece Repeat)} → Deepens (texted u ps) qs → (vs : List (Piece Repeat)) × Deepens ps vs × (texted u vs ≡ qs)
texted-back [] ps {qs} d = (qs, d, refl)
texted-back (b ∷ bs) ps (on_text {qs = qs} d) = (qs, d, refl)

pieces_forth : UnreadForth → (n : ℕ) (ss : List Shape) (qs : List (Piece Repeat)) → Opened (unreads ss) → deep_from n ss ≡ Ok qs → Deepens (unreads ss) qs
pieces_forth forth n [] qs o e = subst (Deepens []) (same_ok [] qs e) none
pieces_forth forth n (typed_text t ∷ ss) qs o e =
    let p = by_on_ok (deep_from (n + 1) ss) _ qs e in
    subst (Deepens (texted (halve 36 t) (unreads ss))) (same_ok (texted (halve 36 t) p.0) qs p.2)
    (texted_deepens (halve 36 t) (pieces_forth forth (n + 1) ss p.0 (texted-opened (halve 36 t) (unreads ss) o) p.1))
pieces_forth forth n (typed_child a i b ∷ ss) qs o e =
    let p = by_on_ok (deep_from (n + 1) ss) _ qs e in
    subst (Deepens (child (steps_of a) (bits i.0) b.left b.right ∷ unreads ss)) (same_ok (child (steps_of a) (bits i.0) b.left b.right ∷ p.0) qs p.2)
    (on_child (pieces_forth forth (n + 1) ss p.0 o p.1))
pieces_forth forth n (typed_repeat x ∷ ss) qs o e =
    let y = by_on_ok (repeat_from n x) _ qs e in
    let p = by_on_ok (deep_from (n + 1) ss) _ qs y.2 in
    subst (Deepens (repeat (steps_of x.path) (unread_repeat x) ∷ unreads ss)) (same_ok (repeat (steps_of x.path) y.0 ∷ p.0) qs p.2)
    (on_repeat (repeat_forth forth n x y.0 o.0 y.1) (pieces_forth forth (n + 1) ss p.0 o.1 p.1))
pieces_forth forth n (typed_capture k ∷ ss) qs o e =
    let p = by_on_ok (deep_from (n + 1) ss) _ qs e in
    subst (Deepens (capture k ∷ unreads ss)) (same_ok (capture k ∷ p.0) qs p.2)
    (on_capture (pieces_forth forth (n + 1) ss p.0 o p.1))

pieces_back : UnreadBack → (n : ℕ) (ss : List Shape) {qs : List (Piece Repeat)} → Deepens (unreads ss) qs → deep_from n ss ≡ Ok qs
pieces_back back n [] none = refl
pieces_back back n (typed_text t ∷ ss) d =
    let k = texted-back (halve 36 t) (unreads ss) d in
    rw (pieces_back back (n + 1) ss k.1) (ap (λ l. Ok l) k.2)
pieces_back back n (typed_child a i b ∷ ss) (on_child d) = rw (pieces_back back (n + 1) ss d)
pieces_back back n (typed_repeat x ∷ ss) (on_repeat {y = y} k d) = rw (repeat_back_lem back n x y k, pieces_back back (n + 1) ss d)
pieces_back back n (typed_capture k ∷ ss) (on_capture d) = rw (pieces_back back (n + 1) ss d)

-- ---- the whole
deepens_limited : (l r a b : ℕ) {ps : List (Piece (RepeatOf (List ℕ)))} {qs : List (Piece Repeat)} → Deepens ps qs
    → limited_by (λ x. true) (record { left = l; right = r; pieces = ps }) ≡ limited (record { left = a; right = b; pieces = qs })
deepens_limited l r a b d = ap₂ (λ n w. leb n piece_allowance && w) (deepens_length d) (deepens_within d)

abbrev Accepted : List ℕ → Template → Type 0
Accepted cs r = Reads cs r × (limited r ≡ true)

deepened_forth : UnreadForth → SeparatorsOpen → (cs : List ℕ) (t : Typed) (r : Template) → template_at cs ≡ Ok t → deepened t ≡ Ok r → Accepted cs r
deepened_forth forth opened cs t r e f =
    let g = forth cs t e in
    let p = by_on_ok (deep_from 0 t.shapes) _ r f in
    let d = pieces_forth forth 0 t.shapes p.0 (body_opened opened g.0.pieces) p.1 in
    subst (Accepted cs) (same_ok (record { left = t.left; right = t.right; pieces = p.0 }) r p.2) (
      record { rest = g.0.rest; body = g.0.body; prefix = g.0.prefix; suffix = g.0.suffix; pieces = body_read g.0.pieces d },
      sym (deepens_limited t.left t.right t.left t.right d) ∙ g.1,
    )

deepened-back : UnreadBack → (t : Typed) (u : Unread) (r : Template) → unread t ≡ u → u.left ≡ r.left → u.right ≡ r.right → Deepens u.pieces r.pieces → deepened t ≡ Ok r
deepened-back back t u r e a b d =
    let k : deep_from 0 t.shapes ≡ Ok r.pieces = pieces_back back 0 t.shapes (subst (λ (l : List (Piece (RepeatOf (List ℕ)))). Deepens l r.pieces) (sym (ap (λ (u : Unread). u.pieces) e)) d) in
    rw k (ap₂ (λ l m. Ok (record { left = l; right = m; pieces = r.pieces })) (ap (λ (u : Unread). u.left) e ∙ a) (ap (λ (u : Unread). u.right) e ∙ b))

read_back : UnreadBack → SeparatorsOpen → (cs : List ℕ) (r : Template) → Accepted cs r → reading_at cs ≡ Ok r
read_back back opened cs r g =
    let u = body_raw opened g.0.pieces (and_parts (leb (length r.pieces) piece_allowance) (within limited_repeat r.pieces) g.1).1 in
    let v : Unread = record { left = r.left; right = r.right; pieces = u.pieces } in
    let f = back cs v
    (record { rest = g.0.rest; body = g.0.body; prefix = g.0.prefix; suffix = g.0.suffix; pieces = u.body })
    (deepens_limited r.left r.right r.left r.right u.deepens ∙ g.1) in
    ap (λ m. on_ok (on_err of_template m) deepened) f.reads ∙ deepened-back back f.typed v r f.means refl refl u.deepens

pub read_as_the_grammar_lem : UnreadForth → UnreadBack → SeparatorsOpen → ReadAsTheGrammar
read_as_the_grammar_lem forth back opened cs r = (
  (λ e. let p = by_on_ok (on_err of_template (template_at cs)) deepened r e in deepened_forth forth opened cs p.0 r (by_on_err of_template (template_at cs) p.0 p.1) p.2),
  read_back back opened cs r,
)

-- both are what the reader answers
pub readings_are_unique : ReadAsTheGrammar → (cs : List ℕ) (r q : Template) → Reads cs r → Reads cs q → limited r ≡ true → limited q ≡ true → r ≡ q
readings_are_unique law cs r q g h l m = same_ok r q (sym ((law cs r).1 (g, l)) ∙ (law cs q).1 (h, m))
