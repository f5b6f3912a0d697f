-- What grammar and limits accept is formed, and its code is decoded.
use Rattle.std.proofs.Common.{◌≡◌, ℕ, true, not, ◌&&◌, eqb, leb, List, [], ◌∷◌, ◌++◌, length, subst, arith}
use Rattle.std.proofs.lemmas.Bool.{and_parts, and_from}
use Rattle.std.specs.List.{AllByRecursion as All}
use Rattle.grammar.specs.Deep.{within_by, limited_separator, limited_repeat}
use Rattle.grammar.specs.Grammar.{Path, last, step, Pair, one, two, ChildPowers, untyped, typed, Powers, Parted, Separators, Repeats, Control, is_child, is_capture, is_repeat, Doubled, Body, over, control, words, Prefix, Suffix, ReadsBy, ReadsSeparator}
use Rattle.grammar.specs.Limits.{step_allowance, piece_allowance}
use Rattle.grammar.specs.Numbers.{numeral}
use Rattle.grammar.specs.Readings.{Piece, Reading, Separator, Repeat, Byte, Power, Index}
use Rattle.codes.specs.Acceptable.{clear, separates, repeats}
use Rattle.codes.specs.Formed.{Fits, Apart, Formed, FormedSeparator, FormedRepeat}
use Rattle.codes.specs.Laws.{AcceptedFormed}
use Rattle.codes.proofs.Clear.{Clears, separators_clear}

-- ---- numbers
path_formed : {t s : List ℕ} {i : ℕ} → Path t s i → All Index s × Index i
path_formed (last k) = (tt, k)
path_formed (step h p) = let q = path_formed p in ((h, q.0), q.1)

pair_formed : {t : List ℕ} {l r : ℕ} → Pair t l r → Power l × Power r
pair_formed (one h) = (h, h)
pair_formed (two h k) = (h, k)

child_formed : {t : List ℕ} {l r : ℕ} → ChildPowers t l r → Power l × Power r
child_formed untyped = (omega arith, omega arith)
child_formed (typed p) = pair_formed p

powers_formed : {t : List ℕ} {a b c d : ℕ} → Powers t a b c d → Power a × Power b × Power c × Power d
powers_formed Powers.none = (omega arith, omega arith, omega arith, omega arith)
powers_formed (Powers.a h) = (h, h, h, h)
powers_formed (Powers.ab h k) = (omega arith, h, k, omega arith)
powers_formed (Powers.a_b h k) = (h, omega arith, omega arith, k)
powers_formed (Powers.ab_c h k l) = (omega arith, h, k, l)
powers_formed (Powers.a_bc h k l) = (h, k, l, omega arith)
powers_formed (Powers.a_b_c h k l) = (h, k, k, l)
powers_formed (Powers.a_bc_d h k l m) = (h, k, l, m)

-- ---- bytes
bytes_left : (a b : List ℕ) → All Byte (a ++ b) → All Byte a
bytes_left [] b h = tt
bytes_left (c ∷ a) b h = (h.0, bytes_left a b h.1)

bytes_right : (a b : List ℕ) → All Byte (a ++ b) → All Byte b
bytes_right [] b h = h
bytes_right (c ∷ a) b h = bytes_right a b h.1

doubled_bytes : {t u : List ℕ} → Doubled t u → All Byte t → All Byte u
doubled_bytes Doubled.done h = tt
doubled_bytes (Doubled.mark p) h = (h.0, doubled_bytes p h.1.1)
doubled_bytes (Doubled.other e p) h = (h.0, doubled_bytes p h.1)

parted-bytes : {t u : List ℕ} {us : List (List ℕ)} → Parted t u us → All Byte t → All Byte u × All (All Byte) us
parted-bytes Parted.end h = (tt, tt)
parted-bytes (Parted.pair p) h = let q = parted-bytes p h.1.1 in ((h.0, q.0), q.1)
parted-bytes (Parted.part e p) h = let q = parted-bytes p h.1 in (tt, q)
parted-bytes (Parted.other e p) h = let q = parted-bytes p h.1 in ((h.0, q.0), q.1)

-- ---- readings; F holds of what a repeat has behind its steps
abbrev Forms : {R : Type 0} → (List ℕ → List ℕ → R → Type 0) → (R → Type 0) → Type 0
Forms {R} Q F = (t s : List ℕ) (x : R) → All Byte t → Q t s x → All Index s × F x

control_fits : {R : Type 0} {Q : List ℕ → List ℕ → R → Type 0} {F : R → Type 0} → Forms Q F → {c : List ℕ} {p : Piece R} → Control Q c p → All Byte c → Fits F p
control_fits g (is_child p q) h = let a = path_formed p in let b = child_formed q in (a.0, a.1, b.0, b.1)
control_fits g (is_capture k) h = k
control_fits g (is_repeat {t} {s} {x} q) h = g t s x (bytes_left t (41 ∷ 36 ∷ []) h.1.1.1) q

body_fits : {R : Type 0} {Q : List ℕ → List ℕ → R → Type 0} {F : R → Type 0} → Forms Q F → {t : List ℕ} {ps : List (Piece R)} → Body Q t ps → All Byte t → All (Fits F) ps
body_fits g over h = tt
body_fits g (control {c} {t} k b) h = (control_fits g k (bytes_left c t h), body_fits g b (bytes_right c t h))
body_fits g (words {c} {t} d n b) h = (doubled_bytes d (bytes_left c t h), body_fits g b (bytes_right c t h))

control_apart : {R : Type 0} {Q : List ℕ → List ℕ → R → Type 0} {c : List ℕ} {p : Piece R} (ps : List (Piece R)) → Control Q c p → Apart ps → Apart (p ∷ ps)
control_apart ps (is_child p q) h = h
control_apart ps (is_capture k) h = h
control_apart ps (is_repeat q) h = h

body_apart : {R : Type 0} {Q : List ℕ → List ℕ → R → Type 0} {t : List ℕ} {ps : List (Piece R)} → Body Q t ps → Apart ps
body_apart over = tt
body_apart (control {ps} k b) = control_apart ps k (body_apart b)
body_apart (words d n b) = (n, body_apart b)

prefix_formed : {t rest : List ℕ} {n : ℕ} → Prefix t n rest → All Byte t → Power n × All Byte rest
prefix_formed (Prefix.absent e) h = (omega arith, h)
prefix_formed (Prefix.stands {n} {t} w) h = (w, (bytes_right (numeral n) (36 ∷ t) h.1).1)

suffix_formed : {t body : List ℕ} {n : ℕ} → Suffix t n body → All Byte t → Power n × All Byte body
suffix_formed (Suffix.absent e) h = (omega arith, h)
suffix_formed (Suffix.stands {n} {t} w) h = (w, bytes_left t (36 ∷ numeral n ++ 36 ∷ []) h)

reads_formed : {R : Type 0} {Q : List ℕ → List ℕ → R → Type 0} {F : R → Type 0} → Forms Q F → (t : List ℕ) (r : Reading R) → ReadsBy Q t r → All Byte t → Formed F r
reads_formed g t r k h =
    let p = prefix_formed k.prefix h in
    let s = suffix_formed k.suffix p.1 in
    record { left = p.0; right = s.0; fits = body_fits g k.pieces s.1; apart = body_apart k.pieces }

separator_formed : (t : List ℕ) (r : Separator) → ReadsSeparator t r → All Byte t → FormedSeparator r
separator_formed t r k h = reads_formed (λ t s x b q. absurd q) t r k h

three_formed : {t : List ℕ} {a b c : Separator} → Separators ReadsSeparator t a b c → All Byte t → FormedSeparator a × FormedSeparator b × FormedSeparator c
three_formed (Separators.unwritten {x} {y} {z} f g k) h = (separator_formed [] x f tt, separator_formed [] y g tt, separator_formed [] z k tt)
three_formed (Separators.single {m} {x} {y} {z} p f g k) h = (separator_formed [] x f tt, separator_formed m y g (parted-bytes p h.1).0, separator_formed [] z k tt)
three_formed (Separators.triple {l} {m} {r} {x} {y} {z} p f g k) h =
    let q = parted-bytes p h.1 in
    (separator_formed l x f q.0, separator_formed m y g q.1.0, separator_formed r z k q.1.1.0)

repeat_formed : Forms (Repeats ReadsSeparator) FormedRepeat
repeat_formed t s x h g =
    let u = g.powers ++ g.separators in
    let b = subst (All Byte) g.is h in
    let c = bytes_right g.powers g.separators (bytes_right (46 ∷ 46 ∷ numeral x.to) u (bytes_right g.path (46 ∷ 46 ∷ numeral x.to ++ u) b)) in
    let p = path_formed g.steps in
    let n = powers_formed g.given in
    let q = three_formed g.three c in
    (p.0, record { from = p.1; to = g.index; left = n.0; middle_left = n.1; middle_right = n.2; right = n.3; before = q.0; between = q.1; behind = q.2 })

-- ---- limits
separates-from : (r : Separator) → limited_separator r ≡ true → Clears r → separates step_allowance r ≡ true
separates-from r h k = and_from (limited_separator r) (clear (not (eqb r.right 0)) r.pieces) h k

repeats-from : (t s : List ℕ) (x : Repeat) → Repeats ReadsSeparator t s x → limited_repeat x ≡ true → repeats step_allowance x ≡ true
repeats-from t s x g h =
    let c = separators_clear t s x g in
    let p = and_parts (limited_separator x.before) (limited_separator x.between && limited_separator x.behind) h in
    let q = and_parts (limited_separator x.between) (limited_separator x.behind) p.1 in
    and_from _ _ (separates-from x.before p.0 c.0) (and_from _ _ (separates-from x.between q.0 c.1) (separates-from x.behind q.1 c.2))

abbrev Within : List (Piece Repeat) → Type 0
Within ps = within_by step_allowance (repeats step_allowance) ps ≡ true

abbrev Limited : List (Piece Repeat) → Type 0
Limited ps = within_by step_allowance limited_repeat ps ≡ true

control_within : {c : List ℕ} {p : Piece Repeat} (ps : List (Piece Repeat)) → Control (Repeats ReadsSeparator) c p → Limited (p ∷ ps) → (Limited ps → Within ps) → Within (p ∷ ps)
control_within ps (is_child {s} p q) h f =
    let k = and_parts (leb (length s) step_allowance) (within_by step_allowance limited_repeat ps) h in
    and_from _ _ k.0 (f k.1)
control_within ps (is_capture k) h f = f h
control_within ps (is_repeat {t} {s} {x} g) h f =
    let k = and_parts (leb (length s) step_allowance) (limited_repeat x && within_by step_allowance limited_repeat ps) h in
    let l = and_parts (limited_repeat x) (within_by step_allowance limited_repeat ps) k.1 in
    and_from _ _ k.0 (and_from _ _ (repeats-from t s x g l.0) (f l.1))

body_within : {t : List ℕ} {ps : List (Piece Repeat)} → Body (Repeats ReadsSeparator) t ps → Limited ps → Within ps
body_within over h = h
body_within (control {ps} k b) h = control_within ps k h (body_within b)
body_within (words d n b) h = body_within b h

pub accepted_formed : AcceptedFormed
accepted_formed cs r a =
    let p = and_parts (leb (length r.pieces) piece_allowance) (within_by step_allowance limited_repeat r.pieces) a.within in
    (reads_formed repeat_formed cs r a.reads a.typed, and_from _ _ p.0 (body_within a.reads.pieces p.1))
