-- What a piece is: a text has bytes, and a separator is no longer than the text that its repeat stands in.
use Rattle.std.proofs.Common.{◌≡◌, ℕ, zero, suc, ◌+◌, ◌-◌, ◌≤◌, Bool, true, false, cond, eqb, ◌⊎◌, List, [], ◌∷◌, length, take, drop, ℤ, pos, negsuc, IfOk, Some, None, Ok, Err, Option, Result, sym, refl, ap, subst, inl, inr, ⊎_elim, arith, length-drop, length-take}
use Rattle.std.proofs.lemmas.Bool.{cond_both}
use Rattle.refusal.specs.declared.error.ClosingMark.{ClosingMark}
use Rattle.refusal.specs.declared.error.ClosingMark.TheVariants.{Square, Round, Curly}
use Rattle.refusal.specs.declared.error.FormatterError.TheVariants.{IncorrectControl, MissingControl, TooManyControl}
use Rattle.refusal.specs.declared.error.PartingMark.TheVariants.{Bar}
use Rattle.controls.specs.Views.{shape}
use Rattle.controls.specs.declared.defns_const.SubFormatterConst.{SubFormatterConst}
use Rattle.controls.specs.declared.defns_const.SubFormatterConst.TheVariants.{String, Single, Repeat, Capture}
use Rattle.grammar.specs.Controls.{child_powers, child_at, captured, capture_at, Parts, third_part, second_part, separators_at, repeat_parts, repeated, front_at, repeat_at, closed_by, control_at}
use Rattle.grammar.specs.Limits.{template_limit}
use Rattle.grammar.specs.Marks.{up_to, first_mark, unpaired}
use Rattle.grammar.specs.Numbers.{number_at}
use Rattle.grammar.specs.Paths.{path_at}
use Rattle.grammar.specs.Results.{on_ok, on_some, refusal, Fault}
use Rattle.grammar.specs.Shapes.{Shape, typed_text, typed_child, typed_repeat, typed_capture}
use Rattle.grammar.proofs.Chains.{same_some, nothing}
use Rattle.templates.specs.Outputs.{first_outputs, outputs_of}
use Rattle.templates.specs.Views.{okay, control_first, output_at}
use Rattle.templates.specs.declared.defns_const.FormatterConst.{FormatterConst}
use Rattle.formatter.specs.Views.{Short}

abbrev ShortParts : ℕ → Parts → Type 0
ShortParts n s = (length s.0 ≤ n) × (length s.1 ≤ n) × (length s.2 ≤ n)

-- a control is no text
abbrev ShortControl : ℕ → Shape → Type 0
ShortControl n (typed_text t) = ⊥
ShortControl n (typed_child p i b) = Unit {0}
ShortControl n (typed_repeat x) = (length x.left_sep ≤ n) × (length x.middle_sep ≤ n) × (length x.right_sep ≤ n)
ShortControl n (typed_capture k) = Unit {0}

then : {A B E : Type 0} (m : Result A E) (k : A → Result B E) (P : A → Type 0) (Q : B → Type 0) → IfOk m P → ((x : A) → P x → IfOk (k x) Q) → IfOk (on_ok m k) Q
then (Ok x) k P Q h g = g x h
then (Err e) k P Q h g = tt

anyway : {A B E : Type 0} (m : Result A E) (k : A → Result B E) (Q : B → Type 0) → ((x : A) → IfOk (k x) Q) → IfOk (on_ok m k) Q
anyway (Ok x) k Q g = g x
anyway (Err e) k Q g = tt

-- ---- the separators of a repeat
front : (n k : ℕ) (cs : List ℕ) → length cs ≤ n → length (take k cs) ≤ n
front n k cs h = omega (arith, length-take k cs)

back : (n k : ℕ) (cs : List ℕ) → length cs ≤ n → length (drop k cs) ≤ n
back n k cs h = omega (arith, length-drop k cs)

third : (n : ℕ) (l m : List ℕ) (place : ℕ) (cs : List ℕ) → length l ≤ n → length m ≤ n → length cs ≤ n → IfOk (third_part l m place cs) (ShortParts n)
third n l m place cs f g h =
    cond_both (eqb (unpaired 124 cs) (length cs)) (Ok (l, m, cs)) (refusal (TooManyControl Bar) (place + (unpaired 124 cs + 1)) (length cs - (unpaired 124 cs + 1))) (λ r. IfOk r (ShortParts n)) (λ _. (f, g, h)) (λ _. tt)

second : (n : ℕ) (l : List ℕ) (place : ℕ) (cs : List ℕ) → length l ≤ n → length cs ≤ n → IfOk (second_part l place cs) (ShortParts n)
second n l place cs f h =
    cond_both (eqb (unpaired 124 cs) (length cs)) (refusal (TooManyControl Bar) place (length cs)) (third_part l (take (unpaired 124 cs) cs) (place + (unpaired 124 cs + 1)) (drop (unpaired 124 cs + 1) cs)) (λ r. IfOk r (ShortParts n)) (λ _. tt)
    (λ _. third n l (take (unpaired 124 cs) cs) (place + (unpaired 124 cs + 1)) (drop (unpaired 124 cs + 1) cs) f (front n (unpaired 124 cs) cs h) (back n (unpaired 124 cs + 1) cs h))

separators : (n place : ℕ) (cs : List ℕ) → length cs ≤ n → IfOk (separators_at place cs) (ShortParts n)
separators n place cs h =
    cond_both (eqb (unpaired 124 cs) (length cs)) (Ok ([], cs, [])) (second_part (take (unpaired 124 cs) cs) (place + (unpaired 124 cs + 1)) (drop (unpaired 124 cs + 1) cs)) (λ r. IfOk r (ShortParts n)) (λ _. (omega arith, h, omega arith))
    (λ _. second n (take (unpaired 124 cs) cs) (place + (unpaired 124 cs + 1)) (drop (unpaired 124 cs + 1) cs) (front n (unpaired 124 cs) cs h) (back n (unpaired 124 cs + 1) cs h))

parts : (n place : ℕ) (cs : List ℕ) (dollar : ℕ) → length cs ≤ n → IfOk (repeat_parts place cs dollar) (ShortParts n)
parts n place cs dollar h =
    cond_both (eqb dollar (length cs)) (Ok ([], [], [])) (separators_at (place + (dollar + 1)) (drop (dollar + 1) cs)) (λ r. IfOk r (ShortParts n)) (λ _. (omega arith, omega arith, omega arith))
    (λ _. separators n (place + (dollar + 1)) (drop (dollar + 1) cs) (back n (dollar + 1) cs h))

-- ---- a control
abbrev Shorts : (ℕ → List ℕ → Result Shape Fault) → Type 0
Shorts f = (n place : ℕ) (cs : List ℕ) → length cs ≤ n → IfOk (f place cs) (ShortControl n)

repeats : Shorts repeat_at
repeats n place cs h =
    anyway (front_at place (take (up_to 36 cs) cs)) _ (ShortControl n) (λ f.
    then (repeat_parts place cs (up_to 36 cs)) (λ s. Ok (repeated f.0 f.1 s)) (ShortParts n) (ShortControl n) (parts n place cs (up_to 36 cs) h) (λ s g. g))

children : Shorts child_at
children n place cs h =
    anyway (path_at place (take (up_to 124 cs) cs)) _ (ShortControl n) (λ p. anyway (child_powers place cs (up_to 124 cs)) (λ b. Ok (typed_child (take (up_to 124 cs) cs) p.2 b)) (ShortControl n) (λ b. tt))

one_capture : (n place : ℕ) (cs : List ℕ) (z : ℤ) → IfOk (captured place cs z) (ShortControl n)
one_capture n place cs (pos k) = tt
one_capture n place cs (negsuc k) = tt

captures : Shorts capture_at
captures n place cs h = anyway (number_at place cs) (captured place cs) (ShortControl n) (one_capture n place cs)

abbrev ShortFirst : ℕ → Shape × ℕ → Type 0
ShortFirst n p = ShortControl n p.0

closed : (n b : ℕ) (mark : ClosingMark) (f : ℕ → List ℕ → Result Shape Fault) (place : ℕ) (cs : List ℕ) → Shorts f → length cs ≤ n → (o : Option ℕ)
    → IfOk (on_some o (refusal (MissingControl mark) place (length cs)) (λ at. on_ok (f place (take at cs)) (λ s. Ok (s, at + 3)))) (ShortFirst n)
closed n b mark f place cs g h None = tt
closed n b mark f place cs g h (Some at) = then (f place (take at cs)) (λ s. Ok (s, at + 3)) (ShortControl n) (ShortFirst n) (g n place (take at cs) (front n at cs h)) (λ s k. k)

control : (n place : ℕ) (cs : List ℕ) → length cs ≤ n → IfOk (control_at place cs) (ShortFirst n)
control n place [] h = tt
control n place (c ∷ cs) h =
    let k : length cs ≤ n = omega arith in
    let last : IfOk (cond (eqb c 123) (closed_by 125 Curly capture_at (place + 1) cs) (refusal IncorrectControl place (suc (length cs)))) (ShortFirst n) = cond_both (eqb c 123) (closed_by 125 Curly capture_at (place + 1) cs) (refusal IncorrectControl place (suc (length cs))) (λ r. IfOk r (ShortFirst n)) (λ _. closed n 125 Curly capture_at (place + 1) cs captures k (first_mark 125 36 0 cs)) (λ _. tt) in
    let middle : IfOk (cond (eqb c 40) (closed_by 41 Round repeat_at (place + 1) cs) (cond (eqb c 123) (closed_by 125 Curly capture_at (place + 1) cs) (refusal IncorrectControl place (suc (length cs))))) (ShortFirst n) = cond_both (eqb c 40) (closed_by 41 Round repeat_at (place + 1) cs) _ (λ r. IfOk r (ShortFirst n)) (λ _. closed n 41 Round repeat_at (place + 1) cs repeats k (first_mark 41 36 0 cs)) (λ _. last) in
    cond_both (eqb c 91) (closed_by 93 Square child_at (place + 1) cs) _ (λ r. IfOk r (ShortFirst n)) (λ _. closed n 93 Square child_at (place + 1) cs children k (first_mark 93 36 0 cs)) (λ _. middle)

-- ---- a piece
from-okay : (n : ℕ) (c : Result (Shape × ℕ) Fault) (s : Shape) (u : ℕ) → IfOk c (ShortFirst n) → okay c ≡ Some (s, u) → ShortControl n s
from-okay n (Ok p) s u h e = subst (ShortFirst n) (same_some (p.0, suc p.1) (s, u) e) h
from-okay n (Err x) s u h e = nothing _ e

from_first : (n place : ℕ) (cs : List ℕ) (s : Shape) (u : ℕ) → length cs ≤ n → control_first place cs ≡ Some (s, u) → ShortControl n s
from_first n place [] s u h e = nothing _ e
from_first n place (c ∷ cs) s u h e = let k : length cs ≤ n = omega arith in from-okay n (control_at (place + 1) cs) s u (control n (place + 1) cs k) e

abbrev pub Worded : Shape → Type 0
Worded (typed_text []) = ⊥
Worded (typed_text (b ∷ bs)) = Unit {0}
Worded (typed_child p i b) = Unit {0}
Worded (typed_repeat x) = Unit {0}
Worded (typed_capture k) = Unit {0}

-- a text that has bytes, or a control with short separators
abbrev Sound : ℕ → Shape → Type 0
Sound n s = ShortControl n s ⊎ ((t : List ℕ) × (s ≡ typed_text t) × Worded (typed_text t))

words : (u : ℕ) (cs : List ℕ) → u ≡ unpaired 36 cs → eqb u 0 ≡ false → Worded (typed_text (take u cs))
words zero cs z e = let b : ◌≡◌ {A = ℕ} 0 1 = cc in absurd (omega arith)
words (suc u) [] z e = omega arith
words (suc u) (c ∷ cs) z e = tt

output : (n place u : ℕ) (cs : List ℕ) (b : Bool) → u ≡ unpaired 36 cs → eqb u 0 ≡ b → (s : Shape) (v : ℕ) → length cs ≤ n → cond b (control_first place cs) (Some (typed_text (take u cs), u)) ≡ Some (s, v) → Sound n s
output n place u cs true z k s v h e = inl (from_first n place cs s v h e)
output n place u cs false z k s v h e =
    inr (take u cs, sym (ap (λ (p : Shape × ℕ). p.0) (same_some (typed_text (take u cs), u) (s, v) e)), words u cs z k)

sound : (n place : ℕ) (cs : List ℕ) (s : Shape) (u : ℕ) → length cs ≤ n → output_at place cs ≡ Some (s, u) → Sound n s
sound n place cs s u h e = output n place (unpaired 36 cs) cs (eqb (unpaired 36 cs) 0) refl refl s u h e

controls_worded : (n : ℕ) (s : Shape) → ShortControl n s → Worded s
controls_worded n (typed_text t) h = absurd h
controls_worded n (typed_child p i b) h = tt
controls_worded n (typed_repeat x) h = tt
controls_worded n (typed_capture k) h = tt

pub output_worded : (place : ℕ) (cs : List ℕ) (s : Shape) (u : ℕ) → output_at place cs ≡ Some (s, u) → Worded s
output_worded place cs s u e =
    let h : length cs ≤ length cs = omega arith in
    ⊎_elim (controls_worded (length cs) s) (λ t. subst Worded (sym t.1) t.2) (sound (length cs) place cs s u h e)

seen-short : (p : SubFormatterConst) → Sound template_limit (shape p) → Short p
seen-short (String t) h = tt
seen-short (Single p i b) h = tt
seen-short (Repeat p f t l m r a b c) h = ⊎_elim (λ k. k) (λ k. let z : ◌≡◌ {A = ℕ} 0 1 = cc k.1 in absurd (omega arith)) h
seen-short (Capture n) h = tt

pub output_short : (place : ℕ) (cs : List ℕ) (p : SubFormatterConst) (u : ℕ) → length cs ≤ template_limit → ◌≡◌ {A = Option (Shape × ℕ)} (Some (shape p, u)) (output_at place cs) → Short p
output_short place cs p u h e = seen-short p (sound template_limit place cs (shape p) u h (sym e))

-- ---- the pieces of a text
-- the separators of all pieces have at most a template's bytes
abbrev pub AllShort : List Shape → Type 0
AllShort [] = Unit {0}
AllShort (typed_text t ∷ ss) = AllShort ss
AllShort (typed_child p i b ∷ ss) = AllShort ss
AllShort (typed_repeat x ∷ ss) = (length x.left_sep ≤ template_limit) × (length x.middle_sep ≤ template_limit) × (length x.right_sep ≤ template_limit) × AllShort ss
AllShort (typed_capture n ∷ ss) = AllShort ss

one_short : (s : Shape) (ss : List Shape) → Sound template_limit s → AllShort ss → AllShort (s ∷ ss)
one_short (typed_text t) ss h k = k
one_short (typed_child p i b) ss h k = k
one_short (typed_repeat x) ss h k = ⊎_elim (λ r. (r.0, r.1, r.2, k)) (λ r. let z : ◌≡◌ {A = ℕ} 0 1 = cc r.1 in absurd (omega arith)) h
one_short (typed_capture n) ss h k = k

first_short : (n place : ℕ) (cs : List ℕ) → length cs ≤ template_limit → AllShort (first_outputs n place cs)
first_short zero place cs h = tt
first_short (suc n) place cs h = go (λ p. first_short n (place + p.1) (drop p.1 cs) (omega (arith, length-drop p.1 cs))) (output_at place cs) refl
  where
    go : ((p : Shape × ℕ) → AllShort (first_outputs n (place + p.1) (drop p.1 cs))) → (o : Option (Shape × ℕ)) → output_at place cs ≡ o → AllShort (on_some o [] (λ p. p.0 ∷ first_outputs n (place + p.1) (drop p.1 cs)))
    go ih None e = tt
    go ih (Some p) e = one_short p.0 _ (sound template_limit place cs p.0 p.1 h e) (ih p)

pub all_short : (f : FormatterConst) → length f.text.now ≤ template_limit → AllShort (outputs_of f)
all_short f h = first_short (length f.text.now) f.start (drop f.start f.text.now) (omega (arith, length-drop f.start f.text.now))

pub front_short : (p : SubFormatterConst) (ss : List Shape) → AllShort (shape p ∷ ss) → Short p
front_short (String t) ss h = tt
front_short (Single p i b) ss h = tt
front_short (Repeat p f t l m r a b c) ss h = (h.0, h.1, h.2)
front_short (Capture n) ss h = tt

pub rest_short : (p : SubFormatterConst) (ss : List Shape) → AllShort (shape p ∷ ss) → AllShort ss
rest_short (String t) ss h = h
rest_short (Single p i b) ss h = h
rest_short (Repeat p f t l m r a b c) ss h = h.3
rest_short (Capture n) ss h = h

no_more : (n place : ℕ) (cs : List ℕ) → length (first_outputs n place cs) ≤ n
no_more zero place cs = omega arith
no_more (suc n) place cs = go (λ p. no_more n (place + p.1) (drop p.1 cs)) (output_at place cs)
  where
    go : ((p : Shape × ℕ) → length (first_outputs n (place + p.1) (drop p.1 cs)) ≤ n) → (o : Option (Shape × ℕ)) → length (on_some o [] (λ p. p.0 ∷ first_outputs n (place + p.1) (drop p.1 cs))) ≤ suc n
    go ih None = omega arith
    go ih (Some p) = let h = ih p in omega arith

-- no more pieces than bytes
pub outputs_fit : (f : FormatterConst) → length (outputs_of f) ≤ length f.text.now
outputs_fit f = no_more (length f.text.now) f.start (drop f.start f.text.now)
