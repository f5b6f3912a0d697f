-- A template's code is read back, and nothing else is: so it tells its reading, and where it ends.
use Rattle.std.proofs.Common.{◌≡◌, ℕ, List, [], ◌∷◌, ◌++◌, Some, sym, refl, ap, ◌∙◌, subst, arith}
use Rattle.grammar.proofs.Chains.{nothing as none, same_some}
use Rattle.grammar.specs.Readings.{Separator, Repeat, Template, Power, Index}
use Rattle.codes.specs.Formed.{FormedSeparator, FormedRepeat, FormedTemplate, Never}
use Rattle.codes.specs.Code.{word, Command, byte, step, point, range, hold, run, commands, code_by, never, code_separator, code_repeat, code_template, code}
use Rattle.codes.specs.Decode.{on_some, word_at, index_at, nothing, separator_at, repeat_at, template_at}
use Rattle.codes.specs.Laws.{PrefixFree}
use Rattle.codes.proofs.Words.{by_on_some, words, indices}
use Rattle.codes.proofs.Runs.{Codes, readings}

pub no_repeats : Codes nothing never Never
no_repeats = record { reads = record { forth = λ cs x rest e. none _ e; back = λ x rest h. absurd x }; grows = λ x cs. absurd x }

pub separators : Codes separator_at code_separator FormedSeparator
separators = readings nothing never Never no_repeats

-- a repeat is read in three stages, each over variables of its own: a long chain of `let`s is slow to check
abbrev Made : List ℕ → Repeat × List ℕ → Type 0
Made cs p = (cs ≡ code_repeat p.0 p.1) × FormedRepeat p.0

made : (f t l a b r : ℕ) → Index f → Index t → Power l → Power a → Power b → Power r → (cs : List ℕ) (x y z : Separator) (rest : List ℕ) (p : Repeat × List ℕ)
    → cs ≡ code_separator x (code_separator y (code_separator z rest)) → FormedSeparator x → FormedSeparator y → FormedSeparator z
    → Some (record { from = f; to = t; left = l; middle_left = a; middle_right = b; right = r; before = x; between = y; behind = z }, rest) ≡ Some p
    → Made (word f (word t (word l (word a (word b (word r cs)))))) p
made f t l a b r hf ht hl ha hb hr cs x y z rest p e hx hy hz q =
    subst (Made (word f (word t (word l (word a (word b (word r cs))))))) (same_some _ _ q) (
      ap (λ m. word f (word t (word l (word a (word b (word r m)))))) e,
      record { from = hf; to = ht; left = hl; middle_left = ha; middle_right = hb; right = hr; before = hx; between = hy; behind = hz },
    )

separators_forth : (f t l a b r : ℕ) → Index f → Index t → Power l → Power a → Power b → Power r → (cs : List ℕ) (p : Repeat × List ℕ)
    → on_some (separator_at cs) (λ x. on_some (separator_at x.1) (λ y. on_some (separator_at y.1) (λ z. Some (record { from = f; to = t; left = l; middle_left = a; middle_right = b; right = r; before = x.0; between = y.0; behind = z.0 }, z.1)))) ≡ Some p
    → Made (word f (word t (word l (word a (word b (word r cs)))))) p
separators_forth f t l a b r hf ht hl ha hb hr cs p e =
    let u = by_on_some (separator_at cs) _ p e in
    let v = by_on_some (separator_at u.0.1) _ p u.2 in
    let w = by_on_some (separator_at v.0.1) _ p v.2 in
    let u' = separators.reads.forth cs u.0.0 u.0.1 u.1 in
    let v' = separators.reads.forth u.0.1 v.0.0 v.0.1 v.1 in
    let w' = separators.reads.forth v.0.1 w.0.0 w.0.1 w.1 in
    made f t l a b r hf ht hl ha hb hr cs u.0.0 v.0.0 w.0.0 w.0.1 p
    (u'.0 ∙ ap (code_separator u.0.0) (v'.0 ∙ ap (code_separator v.0.0) w'.0)) u'.1 v'.1 w'.1 w.2

powers_forth : (f t l : ℕ) → Index f → Index t → Power l → (cs : List ℕ) (p : Repeat × List ℕ)
    → on_some (word_at cs) (λ a. on_some (word_at a.1) (λ b. on_some (word_at b.1) (λ r. on_some (separator_at r.1) (λ x. on_some (separator_at x.1) (λ y. on_some (separator_at y.1) (λ z. Some (record { from = f; to = t; left = l; middle_left = a.0; middle_right = b.0; right = r.0; before = x.0; between = y.0; behind = z.0 }, z.1))))))) ≡ Some p
    → Made (word f (word t (word l cs))) p
powers_forth f t l hf ht hl cs p e =
    let a = by_on_some (word_at cs) _ p e in
    let b = by_on_some (word_at a.0.1) _ p a.2 in
    let r = by_on_some (word_at b.0.1) _ p b.2 in
    let a' = words.forth cs a.0.0 a.0.1 a.1 in
    let b' = words.forth a.0.1 b.0.0 b.0.1 b.1 in
    let r' = words.forth b.0.1 r.0.0 r.0.1 r.1 in
    let m = separators_forth f t l a.0.0 b.0.0 r.0.0 hf ht hl a'.1 b'.1 r'.1 r.0.1 p r.2 in
    (ap (λ m. word f (word t (word l m))) (a'.0 ∙ ap (word a.0.0) (b'.0 ∙ ap (word b.0.0) r'.0)) ∙ m.0, m.1)

repeat_forth : (cs : List ℕ) (x : Repeat) (rest : List ℕ) → repeat_at cs ≡ Some (x, rest) → (cs ≡ code_repeat x rest) × FormedRepeat x
repeat_forth cs x rest e =
    let f = by_on_some (index_at cs) _ (x, rest) e in
    let t = by_on_some (index_at f.0.1) _ (x, rest) f.2 in
    let l = by_on_some (word_at t.0.1) _ (x, rest) t.2 in
    let f' = indices.forth cs f.0.0 f.0.1 f.1 in
    let t' = indices.forth f.0.1 t.0.0 t.0.1 t.1 in
    let l' = words.forth t.0.1 l.0.0 l.0.1 l.1 in
    let m = powers_forth f.0.0 t.0.0 l.0.0 f'.1 t'.1 l'.1 l.0.1 (x, rest) l.2 in
    (f'.0 ∙ ap (word f.0.0) (t'.0 ∙ ap (word t.0.0) l'.0) ∙ m.0, m.1)

repeat_back_lem : (x : Repeat) (rest : List ℕ) → FormedRepeat x → repeat_at (code_repeat x rest) ≡ Some (x, rest)
repeat_back_lem x rest h =
    let w = code_separator x.behind rest in
    let v = code_separator x.between w in
    let u = code_separator x.before (v) in
    let r = word x.right u in
    let b = word x.middle_right r in
    let a = word x.middle_left b in
    let l = word x.left a in
    let t = word x.to l in
    rw (
      indices.back x.from t h.from,
      indices.back x.to l h.to,
      words.back x.left a h.left,
      words.back x.middle_left b h.middle_left,
      words.back x.middle_right r h.middle_right,
      words.back x.right u h.right,
      separators.reads.back x.before v h.before,
      separators.reads.back x.between w h.between,
      separators.reads.back x.behind rest h.behind,
    )

pub repeats : Codes repeat_at code_repeat FormedRepeat
repeats = record {
  reads = record { forth = repeat_forth; back = repeat_back_lem };
  grows = λ x cs. omega (arith, separators.grows x.before (code_separator x.between (code_separator x.behind cs)), separators.grows x.between (code_separator x.behind cs), separators.grows x.behind cs);
}

pub templates : Codes template_at code_template FormedTemplate
templates = readings repeat_at code_repeat FormedRepeat repeats

-- ---- in front of what follows
abbrev pub Onto : {R : Type 0} → (R → List ℕ → List ℕ) → Type 0
Onto {R} w = (x : R) (cs ds : List ℕ) → w x cs ++ ds ≡ w x (cs ++ ds)

pub run_onto : {R : Type 0} (w : R → List ℕ → List ℕ) → Onto w → (ks : List (Command R)) (cs ds : List ℕ) → run w ks cs ++ ds ≡ run w ks (cs ++ ds)
run_onto w g [] cs ds = refl
run_onto w g (byte b ∷ ks) cs ds = ap (λ l. 2 ∷ b ∷ l) (run_onto w g ks cs ds)
run_onto w g (step i ∷ ks) cs ds = ap (λ l. 3 ∷ word i l) (run_onto w g ks cs ds)
run_onto w g (point i l r ∷ ks) cs ds = ap (λ m. 4 ∷ word i (word l (word r m))) (run_onto w g ks cs ds)
run_onto w g (range x ∷ ks) cs ds = ap (λ l. 5 ∷ l) (g x (run w ks cs) ds ∙ ap (w x) (run_onto w g ks cs ds))
run_onto w g (hold n ∷ ks) cs ds = ap (λ l. 6 ∷ word n l) (run_onto w g ks cs ds)

pub code_onto : {R : Type 0} (w : R → List ℕ → List ℕ) → Onto w → Onto (code_by w)
code_onto w g r cs ds = ap (λ l. 1 ∷ word r.left (word r.right l)) (run_onto w g (commands r.pieces) cs ds)

pub separator_onto : Onto code_separator
separator_onto = code_onto never (λ x cs ds. absurd x)

pub repeat_onto : Onto code_repeat
repeat_onto x cs ds =
    ap (λ l. word x.from (word x.to (word x.left (word x.middle_left (word x.middle_right (word x.right l))))))
    (separator_onto x.before (code_separator x.between (code_separator x.behind cs)) ds
    ∙ ap (code_separator x.before) (separator_onto x.between (code_separator x.behind cs) ds ∙ ap (code_separator x.between) (separator_onto x.behind cs ds)))

pub template_onto : (r : Template) (rest : List ℕ) → code r ++ rest ≡ code_template r rest
template_onto r rest = code_onto code_repeat repeat_onto r [] rest

-- ---- the theorems
pub template_told : (cs : List ℕ) (r : Template) (rest : List ℕ) → (template_at cs ≡ Some (r, rest) → (cs ≡ code r ++ rest) × FormedTemplate r) × ((cs ≡ code r ++ rest) × FormedTemplate r → template_at cs ≡ Some (r, rest))
template_told cs r rest = (
  (λ e. let f = templates.reads.forth cs r rest e in (f.0 ∙ sym (template_onto r rest), f.1)),
  λ h. ap template_at (h.0 ∙ template_onto r rest) ∙ templates.reads.back r rest h.1,
)

pub prefix_free_lem : PrefixFree
prefix_free_lem a b x y f g e =
    let p = (template_told (code a ++ x) a x).1 (refl, f) in
    let q = (template_told (code a ++ x) b y).1 (e, g) in
    let s = same_some (a, x) (b, y) (sym p ∙ q) in
    (ap (λ (k : Template × List ℕ). k.0) s, ap (λ (k : Template × List ℕ). k.1) s)
