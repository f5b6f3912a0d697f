-- Prefix and suffix are read as the grammar has them.
use Rattle.std.proofs.Common.{◌≡◌, ℕ, suc, ◌+◌, ◌-◌, ◌<◌, Bool, true, false, cond, eqb, List, [], ◌∷◌, ◌++◌, length, take, drop, Some, None, Ok, Option, Result, sym, refl, ap, ◌∙◌, subst, arith}
use Rattle.std.proofs.lemmas.List.{append_assoc, length-append, take_all, take_at, length_push}
use Rattle.std.proofs.lemmas.Bool.{eqb-true, lt-ltb, le-ltb}
use Rattle.refusal.specs.declared.error.ClosingMark.TheVariants.{Dollar}
use Rattle.refusal.specs.declared.error.FormatterError.TheVariants.{MissingControl}
use Rattle.grammar.specs.Grammar.{Prefix, Suffix}
use Rattle.grammar.specs.Marks.{begins, ends, first_byte, last_byte}
use Rattle.grammar.specs.Numbers.{numeral, power_at}
use Rattle.grammar.specs.Results.{on_ok, on_some, refusal, Fault}
use Rattle.grammar.specs.Templates.{prefix_at, suffix_before, suffix_at}
use Rattle.grammar.proofs.Bytes.{Without, eqb_self}
use Rattle.grammar.proofs.Chains.{by_on_ok, same_ok, refused}
use Rattle.grammar.proofs.MarksFound.{take_front, drop_behind, up_to-without, up_to_at, Cut, whole, parted, cut}
use Rattle.grammar.proofs.Numerals.{power_forth, power-back, numeral-without}

-- ---- the first and the last mark
pub first-none : (m : ℕ) (cs : List ℕ) → Without m cs → first_byte m cs ≡ None
first-none m cs h = rw (up_to-without m cs h, le-ltb (length cs) (length cs) (omega arith))

pub first_at : (m : ℕ) (a b : List ℕ) → Without m a → first_byte m (a ++ m ∷ b) ≡ Some (length a)
first_at m a b h =
    let l : length a < length (a ++ m ∷ b) = omega (arith, length-append a (m ∷ b)) in
    rw (up_to_at m a b h, lt-ltb (length a) (length (a ++ m ∷ b)) l)

pub last_none : (m : ℕ) (cs : List ℕ) → Without m cs → last_byte m cs ≡ None
last_none m [] h = refl
last_none m (c ∷ cs) h = rw (h.0, last_none m cs h.1)

pub last_at : (m : ℕ) (a b : List ℕ) → Without m b → last_byte m (a ++ m ∷ b) ≡ Some (length a)
last_at m [] b h = rw (eqb_self m, last_none m b h)
last_at m (c ∷ a) b h = rw (last_at m a b h)

-- a text with no m, or parted at its last m
pub data CutLast (m : ℕ) : List ℕ → Type 0 where
  unparted : {cs : List ℕ} → Without m cs → CutLast m cs
  parted_last : (a b : List ℕ) → Without m b → CutLast m (a ++ m ∷ b)

pub cut_last : (m : ℕ) (cs : List ℕ) → CutLast m cs
cut_last m [] = unparted tt
cut_last m (c ∷ cs) = go (eqb c m) refl (cut_last m cs)
  where
    go : {l : List ℕ} (b : Bool) → eqb c m ≡ b → CutLast m l → CutLast m (c ∷ l)
    go {l} true e (unparted h) = subst (λ (x : ℕ). CutLast m (x ∷ l)) (sym (eqb-true c m e)) (parted_last [] l h)
    go false e (unparted h) = unparted (e, h)
    go b e (parted_last x y h) = parted_last (c ∷ x) y h

pub ends-true : (m : ℕ) (cs : List ℕ) → ends m cs ≡ true → (init : List ℕ) × (cs ≡ init ++ m ∷ [])
ends-true m [] e = let z : ◌≡◌ {A = ℕ} 0 1 = cc in absurd (omega arith)
ends-true m (c ∷ []) e = ([], ap (λ (x : ℕ). x ∷ []) (eqb-true c m e))
ends-true m (c ∷ d ∷ cs) e = let r = ends-true m (d ∷ cs) e in (c ∷ r.0, ap (λ (l : List ℕ). c ∷ l) r.1)

pub ends_at : (m : ℕ) (init : List ℕ) → ends m (init ++ m ∷ []) ≡ true
ends_at m [] = eqb_self m
ends_at m (c ∷ []) = eqb_self m
ends_at m (c ∷ d ∷ cs) = ends_at m (d ∷ cs)

-- ---- the prefix
prefix_typed : (q : ℕ × ℕ) (a b : List ℕ) → on_ok (power_at 1 (take (length a) (a ++ 36 ∷ b))) (λ n. Ok (n, length a + 2)) ≡ Ok q → Prefix (36 ∷ a ++ 36 ∷ b) q.0 (drop q.1 (36 ∷ a ++ 36 ∷ b))
prefix_typed q a b e =
    let v = by_on_ok (power_at 1 (take (length a) (a ++ 36 ∷ b))) _ q e in
    let n = v.0 in
    let p = power_forth 1 (take (length a) (a ++ 36 ∷ b)) n v.1 in
    let is : a ≡ numeral n = sym (take_front a (36 ∷ b)) ∙ p.0 in
    let two : length a + 2 ≡ suc (length a + 1) = omega arith in
    let behind : drop (length a + 2) (36 ∷ a ++ 36 ∷ b) ≡ b = ap (λ (k : ℕ). drop k (36 ∷ a ++ 36 ∷ b)) two ∙ drop_behind a b 36 in
    subst (λ (r : ℕ × ℕ). Prefix (36 ∷ a ++ 36 ∷ b) r.0 (drop r.1 (36 ∷ a ++ 36 ∷ b))) (same_ok (n, length a + 2) q v.2)
    (subst (λ (t : List ℕ). Prefix (36 ∷ a ++ 36 ∷ b) n t) (sym behind)
    (subst (λ (t : List ℕ). Prefix (36 ∷ t ++ 36 ∷ b) n b) (sym is) (Prefix.stands p.1)))

abbrev behind_dollar : List ℕ → Result (ℕ × ℕ) Fault
behind_dollar cs = on_some (first_byte 36 cs) (refusal (MissingControl Dollar) 1 (length cs)) (λ at. on_ok (power_at 1 (take at cs)) (λ n. Ok (n, at + 2)))

dollar_parted : (a b : List ℕ) → Without 36 a → behind_dollar (a ++ 36 ∷ b) ≡ on_ok (power_at 1 (take (length a) (a ++ 36 ∷ b))) (λ n. Ok (n, length a + 2))
dollar_parted a b h =
    ap (λ (o : Option ℕ). on_some o (refusal (MissingControl Dollar) 1 (length (a ++ 36 ∷ b))) (λ at. on_ok (power_at 1 (take at (a ++ 36 ∷ b))) (λ n. Ok (n, at + 2)))) (first_at 36 a b h)

dollar_whole : (cs : List ℕ) → Without 36 cs → behind_dollar cs ≡ refusal (MissingControl Dollar) 1 (length cs)
dollar_whole cs h =
    ap (λ (o : Option ℕ). on_some o (refusal (MissingControl Dollar) 1 (length cs)) (λ at. on_ok (power_at 1 (take at cs)) (λ n. Ok (n, at + 2)))) (first-none 36 cs h)

behind_forth : (cs : List ℕ) (q : ℕ × ℕ) → Cut 36 cs → behind_dollar cs ≡ Ok q → Prefix (36 ∷ cs) q.0 (drop q.1 (36 ∷ cs))
behind_forth cs q (whole h) e = refused _ q (sym (dollar_whole cs h) ∙ e)
behind_forth cs q (parted a b h) e = prefix_typed q a b (sym (dollar_parted a b h) ∙ e)

pub prefix_forth : (cs : List ℕ) (q : ℕ × ℕ) → prefix_at cs ≡ Ok q → Prefix cs q.0 (drop q.1 cs)
prefix_forth [] q e = subst (λ (r : ℕ × ℕ). Prefix [] r.0 (drop r.1 [])) (same_ok (0, 0) q e) (Prefix.absent refl)
prefix_forth (c ∷ cs) q e = go (eqb c 36) refl e
  where
    go : (b : Bool) → eqb c 36 ≡ b → cond b (behind_dollar cs) (Ok (0, 0)) ≡ Ok q → Prefix (c ∷ cs) q.0 (drop q.1 (c ∷ cs))
    go true z h = subst (λ (x : ℕ). Prefix (x ∷ cs) q.0 (drop q.1 (x ∷ cs))) (sym (eqb-true c 36 z)) (behind_forth cs q (cut 36 cs) h)
    go false z h = subst (λ (r : ℕ × ℕ). Prefix (c ∷ cs) r.0 (drop r.1 (c ∷ cs))) (same_ok (0, 0) q h) (Prefix.absent z)

pub record PrefixFound (cs : List ℕ) (n : ℕ) (rest : List ℕ) : Type 0 where
  pub end : ℕ
  pub reads : prefix_at cs ≡ Ok (n, end)
  pub behind : drop end cs ≡ rest

unprefixed : (t : List ℕ) → begins 36 t ≡ false → PrefixFound t 0 t
unprefixed [] e = record { end = 0; reads = refl; behind = refl }
unprefixed (c ∷ cs) e = record { end = 0; reads = rw e; behind = refl }

pub prefix_back : {cs : List ℕ} {n : ℕ} {rest : List ℕ} → Prefix cs n rest → PrefixFound cs n rest
prefix_back (Prefix.absent {t} e) = unprefixed t e
prefix_back (Prefix.stands {n} {t} p) =
    let two : length (numeral n) + 2 ≡ suc (length (numeral n) + 1) = omega arith in
    let reads : power_at 1 (take (length (numeral n)) (numeral n ++ 36 ∷ t)) ≡ Ok n = ap (power_at 1) (take_front (numeral n) (36 ∷ t)) ∙ power-back 1 n p in
    record {
      end = length (numeral n) + 2;
      reads = dollar_parted (numeral n) t (numeral-without 36 refl n p) ∙ ap (λ (m : Result ℕ Fault). on_ok m (λ k. Ok (k, length (numeral n) + 2))) reads;
      behind = ap (λ (k : ℕ). drop k (36 ∷ numeral n ++ 36 ∷ t)) two ∙ drop_behind (numeral n) t 36;
    }

-- ---- the suffix
suffix_typed : (place : ℕ) (q : ℕ × ℕ) (a b : List ℕ) → on_ok (power_at (place + (length a + 1)) (drop (length a + 1) (a ++ 36 ∷ b))) (λ n. Ok (n, length a)) ≡ Ok q
    → Suffix (a ++ (36 ∷ b ++ 36 ∷ [])) q.0 (take q.1 (a ++ (36 ∷ b ++ 36 ∷ [])))
suffix_typed place q a b e =
    let v = by_on_ok (power_at (place + (length a + 1)) (drop (length a + 1) (a ++ 36 ∷ b))) _ q e in
    let n = v.0 in
    let p = power_forth (place + (length a + 1)) (drop (length a + 1) (a ++ 36 ∷ b)) n v.1 in
    let is : b ≡ numeral n = sym (drop_behind a b 36) ∙ p.0 in
    subst (λ (r : ℕ × ℕ). Suffix (a ++ (36 ∷ b ++ 36 ∷ [])) r.0 (take r.1 (a ++ (36 ∷ b ++ 36 ∷ [])))) (same_ok (n, length a) q v.2)
    (subst (λ (t : List ℕ). Suffix (a ++ (36 ∷ b ++ 36 ∷ [])) n t) (sym (take_front a (36 ∷ b ++ 36 ∷ [])))
    (subst (λ (t : List ℕ). Suffix (a ++ (36 ∷ t ++ 36 ∷ [])) n a) (sym is) (Suffix.stands p.1)))

before_parted : (place : ℕ) (a b : List ℕ) → Without 36 b → suffix_before place (a ++ 36 ∷ b) ≡ on_ok (power_at (place + (length a + 1)) (drop (length a + 1) (a ++ 36 ∷ b))) (λ n. Ok (n, length a))
before_parted place a b h =
    ap (λ (o : Option ℕ). on_some o (refusal (MissingControl Dollar) place (length (a ++ 36 ∷ b))) (λ at. on_ok (power_at (place + (at + 1)) (drop (at + 1) (a ++ 36 ∷ b))) (λ n. Ok (n, at)))) (last_at 36 a b h)

before_whole : (place : ℕ) (cs : List ℕ) → Without 36 cs → suffix_before place cs ≡ refusal (MissingControl Dollar) place (length cs)
before_whole place cs h =
    ap (λ (o : Option ℕ). on_some o (refusal (MissingControl Dollar) place (length cs)) (λ at. on_ok (power_at (place + (at + 1)) (drop (at + 1) cs)) (λ n. Ok (n, at)))) (last_none 36 cs h)

before_forth : (place : ℕ) (cs : List ℕ) (q : ℕ × ℕ) → CutLast 36 cs → suffix_before place cs ≡ Ok q → Suffix (cs ++ 36 ∷ []) q.0 (take q.1 (cs ++ 36 ∷ []))
before_forth place cs q (unparted h) e = refused _ q (sym (before_whole place cs h) ∙ e)
before_forth place cs q (parted_last a b h) e =
    subst (λ (l : List ℕ). Suffix l q.0 (take q.1 l)) (sym (append_assoc a (36 ∷ b) (36 ∷ []))) (suffix_typed place q a b (sym (before_parted place a b h) ∙ e))

-- a text that ends in `$`
suffix_ended : (place : ℕ) (init : List ℕ) → suffix_at place (init ++ 36 ∷ []) ≡ suffix_before place init
suffix_ended place init =
    let l : length init ≡ length (init ++ 36 ∷ []) - 1 = omega (arith, length_push init 36) in
    ap (λ (b : Bool). cond b (suffix_before place (take (length (init ++ 36 ∷ []) - 1) (init ++ 36 ∷ []))) (Ok (0, length (init ++ 36 ∷ [])))) (ends_at 36 init)
    ∙ ap (suffix_before place) (take_at init (36 ∷ []) (length (init ++ 36 ∷ []) - 1) l)

suffix_bare : (place : ℕ) (cs : List ℕ) → ends 36 cs ≡ false → suffix_at place cs ≡ Ok (0, length cs)
suffix_bare place cs e = ap (λ (b : Bool). cond b (suffix_before place (take (length cs - 1) cs)) (Ok (0, length cs))) e

pub suffix_forth : (place : ℕ) (cs : List ℕ) (q : ℕ × ℕ) → suffix_at place cs ≡ Ok q → Suffix cs q.0 (take q.1 cs)
suffix_forth place cs q e = go (ends 36 cs) refl
  where
    go : (b : Bool) → ends 36 cs ≡ b → Suffix cs q.0 (take q.1 cs)
    go true z =
        let i = ends-true 36 cs z in
        subst (λ (l : List ℕ). Suffix l q.0 (take q.1 l)) (sym i.1)
        (before_forth place i.0 q (cut_last 36 i.0) (sym (suffix_ended place i.0) ∙ ap (suffix_at place) (sym i.1) ∙ e))
    go false z =
        subst (λ (r : ℕ × ℕ). Suffix cs r.0 (take r.1 cs)) (same_ok (0, length cs) q (sym (suffix_bare place cs z) ∙ e))
        (subst (λ (l : List ℕ). Suffix cs 0 l) (sym (take_all (length cs) cs (omega arith))) (Suffix.absent z))

pub record SuffixFound (place : ℕ) (cs : List ℕ) (n : ℕ) (body : List ℕ) : Type 0 where
  pub reads : suffix_at place cs ≡ Ok (n, length body)
  pub before : take (length body) cs ≡ body

pub suffix_back : (place : ℕ) {cs : List ℕ} {n : ℕ} {body : List ℕ} → Suffix cs n body → SuffixFound place cs n body
suffix_back place (Suffix.absent {t} e) = record { reads = suffix_bare place t e; before = take_all (length t) t (omega arith) }
suffix_back place (Suffix.stands {n} {t} p) =
    let at = place + (length t + 1) in
    let reads : power_at at (drop (length t + 1) (t ++ 36 ∷ numeral n)) ≡ Ok n = ap (power_at at) (drop_behind t (numeral n) 36) ∙ power-back at n p in
    record {
      reads =
          ap (suffix_at place) (sym (append_assoc t (36 ∷ numeral n) (36 ∷ [])))
          ∙ suffix_ended place (t ++ 36 ∷ numeral n)
          ∙ before_parted place t (numeral n) (numeral-without 36 refl n p)
          ∙ ap (λ (m : Result ℕ Fault). on_ok m (λ k. Ok (k, length t))) reads;
      before = take_front t (36 ∷ numeral n ++ 36 ∷ []);
    }
