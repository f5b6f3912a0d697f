-- The bytes that are written for a code, counted and in the buffer.
use Rattle.std.proofs.Common.{◌≡◌, ℕ, suc, ◌+◌, ◌^◌, ◌<◌, ◌≤◌, true, false, cond, leb, List, [], ◌∷◌, ◌++◌, length, take, drop, set, is_some, IfOk, Some, None, Ok, Err, Option, Result, sym, refl, ap, ◌∙◌, subst, arith}
use native.Mathlib.Nat.{min-eq_left}
use lib.Seq.{sets}
use Rattle.std.proofs.lemmas.List.Edits.{sets-eq}
use Rattle.std.proofs.lemmas.Bool.{le-leb, lt-leb}
use Rattle.codes.proofs.Bounds.{bounded}
use Rattle.codes.proofs.Calls.{filled_with}
use Rattle.codes.proofs.Trips.{round_trip}
use Rattle.codes.proofs.Whole.{decodes}
use Rattle.codes.specs.Acceptable.{decode, Coding}
use Rattle.codes.specs.Calls.{filled, after, some_or, written_back}
use Rattle.codes.specs.Code.{code}
use Rattle.codes.specs.Written.{write}
use Rattle.codes.specs.declared.error.CodeError.{CodeError}
use Rattle.codes.specs.declared.error.CodeError.TheVariants.{NoCode, BufferTooShort}
use Rattle.grammar.proofs.Chains.{same_ok, refused}
use Rattle.grammar.specs.Limits.{step_allowance}
use Rattle.grammar.specs.Readings.{Template}
use Rattle.grammar.specs.Results.{on_ok}
use Rattle.written.proofs.Spelling.{template_written}
use Rattle.wire.specs.Ahead.{ahead, due}
use Rattle.written.specs.Pens.{State, ink, inks, fresh}
use Rattle.written.specs.Spelled.{template_of}

-- the place moves by as many bytes as are written
pub inks_at : (w : List ℕ) (s : State) → s.at + length w < 2 ^ 64 → (inks w s).at ≡ s.at + length w
inks_at [] s h = omega arith
inks_at (b ∷ w) s h =
    let e : (ink b s).at ≡ s.at + 1 = min-eq_left (omega arith) in
    inks_at w (ink b s) (omega arith) ∙ omega arith

inks-sets : (w : List ℕ) (s : State) → s.at + length w < 2 ^ 64 → (inks w s).buffer ≡ sets s.buffer s.at w
inks-sets [] s h = refl
inks-sets (b ∷ w) s h =
    let e : (ink b s).at ≡ s.at + 1 = min-eq_left (omega arith) in
    let f : (ink b s).at ≡ suc s.at = omega arith in
    inks-sets w (ink b s) (omega arith) ∙ ap (λ i. sets (set s.buffer s.at b) i w) f

pub inks_front : (w b : List ℕ) → length w < 2 ^ 64 → length w ≤ length b → (inks w (fresh b)).buffer ≡ w ++ drop (length w) b
inks_front w b h k =
    let z : 0 + length w ≡ length w = omega arith in
    inks-sets w (fresh b) (omega arith) ∙ sets-eq w b 0 (omega arith) ∙ ap (λ n. w ++ drop n b) z

-- what a code is written back as
pub record Back (c : List ℕ) : Type 0 where
  pub is : written_back c ≡ Ok (template_of (ahead c 0))
  pub short : length (template_of (ahead c 0)) ≤ 4096

some_back : (c : List ℕ) (r : Template) → decode c ≡ Some r → Back c
some_back c r e =
    let k = (decodes step_allowance c r).0 e in
    let w : template_of (ahead c 0) ≡ write r = ap (λ l. template_of (due 0 l)) k.is ∙ template_written r k.formed in
    let n : length (template_of (ahead c 0)) ≡ length (write r) = ap length w in
    let m : length c ≡ length (code r) = ap length k.is in
    let b = bounded r k.formed in
    let s = k.short in
    record { is = ap (λ d. on_ok (some_or NoCode d) (λ r. Ok (write r))) e ∙ ap (λ l. Ok l) (sym w); short = omega arith }

pub back : (c : List ℕ) → is_some (decode c) ≡ true → Back c
back c h = go (decode c) refl h
  where
    go : (d : Option Template) → decode c ≡ d → is_some d ≡ true → Back c
    go None e h = let z : ◌≡◌ {A = ℕ} 0 1 = cc in absurd (omega arith)
    go (Some r) e h = some_back c r e

-- the call's answer and the buffer: counted first, written where it fits
pub counted : (c : List ℕ) (n : ℕ) → Back c → n ≡ (inks (template_of (ahead c 0)) (fresh [])).at → n ≡ length (template_of (ahead c 0))
counted c n k e =
    let s = k.short in
    let z : 0 + length (template_of (ahead c 0)) ≡ length (template_of (ahead c 0)) = omega arith in
    e ∙ inks_at (template_of (ahead c 0)) (fresh []) (omega arith) ∙ z

-- what stands in the buffer, and what is answered
abbrev pub Answered : List ℕ → List ℕ → Result ℕ CodeError → List ℕ → Type 0
Answered c b r b' = (r ≡ filled BufferTooShort (written_back c) b) × (b' ≡ after (written_back c) b)

pub too_short : (c b : List ℕ) (n : ℕ) → Back c → n ≡ (inks (template_of (ahead c 0)) (fresh [])).at → length b < n → Answered c b (Err BufferTooShort) b
too_short c b n k e h =
    let w = template_of (ahead c 0) in
    let i = counted c n k e in
    let t : leb (length w) (length b) ≡ false = lt-leb _ _ (omega arith) in (
      sym (ap (λ d. filled BufferTooShort d b) k.is ∙ ap (λ t. cond t (Ok (length w)) (Err BufferTooShort)) t),
      sym (ap (λ d. after d b) k.is ∙ ap (λ t. cond t (w ++ drop (length w) b) b) t),
    )

pub fits : (c b b' : List ℕ) (n : ℕ) → Back c → n ≡ (inks (template_of (ahead c 0)) (fresh [])).at → n ≤ length b → b' ≡ (inks (template_of (ahead c 0)) (fresh b)).buffer → Answered c b (Ok n) b'
fits c b b' n k e h f =
    let w = template_of (ahead c 0) in
    let i = counted c n k e in
    let s = k.short in
    let t : leb (length w) (length b) ≡ true = le-leb _ _ (omega arith) in (
      ap (λ m. Ok m) i ∙ sym (ap (λ d. filled BufferTooShort d b) k.is ∙ ap (λ t. cond t (Ok (length w)) (Err BufferTooShort)) t),
      f ∙ inks_front w b (omega arith) (omega arith) ∙ sym (ap (λ d. after d b) k.is ∙ ap (λ t. cond t (w ++ drop (length w) b) b) t),
    )

-- bytes that are no code
pub no_code : (c b : List ℕ) → is_some (decode c) ≡ false → Answered c b (Err NoCode) b
no_code c b h = go (decode c) refl h
  where
    go : (d : Option Template) → decode c ≡ d → is_some d ≡ false → Answered c b (Err NoCode) b
    go (Some r) e h = let z : ◌≡◌ {A = ℕ} 0 1 = cc in absurd (omega arith)
    go None e h = (
      sym (ap (λ d. filled BufferTooShort (on_ok (some_or NoCode d) (λ r. Ok (write r))) b) e),
      sym (ap (λ d. after (on_ok (some_or NoCode d) (λ r. Ok (write r))) b) e),
    )

-- what is written is an accepted template with that same code
back_coding : (c w : List ℕ) → written_back c ≡ Ok w → Coding w c
back_coding c w e = go (decode c) refl e
  where
    go : (d : Option Template) → decode c ≡ d → on_ok (some_or NoCode d) (λ r. Ok (write r)) ≡ Ok w → Coding w c
    go None p q = refused _ _ q
    go (Some x) p q = let k = round_trip decodes c x p in subst (λ l. Coding l c) (same_ok (write x) w q) (record { reading = x; accepted = k.0; same = k.1 })

pub again : (c b b' : List ℕ) (r : Result ℕ CodeError) → Answered c b r b' → IfOk r (λ n. Coding (take n b') c)
again c b b' r p = filled_with BufferTooShort (written_back c) b b' r (λ l. Coding l c) p.0 p.1 (back_coding c)
