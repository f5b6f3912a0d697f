-- Every template of a register that calls make is accepted, with a code that is short enough; so its contents choose what it chooses.
use Rattle.std.proofs.Common.{◌≡◌, ℕ, zero, suc, ◌<◌, ◌≤◌, Bool, true, false, cond, ◌&&◌, eqb, ltb, leb, List, [], ◌∷◌, ◌++◌, map, length, Some, None, Ok, Err, Option, refl, ap, ◌∙◌, arith}
use Rattle.std.specs.List.{AllByRecursion as All}
use Rattle.std.proofs.lemmas.Bool.{leb-true, ltb-true, and_parts}
use Rattle.codes.specs.Code.{code}
use Rattle.codes.specs.declared.error.CodeError.TheVariants.{CodeTooLong}
use Rattle.displays.specs.Checks.{checked, grouped, captures_fit}
use Rattle.displays.specs.declared.error.ConversionError.TheVariants.{Definition as BadDefinition, FormatterParseError as BadSeparator}
use Rattle.engine.specs.Rules.{Rule}
use Rattle.formatter.specs.declared.error.FallbackParseError.TheVariants.{MaxCaptureTooLarge, FormatterParseError}
use Rattle.grammar.specs.Deep.{deep_at, greatest}
use Rattle.grammar.specs.Matchers.{Matched, definition_at}
use Rattle.codes.specs.Acceptable.{code_limit}
use Rattle.grammar.specs.Readings.{Template, Byte}
use Rattle.grammar.specs.Results.{on_ok, on_err}
use Rattle.grammar.proofs.Chains.{by_on_ok, by_on_err, same_ok, refused}
use Rattle.terms.specs.Source.{Source}
use Rattle.register.specs.declared.answer.Answer.{Answer}
use Rattle.register.specs.declared.call.Call.{Call}
use Rattle.register.specs.declared.error.BookError.TheVariants.{Definition, Fallback, Code, BookFull}
use Rattle.register.specs.Calls.{template_at}
use Rattle.register.specs.Contents.{stored, contents_of, decoded, standing_in, chosen_in}
use Rattle.register.specs.Laws.{Reached, Has, defined, fallback}
use Rattle.register.specs.Register.{Defined, Register, opening, first_fallback, matchers, patterns, place_of, without, reading_of, code_of, short, entered, admitted, serves, served, standing, chosen}
use Rattle.register.specs.Runs.{Typed, Turn, defines, refuses_definition, withdraws, refuses_withdrawal, replaces, refuses_fallback, looks_up, reads_back, prints, Run, ends, turns}
use Rattle.register.specs.Standing.{Standing, choosing}
use Rattle.register.proofs.Storable.{Storable, decoded_is}

pub record Listed (g : Register) : Type 0 where
  pub definitions : All (λ x. Storable x.template) g.definitions
  pub fallback : Storable g.fallback

-- ---- what is admitted
short-length : (r q : Template) → short r ≡ Ok q → length (code r) ≤ code_limit
short-length r q = go (leb (length (code r)) code_limit) refl
  where
    go : (b : Bool) → leb (length (code r)) code_limit ≡ b → cond b (Ok r) (Err (Code CodeTooLong)) ≡ Ok q → length (code r) ≤ code_limit
    go true l e = leb-true _ _ l
    go false l e = refused _ q e

checked_read : (rule : Rule) (load size : ℕ) (m t : List ℕ) (v : Matched × Template) → checked rule load size m t ≡ Ok v → deep_at t ≡ Ok v.1
checked_read rule load size m t v e =
    let a = by_on_ok (on_err BadDefinition (definition_at m t)) _ v e in
    let b = by_on_ok (grouped rule load size a.0.0) _ v a.2 in
    let c = by_on_ok (on_err BadSeparator (deep_at t)) _ v b.2 in
    let d = by_on_ok (captures_fit b.0 (greatest c.0)) _ v c.2 in
    by_on_err BadSeparator (deep_at t) c.0 c.1 ∙ ap (λ p. Ok p.1) (same_ok (a.0.0, c.0) v d.2)

entered_same : (ms : List Matched) (o : Option ℕ) (p q : Matched × Template) → entered ms o p ≡ Ok q → p ≡ q
entered_same ms (Some i) p q e = refused _ q e
entered_same ms None p q e = go (leb 32 (length ms)) e
  where
    go : (b : Bool) → cond b (Err BookFull) (Ok p) ≡ Ok q → p ≡ q
    go true e = refused _ q e
    go false e = same_ok p q e

pub record Admitted (t : List ℕ) (p : Matched × Template) : Type 0 where
  pub read : deep_at t ≡ Ok p.1
  pub short : length (code p.1) ≤ code_limit

pub is_admitted : (rule : Rule) (load size : ℕ) (ms : List Matched) (m t : List ℕ) (p : Matched × Template) → admitted rule load size ms m t ≡ Ok p → Admitted t p
is_admitted rule load size ms m t p e =
    let a = by_on_ok (on_err Definition (checked rule load size m t)) _ p e in
    let b = by_on_ok (short a.0.1) _ p a.2 in
    let s = entered_same ms (place_of a.0.0 ms) a.0 p b.2 in
    record {
      read = checked_read rule load size m t a.0 (by_on_err Definition (checked rule load size m t) a.0 a.1) ∙ ap (λ p. Ok p.1) s;
      short = rw (← s) (short-length a.0.1 b.0 b.1);
    }

serves_same : (o : Option ℕ) (r q : Template) → serves o r ≡ Ok q → r ≡ q
serves_same None r q e = same_ok r q e
serves_same (Some n) r q e = go (eqb n 0) e
  where
    go : (b : Bool) → cond b (Ok r) (Err (MaxCaptureTooLarge n)) ≡ Ok q → r ≡ q
    go true e = same_ok r q e
    go false e = refused _ q e

short_same : (r q : Template) → short r ≡ Ok q → r ≡ q
short_same r q e = go (leb (length (code r)) code_limit) e
  where
    go : (b : Bool) → cond b (Ok r) (Err (Code CodeTooLong)) ≡ Ok q → r ≡ q
    go true e = same_ok r q e
    go false e = refused _ q e

pub record Served (t : List ℕ) (q : Template) : Type 0 where
  pub read : deep_at t ≡ Ok q
  pub short : length (code q) ≤ code_limit

pub is_served : (t : List ℕ) (q : Template) → served t ≡ Ok q → Served t q
is_served t q e =
    let a = by_on_ok (on_err Fallback (on_ok (on_err FormatterParseError (deep_at t)) (λ r. serves (greatest r) r))) short q e in
    let b = by_on_ok (on_err FormatterParseError (deep_at t)) (λ r. serves (greatest r) r) a.0 (by_on_err Fallback (on_ok (on_err FormatterParseError (deep_at t)) (λ r. serves (greatest r) r)) a.0 a.1) in
    let s = serves_same (greatest b.0) b.0 a.0 b.2 ∙ short_same a.0 q a.2 in
    record { read = by_on_err FormatterParseError (deep_at t) b.0 b.1 ∙ ap Ok s; short = rw (← short_same a.0 q a.2) (short-length a.0 q a.2) }

-- ---- what stays
all_more : {A : Type 0} (P : A → Type 0) (xs : List A) (x : A) → All P xs → P x → All P (xs ++ x ∷ [])
all_more P [] x h p = (p, tt)
all_more P (y ∷ xs) x h p = (h.0, all_more P xs x h.1 p)

all_without : {A : Type 0} (P : A → Type 0) (i : ℕ) (xs : List A) → All P xs → All P (without i xs)
all_without P i [] h = tt
all_without P zero (x ∷ xs) h = h.1
all_without P (suc i) (x ∷ xs) h = (h.0, all_without P i xs h.1)

module _ (rule : Rule) (size : ℕ) (m : Source) where
  pub turn_listed : {g h : Register} {c : Call} {b b' : List ℕ} {a : Answer} → Turn rule size m g c b a b' h → Typed c → Listed g → Listed h
  turn_listed (defines {g} {m} {t} {p} e) y l =
      let k = is_admitted rule (patterns (matchers g.definitions)) size (matchers g.definitions) m.now t.now p e in
      record { definitions = all_more _ g.definitions _ l.definitions (record { reading = p.1; typed = y; read = k.read; short = k.short }); fallback = l.fallback }
  turn_listed (refuses_definition e) y l = l
  turn_listed (withdraws {g} {i} e) y l = record { definitions = all_without _ i g.definitions l.definitions; fallback = l.fallback }
  turn_listed (refuses_withdrawal e) y l = l
  turn_listed (replaces {t} {r} e) y l =
      let k = is_served t.now r e in
      record { definitions = l.definitions; fallback = record { reading = r; typed = y; read = k.read; short = k.short } }
  turn_listed (refuses_fallback e) y l = l
  turn_listed looks_up y l = l
  turn_listed reads_back y l = l
  turn_listed prints y l = l

  pub run-listed : {g h : Register} {cs : List Call} {area after : List ℕ} {xs : List Answer} → Run rule size m g cs area xs after h → All Typed cs → Listed g → Listed h
  run-listed ends y l = l
  run-listed (turns t r) y l = run-listed r y.1 (turn_listed t y.0 l)

-- ---- the register of a freshly opened book
abbrev below : List ℕ → Bool
below [] = true
below (b ∷ bs) = ltb b 256 && below bs

bytes_of : (bs : List ℕ) → below bs ≡ true → All Byte bs
bytes_of [] e = tt
bytes_of (b ∷ bs) e = let p = and_parts (ltb b 256) (below bs) e in (ltb-true b 256 p.0, bytes_of bs p.1)

pub first_storable : Storable first_fallback
first_storable = record { reading = reading_of first_fallback; typed = bytes_of first_fallback refl; read = refl; short = leb-true (length (code_of first_fallback)) code_limit refl }

pub opening-listed : Listed opening
opening-listed = record { definitions = tt; fallback = first_storable }

pub reached-listed : (g : Register) → Reached g → Listed g
reached-listed g r = run-listed r.rule r.size r.source r.run r.typed opening-listed

template_storable : (i : ℕ) (xs : List Defined) → i < length xs → All (λ x. Storable x.template) xs → Storable (template_at i xs)
template_storable i [] lt h = absurd (omega arith)
template_storable zero (x ∷ xs) lt h = h.0
template_storable (suc i) (x ∷ xs) lt h = template_storable i xs (omega arith) h.1

pub has_storable : (g : Register) {t : List ℕ} → Listed g → Has g t → Storable t
has_storable g l (defined i lt) = template_storable i g.definitions lt l.definitions
has_storable g l fallback = l.fallback

-- ---- the contents of a register choose what it chooses
standing_same : (xs : List Defined) → All (λ x. Storable x.template) xs → map standing_in (map stored xs) ≡ map standing xs
standing_same [] h = refl
standing_same (x ∷ xs) h =
    let S : Template → Standing = λ r. record { matcher = x.matcher; reading = r } in
    ap (λ r. S r ∷ map standing_in (map stored xs)) (decoded_is x.template h.0) ∙ ap (λ l. standing x ∷ l) (standing_same xs h.1)

pub contents_chosen : (rule : Rule) (g : Register) → Listed g → chosen_in rule (contents_of g) ≡ chosen rule g
contents_chosen rule g l =
    ap (λ xs. choosing rule xs (decoded (code_of g.fallback))) (standing_same g.definitions l.definitions)
    ∙ ap (choosing rule (map standing g.definitions)) (decoded_is g.fallback l.fallback)

-- ---- the contents of a register that changes
pub stored-matchers : (xs : List Defined) → map (λ x. x.matcher) (map stored xs) ≡ matchers xs
stored-matchers [] = refl
stored-matchers (x ∷ xs) = ap (λ l. x.matcher ∷ l) (stored-matchers xs)

pub stored_more : (xs : List Defined) (x : Defined) → map stored (xs ++ x ∷ []) ≡ map stored xs ++ stored x ∷ []
stored_more [] x = refl
stored_more (y ∷ xs) x = ap (λ l. stored y ∷ l) (stored_more xs x)

pub stored-without : (i : ℕ) (xs : List Defined) → map stored (without i xs) ≡ without i (map stored xs)
stored-without i [] = refl
stored-without zero (x ∷ xs) = refl
stored-without (suc i) (x ∷ xs) = ap (λ l. stored x ∷ l) (stored-without i xs)
