-- The check of a definition goes by its matcher and template, then by its pattern and captures.
use Rattle.std.proofs.Common.{◌≡◌, ℕ, true, false, List, Some, None, Ok, Err, Option, Result, sym, refl, ap, ◌∙◌}
use Rattle.std.specs.Result.{result_err}
use Rattle.engine.specs.Holdings.{Held, View, load}
use Rattle.engine.specs.declared.ticket.Ticket.{Ticket}
use Rattle.grammar.specs.Deep.{DeepFault, deep_at, greatest}
use Rattle.grammar.specs.Matchers.{Matched, definition_at}
use Rattle.grammar.specs.Readings.{Template}
use Rattle.grammar.specs.Results.{on_ok, on_err}
use Rattle.grammar.specs.Templates.{Typed}
use Rattle.refusal.specs.declared.error.EitherError.{EitherError}
use Rattle.refusal.specs.declared.error.ParseError.{ParseError}
use Rattle.templates.specs.Views.{Summary, summary, defined}
use Rattle.displays.specs.declared.error.ConversionError.{ConversionError}
use Rattle.displays.specs.declared.error.ConversionError.TheVariants.{Definition, FormatterParseError}
use Rattle.displays.specs.Checks.{captures_fit, grouped, fits, pattern_fits, checked_by, Handed, Accepted}

-- the matcher and the reading, where the template's captures go with the group count
abbrev with_reading : Matched → Result Template DeepFault → Option ℕ → Result (Matched × Template) ConversionError
with_reading a x g = on_ok (on_err FormatterParseError x) (λ r. on_ok (captures_fit g (greatest r)) (λ u. Ok (a, r)))

abbrev without_reading : Result Template DeepFault → Option ℕ → Result (Unit {0}) ConversionError
without_reading x g = on_ok (on_err FormatterParseError x) (λ r. captures_fit g (greatest r))

-- a matcher's groups, then its captures
abbrev pub rest : View → Matched → List ℕ → Result (Unit {0}) ConversionError
rest v a t = on_ok (grouped v.rule (load v) v.size a) (fits t)

same_fit : (a : Matched) (r : Template) (f : Result (Unit {0}) ConversionError) → result_err (on_ok {B = Matched × Template} f (λ u. Ok (a, r))) ≡ result_err f
same_fit a r (Ok u) = refl
same_fit a r (Err e) = refl

same_reading : (a : Matched) (x : Result Template DeepFault) (g : Option ℕ) → result_err (with_reading a x g) ≡ result_err (without_reading x g)
same_reading a (Ok r) g = same_fit a r (captures_fit g (greatest r))
same_reading a (Err e) g = refl

same_rest : (a : Matched) (x : Result Template DeepFault) (g : Result (Option ℕ) ConversionError) → result_err (on_ok g (with_reading a x)) ≡ result_err (on_ok g (without_reading x))
same_rest a x (Ok g) = same_reading a x g
same_rest a x (Err e) = refl

-- a definition that is read has its matcher
read : (t : List ℕ) (d : Result (Matched × Typed) (ParseError EitherError)) (a : Matched) (s : Summary) → Ok (a, s) ≡ on_ok d (defined t) → (b : Typed) × (d ≡ Ok (a, b))
read t (Ok p) a s e =
    let w : (a, s) ≡ (p.0, summary t p.1) = cc in
    let q : a ≡ p.0 = ap (λ (x : Matched × Summary). x.0) w in
    (p.1, rw q refl)
read t (Err x) a s e = cc

unread : (t : List ℕ) (d : Result (Matched × Typed) (ParseError EitherError)) (k : Matched × Typed → Result (Matched × Template) ConversionError) (x : ParseError EitherError) → Err x ≡ on_ok d (defined t) → Some (Definition x) ≡ result_err (on_ok (on_err Definition d) k)
unread t (Ok p) k x e = cc
unread t (Err y) k x e = cc

pub definition_refused : (v : View) (m t : List ℕ) (x : ParseError EitherError) → Err x ≡ on_ok (definition_at m t) (defined t) → Some (Definition x) ≡ result_err (checked_by v m t)
definition_refused v m t x e = unread t (definition_at m t) _ x e

-- where it is read the check is that of the rest
whole : (v : View) (m t : List ℕ) (a : Matched) (s : Summary) → Ok (a, s) ≡ on_ok (definition_at m t) (defined t) → checked_by v m t ≡ on_ok (grouped v.rule (load v) v.size a) (with_reading a (deep_at t))
whole v m t a s e = let p = read t (definition_at m t) a s e in rw p.1 refl

pub refused_by : (v : View) (m t : List ℕ) (a : Matched) (s : Summary) (o : Option ConversionError) → Ok (a, s) ≡ on_ok (definition_at m t) (defined t) → o ≡ result_err (rest v a t) → o ≡ result_err (checked_by v m t)
refused_by v m t a s o e h = h ∙ sym (same_rest a (deep_at t) (grouped v.rule (load v) v.size a)) ∙ sym (ap result_err (whole v m t a s e))

-- what is not refused has a reading
reading : (a : Matched) (x : Result Template DeepFault) (g : Result (Option ℕ) ConversionError) → None ≡ result_err (on_ok g (without_reading x)) → (r : Template) × (on_ok g (with_reading a x) ≡ Ok (a, r))
reading a (Ok r) (Ok g) h = fit (captures_fit g (greatest r)) h
  where
    fit : (f : Result (Unit {0}) ConversionError) → None ≡ result_err f → (r' : Template) × (on_ok {B = Matched × Template} f (λ u. Ok (a, r)) ≡ Ok (a, r'))
    fit (Ok u) h = (r, refl)
    fit (Err y) h = cc
reading a (Err y) (Ok g) h = cc
reading a x (Err y) h = cc

pub accepted_by : (v : View) (m t : List ℕ) (a : Matched) (s : Summary) (before after : Held) (o : Option Ticket) → Ok (a, s) ≡ on_ok (definition_at m t) (defined t) → None ≡ result_err (rest v a t) → Handed before after a o → Accepted (checked_by v m t) before after o
accepted_by v m t a s before after o e h k =
    let p = reading a (deep_at t) (grouped v.rule (load v) v.size a) h in
    record { definition = (a, p.0); accepted = whole v m t a s e ∙ p.1; handed = k }

pub rest_exact : (v : View) (a : Matched) (t : List ℕ) → a.pattern ≡ false → rest v a t ≡ fits t None
rest_exact v a t e = rw e refl

pub rest_pattern : (v : View) (a : Matched) (t : List ℕ) → a.pattern ≡ true → rest v a t ≡ pattern_fits v a.bytes t
rest_pattern v a t e = rw e refl
