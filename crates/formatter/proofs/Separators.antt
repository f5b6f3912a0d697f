-- A separator, halved into a buffer and read from there as a template.
use Rattle.std.proofs.Common.{◌≡◌, ℕ, ◌-◌, ◌≤◌, cond, leb, List, ◌++◌, length, take, drop, Some, None, Ok, Err, Option, Result, unwrap_or, sym, ap, ◌∙◌, arith}
use Rattle.std.proofs.lemmas.List.{take_at}
use Rattle.std.proofs.lemmas.Bool.{le-leb}
use Rattle.grammar.specs.Limits.{template_limit}
use Rattle.grammar.specs.Marks.{halve}
use Rattle.grammar.specs.Results.{on_ok, Fault}
use Rattle.grammar.specs.Templates.{Typed, template_at, formatter_at, most_typed}
use Rattle.grammar.proofs.Chains.{same_ok, refused}
use Rattle.templates.specs.Views.{Summary, summed, seen}
use Rattle.templates.specs.declared.defns_const.FormatterConst.{FormatterConst}
use Rattle.formatter.specs.Views.{greater_of, in_separator}
use Rattle.formatter.proofs.Captures.{joins}
use Rattle.formatter.proofs.Halving.{no_longer}

module _ (typed out last : List ℕ) (r : Option ℕ) (n : ℕ) (room : length typed ≤ length out) (s : r ≡ cond (leb (length typed) (length out)) (Some (length (halve 124 typed))) None) (v : n ≡ unwrap_or r 0) where
  pub size_is : n ≡ length (halve 124 typed)
  size_is = let yes = le-leb _ _ room in v ∙ ap (λ o. unwrap_or o 0) s ∙ ap (λ b. unwrap_or (cond b (Some (length (halve 124 typed))) None) 0) yes

  pub text_is : last ≡ cond (leb (length typed) (length out)) (halve 124 typed ++ drop (length (halve 124 typed)) out) out → take (n - 0) last ≡ halve 124 typed
  text_is e =
      let yes = le-leb _ _ room in
      let long : length (halve 124 typed) ≡ n - 0 = omega (arith, size_is) in
      ap (take (n - 0)) (e ∙ ap (λ b. cond b (halve 124 typed ++ drop (length (halve 124 typed)) out) out) yes) ∙ take_at (halve 124 typed) _ (n - 0) long

-- what is read of a short text
pub short_read : (xs : List ℕ) → length xs ≤ template_limit → formatter_at xs ≡ template_at xs
short_read xs h = let yes = le-leb _ _ h in rw yes

fails : (m : Option ℕ) (xs : List ℕ) (t : Result Typed Fault) (e : Fault) → Err e ≡ on_ok t (summed xs) → Err e ≡ on_ok t (λ t. Ok (most_typed m t.shapes))
fails m xs (Ok t) e h = refused _ _ h
fails m xs (Err x) e h = cc

reads : (m : Option ℕ) (xs : List ℕ) (t : Result Typed Fault) (f : FormatterConst) → Ok (seen f) ≡ on_ok t (summed xs) → Ok (greater_of m f.max_capture) ≡ on_ok t (λ t. Ok (most_typed m t.shapes))
reads m xs (Ok t) f h =
    let e = same_ok _ _ h in ap (λ o. Ok (greater_of m o)) (ap (λ (s : Summary). s.most) e) ∙ ap (λ o. Ok o) (joins m t.shapes)
reads m xs (Err x) f h = refused _ _ (sym h)

module _ (m : Option ℕ) (typed xs : List ℕ) (is : xs ≡ halve 124 typed) (short : length typed ≤ template_limit) where
  template : formatter_at xs ≡ template_at (halve 124 typed)
  template =
      let h : length (halve 124 typed) ≤ template_limit = omega (arith, no_longer 124 typed) in
      ap formatter_at is ∙ short_read (halve 124 typed) h

  pub separator_fails : (e : Fault) → Err e ≡ on_ok (formatter_at xs) (summed xs) → Err e ≡ in_separator m typed
  separator_fails e h = fails m xs (template_at (halve 124 typed)) e (h ∙ ap (λ t. on_ok t (summed xs)) template)

  pub separator_reads : (f : FormatterConst) → Ok (seen f) ≡ on_ok (formatter_at xs) (summed xs) → Ok (greater_of m f.max_capture) ≡ in_separator m typed
  separator_reads f h = reads m xs (template_at (halve 124 typed)) f (h ∙ ap (λ t. on_ok t (summed xs)) template)
