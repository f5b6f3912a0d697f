-- The whole reading, put together from the template's and its separators'.
use Rattle.std.proofs.Common.{◌≡◌, ℕ, List, None, Ok, Err, Option, Result, sym, refl, ap, ◌∙◌, ap₂}
use Rattle.refusal.specs.Refusals.{of_template}
use Rattle.grammar.specs.Deep.{DeepFault, deep_from, most_between, greatest}
use Rattle.grammar.specs.Readings.{Piece, Repeat, Template}
use Rattle.grammar.specs.Results.{on_ok, on_err, Fault}
use Rattle.grammar.specs.Templates.{Typed, most_typed}
use Rattle.grammar.proofs.Chains.{same_ok, refused}
use Rattle.templates.specs.Outputs.{outputs_of}
use Rattle.templates.specs.Views.{Summary, summary, summed, seen}
use Rattle.templates.specs.declared.defns_const.FormatterConst.{FormatterConst}
use Rattle.formatter.specs.Views.{between_pieces, deep_summary, formatter_read}
use Rattle.formatter.proofs.Captures.{most_deep}
use Rattle.formatter.proofs.Framed.{Known, outputs_are}

abbrev pub reading : Typed → List (Piece Repeat) → Template
reading t ps = record { left = t.left; right = t.right; pieces = ps }

-- the template itself is at fault
pub template_fails : (cs : List ℕ) (t : Result Typed Fault) (e : Fault) → Err e ≡ on_ok t (summed cs) → Err (of_template e) ≡ on_ok (on_err of_template t) (deep_summary cs)
template_fails cs (Ok t) e h = refused _ _ h
template_fails cs (Err x) e h = cc

-- the separators, by what deepFrom answers
abbrev Between : Typed → Result (List (Piece Repeat)) DeepFault → Result (Option ℕ) DeepFault
Between t d = on_ok d (λ ps. Ok (most_between (most_typed None t.shapes) ps))

abbrev Deep : List ℕ → Typed → Result (List (Piece Repeat)) DeepFault → Result (Summary × Option ℕ) DeepFault
Deep cs t d = on_ok (on_ok d (λ ps. Ok (reading t ps))) (λ r. Ok (summary cs t, greatest r))

deep_fails : (cs : List ℕ) (t : Typed) (d : Result (List (Piece Repeat)) DeepFault) (e : DeepFault) → Err e ≡ Between t d → Err e ≡ Deep cs t d
deep_fails cs t (Ok ps) e h = refused _ _ h
deep_fails cs t (Err x) e h = cc

deep_reads : (cs : List ℕ) (t : Typed) (d : Result (List (Piece Repeat)) DeepFault) (m : Option ℕ) → deep_from 0 t.shapes ≡ d → Ok m ≡ Between t d → Ok (summary cs t, m) ≡ Deep cs t d
deep_reads cs t (Ok ps) m e h =
    ap (λ o. Ok (summary cs t, o)) (same_ok m _ h ∙ ap (λ o. most_between o ps) (sym (most_deep None 0 t.shapes ps e)))
deep_reads cs t (Err x) m e h = refused _ _ (sym h)

module _ (cs : List ℕ) (parts : FormatterConst) (k : Known cs parts) where
  whole_is : formatter_read cs ≡ Deep cs k.typed (deep_from 0 k.typed.shapes)
  whole_is = ap (λ t. on_ok (on_err of_template t) (deep_summary cs)) k.found

  between_is : between_pieces parts.max_capture (Ok (outputs_of parts)) ≡ Between k.typed (deep_from 0 k.typed.shapes)
  between_is = ap₂ (λ m ss. between_pieces m (Ok ss)) (sym (ap (λ (s : Summary). s.most) k.same)) (outputs_are cs parts k)

  pub pieces_fail : (e : DeepFault) → Err e ≡ between_pieces parts.max_capture (Ok (outputs_of parts)) → Err e ≡ formatter_read cs
  pieces_fail e h = deep_fails cs k.typed (deep_from 0 k.typed.shapes) e (h ∙ between_is) ∙ sym whole_is

  pub pieces_read : (m : Option ℕ) → Ok m ≡ between_pieces parts.max_capture (Ok (outputs_of parts)) → Ok (seen parts, m) ≡ formatter_read cs
  pieces_read m h =
      ap (λ s. Ok (s, m)) (sym k.same) ∙ deep_reads cs k.typed (deep_from 0 k.typed.shapes) m refl (h ∙ between_is) ∙ sym whole_is
