-- Templates and separators that are read, and their codes.
use Rattle.std.proofs.Common.{◌≡◌, ℕ, ◌≤◌, Bool, true, false, cond, leb, List, [], ◌∷◌, ◌++◌, length, Ok, Err, Option, Result, sym, refl, ap, ◌∙◌, arith}
use Rattle.std.specs.List.{AllByRecursion as All}
use Rattle.refusal.specs.Refusals.{of_template}
use Rattle.refusal.specs.declared.error.FormatterError.TheVariants.{TemplateTooLong}
use Rattle.grammar.specs.Deep.{deep_from, deepened, reading_at, deep_at, greatest}
use Rattle.grammar.specs.Limits.{template_limit, piece_allowance}
use Rattle.grammar.specs.Marks.{halve}
use Rattle.grammar.specs.Readings.{Piece, Repeat, Template}
use Rattle.grammar.specs.Results.{on_ok, on_err, located, refusal}
use Rattle.grammar.specs.Templates.{Typed, template_at, formatter_at}
use Rattle.grammar.proofs.Chains.{by_on_ok, by_on_err, same_ok}
use Rattle.templates.specs.Views.{Summary, summary, summed, seen}
use Rattle.templates.specs.declared.defns_const.FormatterConst.{FormatterConst}
use Rattle.formatter.specs.Views.{deep_summary, formatter_read, answered}
use Rattle.formatter.specs.declared.defns.Formatter.{Formatter}
use Rattle.formatter.proofs.Framed.{known, shapes_are}
use Rattle.formatter.proofs.Halving.{no_longer}
use Rattle.formatter.proofs.Separators.{short_read}
use Rattle.codes.specs.Acceptable.{code_limit}
use Rattle.codes.specs.Calls.{short_code, encoded}
use Rattle.codes.specs.Code.{word, code}
use Rattle.codes.specs.Faults.{of_formatter}
use Rattle.codes.specs.declared.error.CodeError.TheVariants.{CodeTooLong}
use Rattle.codes.specs.declared.error.EncodeError.{EncodeError}
use Rattle.codes.specs.declared.error.EncodeError.TheVariants.{Code}
use Rattle.encode.specs.Shapes.{plain_code, shape_code, codes_by, framed, separator_code}
use Rattle.encode.specs.Walks.{Pathed, Whole, Readable}
use Rattle.encode.proofs.Coding.{separator_is, deep_run, all_whole}
use Rattle.encode.proofs.Routes.{all_pathed, all_brief}
use Rattle.templates.proofs.OutputsLeft.{outputs_read}
use Rattle.templates.specs.Outputs.{outputs_of}

-- ---- separators
module _ (typed xs : List ℕ) (is : xs ≡ halve 124 typed) (short : length typed ≤ template_limit) (p : Readable typed) where
  same_template : formatter_at xs ≡ template_at (halve 124 typed)
  same_template =
      let h : length (halve 124 typed) ≤ template_limit = omega (arith, no_longer 124 typed) in
      ap formatter_at is ∙ short_read (halve 124 typed) h

  module _ (f : FormatterConst) (h : Ok (seen f) ≡ on_ok (formatter_at xs) (summed xs)) where
    known_pieces : outputs_of f ≡ (known xs f h).typed.shapes
    known_pieces = let k = known xs f h in outputs_read piece_allowance f.text.now f.start k.typed.shapes k.shapes

    pub separator_pathed : All Pathed (outputs_of f)
    separator_pathed = all_pathed f.text.now f.start (known xs f h).short

    pub separator_code_lem : separator_code typed ≡ framed f.bind_power (codes_by plain_code (outputs_of f))
    separator_code_lem =
        let k = known xs f h in
        separator_is typed k.typed f.bind_power (sym same_template ∙ k.found) (ap (λ (s : Summary). s.left) k.same) (ap (λ (s : Summary). s.right) k.same)
        ∙ ap (λ ss. framed f.bind_power (codes_by plain_code ss)) (sym known_pieces)

-- ---- a template of any length
deep_is : (cs : List ℕ) → deep_at cs ≡ on_ok (on_err of_template (formatter_at cs)) deepened
deep_is cs = go (leb (length cs) template_limit) where
  go : (b : Bool) → cond b (reading_at cs) (Err (of_template (located TemplateTooLong 0 0))) ≡ on_ok (on_err of_template (cond b (template_at cs) (refusal TemplateTooLong 0 0))) deepened
  go true = refl
  go false = refl

-- ---- where it is read
abbrev pub coded : FormatterConst → List ℕ
coded f = framed f.bind_power (codes_by shape_code (outputs_of f))

abbrev pub limited_to : List ℕ → Result (List ℕ) EncodeError
limited_to w = cond (leb (length w) code_limit) (Ok w) (Err (Code CodeTooLong))

pub record Told (cs : List ℕ) (f : FormatterConst) : Type 0 where
  pub good : All Whole (outputs_of f)
  pub encodes : encoded cs ≡ limited_to (coded f)

abbrev reading : Typed → List (Piece Repeat) → Template
reading t ps = record { left = t.left; right = t.right; pieces = ps }

code_is : (cs : List ℕ) (t : Typed) (ps : List (Piece Repeat)) (f : FormatterConst) → summary cs t ≡ seen f → deep_from 0 t.shapes ≡ Ok ps → outputs_of f ≡ t.shapes → code (reading t ps) ≡ coded f
code_is cs t ps f same deep shapes =
    ap (λ k. 1 ∷ word t.left (word t.right k)) (deep_run 0 t.shapes ps [] deep ∙ ap (λ ss. codes_by shape_code ss ++ (0 ∷ [])) (sym shapes))
    ∙ ap (λ (s : Summary). 1 ∷ word s.left (word s.right (codes_by shape_code (outputs_of f) ++ (0 ∷ [])))) same

told_of : (cs : List ℕ) (t : Typed) (ps : List (Piece Repeat)) (f : FormatterConst) → formatter_at cs ≡ Ok t → deep_from 0 t.shapes ≡ Ok ps → summary cs t ≡ seen f → Told cs f
told_of cs t ps f found deep same =
    let body = shapes_are cs f t found same in
    let shapes = outputs_read piece_allowance f.text.now f.start t.shapes body in
    let short = (known cs f (sym (ap (λ m. on_ok m (summed cs)) found ∙ ap (λ (s : Summary). Ok s) same))).short in
    let reads : deep_at cs ≡ Ok (reading t ps) = deep_is cs ∙ ap (λ m. on_ok (on_err of_template m) deepened) found ∙ ap (λ d. on_ok d (λ ps. Ok (reading t ps))) deep in
    record {
      good = all_whole (outputs_of f) (all_pathed f.text.now f.start short) (all_brief f.text.now f.start short) 0 ps (ap (deep_from 0) shapes ∙ deep);
      encodes = ap (λ d. on_ok (on_err of_formatter d) short_code) reads ∙ ap limited_to (code_is cs t ps f same deep shapes);
    }

pub told : (cs : List ℕ) (f : Formatter) → Ok (answered f) ≡ formatter_read cs → Told cs f.parts
told cs f h =
    let t = by_on_ok (on_err of_template (formatter_at cs)) (deep_summary cs) (answered f) (sym h) in
    let r = by_on_ok (deepened t.0) (λ r. Ok (summary cs t.0, greatest r)) (answered f) t.2 in
    let p = by_on_ok (deep_from 0 t.0.shapes) (λ ps. Ok (reading t.0 ps)) r.0 r.1 in
    told_of cs t.0 p.0 f.parts (by_on_err of_template (formatter_at cs) t.0 t.1) p.1
    (ap (λ (x : Summary × Option ℕ). x.0) (same_ok (summary cs t.0, greatest r.0) (answered f) r.2))
