-- The pieces of a text: what is known of each, and what is left to write of them.
use Rattle.std.proofs.Common.{◌≡◌, ℕ, zero, suc, ◌+◌, ◌≤◌, List, [], ◌∷◌, length, drop, Some, None, Ok, Err, Option, Result, IsErrAnd, sym, refl, ap, ◌∙◌, subst, arith, length-drop}
use Rattle.std.specs.List.{AllByRecursion as All}
use Rattle.controls.specs.Views.{shape}
use Rattle.controls.specs.declared.defns_const.SubFormatterConst.{SubFormatterConst}
use Rattle.controls.specs.declared.defns_const.SubFormatterConst.TheVariants.{String, Single, Repeat, Capture}
use Rattle.formatter.specs.Views.{Short}
use Rattle.formatter.proofs.Outputs.{output_short}
use Rattle.grammar.specs.Limits.{template_limit}
use Rattle.grammar.specs.Results.{on_some}
use Rattle.grammar.specs.Shapes.{Shape, typed_text, typed_child, typed_repeat, typed_capture}
use Rattle.templates.specs.Outputs.{first_outputs, outputs_from}
use Rattle.templates.specs.Views.{output_at}
use Rattle.pen.specs.Pen.{Wrote}
use Rattle.pen.specs.declared.writing.Full.{Full}
use Rattle.pen.specs.declared.writing.Pen.{Pen}
use Rattle.pen.proofs.Pages.{Goes, begun, more, stops, ends}
use Rattle.encode.specs.Shapes.{codes_by}
use Rattle.encode.specs.Walks.{Pathed}
use Rattle.encode.proofs.Pathing.{output_pathed}

-- ---- the separators of a piece have at most a template's bytes
-- a piece with these bytes
abbrev pub dressed : Shape → SubFormatterConst
dressed (typed_text t) = String (record { ref_ptr = (0, 0); now = t })
dressed (typed_child p i b) = Single (record { ref_ptr = (0, 0); now = p }) i b
dressed (typed_repeat x) =
    Repeat (record { ref_ptr = (0, 0); now = x.path }) x.from x.to x.left x.middle x.right
    (record { ref_ptr = (0, 0); now = x.left_sep }) (record { ref_ptr = (0, 0); now = x.middle_sep }) (record { ref_ptr = (0, 0); now = x.right_sep })
dressed (typed_capture n) = Capture n

undressed : (s : Shape) → shape (dressed s) ≡ s
undressed (typed_text t) = refl
undressed (typed_child p i b) = refl
undressed (typed_repeat x) = refl
undressed (typed_capture n) = refl

abbrev pub Brief : Shape → Type 0
Brief s = Short (dressed s)

brief : (place : ℕ) (cs : List ℕ) (s : Shape) (u : ℕ) → length cs ≤ template_limit → output_at place cs ≡ Some (s, u) → Brief s
brief place cs s u h e = output_short place cs (dressed s) u h (ap (λ (t : Shape). Some (t, u)) (undressed s) ∙ sym e)

-- ---- all pieces of a text
each : (P : Shape → Type 0) → ((place : ℕ) (cs : List ℕ) (s : Shape) (u : ℕ) → length cs ≤ template_limit → output_at place cs ≡ Some (s, u) → P s)
    → (n place : ℕ) (cs : List ℕ) → length cs ≤ template_limit → All P (first_outputs n place cs)
each P f zero place cs h = tt
each P f (suc n) place cs h = go (λ p. each P f n (place + p.1) (drop p.1 cs) (omega (arith, length-drop p.1 cs))) (output_at place cs) refl
  where
    go : ((p : Shape × ℕ) → All P (first_outputs n (place + p.1) (drop p.1 cs))) → (o : Option (Shape × ℕ)) → output_at place cs ≡ o → All P (on_some o [] (λ p. p.0 ∷ first_outputs n (place + p.1) (drop p.1 cs)))
    go k None e = tt
    go k (Some p) e = (f place cs p.0 p.1 h e, k p)

module _ (text : List ℕ) (place : ℕ) (short : length text ≤ template_limit) where
  rest_short : length (drop place text) ≤ template_limit
  rest_short = omega (arith, length-drop place text)

  pub all_pathed : All Pathed (outputs_from place text)
  all_pathed = each Pathed (λ place cs s u _ e. output_pathed place cs s u e) (length text) place (drop place text) rest_short

  pub all_brief : All Brief (outputs_from place text)
  all_brief = each Brief brief (length text) place (drop place text) rest_short

-- ---- the pieces that are left to write
pub record Route (P : Shape → Type 0) (f : Shape → List ℕ) (old : Pen) (whole : List ℕ) (new : Pen) (left : List Shape) : Type 0 where
  pub good : All P left
  pub writes : Goes old whole new (codes_by f left)

pub route_begun : {P : Shape → Type 0} {f : Shape → List ℕ} (old : Pen) {left ss : List Shape} → left ≡ ss → All P ss → Route P f old (codes_by f ss) old left
route_begun {P} {f} old e g = record { good = subst (All P) (sym e) g; writes = begun old (ap (codes_by f) e) }

module _ {P : Shape → Type 0} {f : Shape → List ℕ} {old : Pen} {whole : List ℕ} {new : Pen} {left : List Shape} (t : Route P f old whole new left) where
  pub route_ends : {x : Unit {0}} → left ≡ [] → Wrote old new whole (Ok x)
  route_ends e = ends t.writes (ap (codes_by f) e)

  module _ {s : Shape} {ss : List Shape} (e : left ≡ s ∷ ss) where
    pub route_good : P s
    route_good = (subst (All P) e t.good).0

    pub route_more : {next : Pen} {x : Unit {0}} → Wrote new next (f s) (Ok x) → Route P f old whole next ss
    route_more w = record { good = (subst (All P) e t.good).1; writes = more t.writes (f s) (codes_by f ss) (ap (codes_by f) e) w }

    pub route_stops : {after : Pen} {y : Full} {r : Result (Unit {0}) Full} → Wrote new after (f s) (Err y) → IsErrAnd r (λ x. x ≡ y) → Wrote old after whole r
    route_stops w h = stops t.writes (f s) (codes_by f ss) (ap (codes_by f) e) w h
