-- The greatest capture in the separators, piece by piece.
use Rattle.std.proofs.Common.{◌≡◌, ℕ, ◌+◌, List, [], ◌∷◌, Ok, Err, Option, Result, sym, refl, ap, ◌∙◌}
use Rattle.refusal.specs.Refusals.{carried}
use Rattle.refusal.specs.declared.error.InSeparator.{InSeparator}
use Rattle.refusal.specs.declared.error.Side.{Side}
use Rattle.refusal.specs.declared.error.Side.TheVariants.{Left, Middle, Right}
use Rattle.grammar.specs.Deep.{DeepFault, texted, plainly, separator_at, deeply, repeat_from, deep_from, most, most_in, most_between}
use Rattle.grammar.specs.Marks.{halve}
use Rattle.grammar.specs.Readings.{Piece, Separator, Repeat}
use Rattle.grammar.specs.Results.{on_ok, on_err, Fault}
use Rattle.grammar.specs.Shapes.{TypedRepeat, Shape, typed_text, typed_child, typed_repeat, typed_capture}
use Rattle.grammar.specs.Templates.{Typed, template_at, most_typed}
use Rattle.formatter.specs.Views.{on_side, in_repeat, in_piece}
use Rattle.formatter.proofs.Captures.{most-plain}

-- ---- one separator
one_side : (c : Fault → InSeparator) (m : Option ℕ) (t : Result Typed Fault)
    → on_err carried (on_err c (on_ok t (λ t. Ok (most_typed m t.shapes)))) ≡ on_ok (on_err (λ e. carried (c e)) (on_ok t (λ t. Ok (plainly t)))) (λ (a : Separator). Ok (most m a.pieces))
one_side c m (Ok t) = ap (λ o. Ok o) (sym (most-plain m t.shapes))
one_side c m (Err e) = refl

side : (n : ℕ) (s : Side) (m : Option ℕ) (typed : List ℕ) → on_err carried (on_side n s m typed) ≡ on_ok (separator_at n s typed) (λ a. Ok (most m a.pieces))
side n s m typed = one_side (λ e. record { piece = n; side = s; fault = e }) m (template_at (halve 124 typed))

-- ---- one repeat
module _ (n : ℕ) (t : TypedRepeat) where
  last : (a b : Separator) (m : Option ℕ) (C : Result Separator DeepFault)
      → on_ok (on_ok C (λ c. Ok (most m c.pieces))) (λ z. Ok z) ≡ on_ok (on_ok C (λ c. Ok (deeply t a b c))) (λ (r : Repeat). Ok (most m r.behind.pieces))
  last a b m (Ok c) = refl
  last a b m (Err e) = refl

  second : (a : Separator) (m : Option ℕ) (B : Result Separator DeepFault)
      → on_ok (on_ok B (λ b. Ok (most m b.pieces))) (λ y. on_ok (on_err carried (on_side n Right y t.right_sep)) (λ z. Ok z))
      ≡ on_ok (on_ok B (λ b. on_ok (separator_at n Right t.right_sep) (λ c. Ok (deeply t a b c)))) (λ (r : Repeat). Ok (most (most m r.between.pieces) r.behind.pieces))
  second a m (Ok b) =
      ap (λ o. on_ok o (λ z. Ok z)) (side n Right (most m b.pieces) t.right_sep) ∙ last a b (most m b.pieces) (separator_at n Right t.right_sep) ∙ kept (separator_at n Right t.right_sep)
    where
      kept : (C : Result Separator DeepFault)
          → on_ok (on_ok C (λ c. Ok (deeply t a b c))) (λ (r : Repeat). Ok (most (most m b.pieces) r.behind.pieces))
          ≡ on_ok (on_ok C (λ c. Ok (deeply t a b c))) (λ (r : Repeat). Ok (most (most m r.between.pieces) r.behind.pieces))
      kept (Ok c) = refl
      kept (Err e) = refl
  second a m (Err e) = refl

  first : (m : Option ℕ) (A : Result Separator DeepFault)
      → on_ok (on_ok A (λ a. Ok (most m a.pieces))) (λ x. on_ok (on_err carried (on_side n Middle x t.middle_sep)) (λ y. on_ok (on_err carried (on_side n Right y t.right_sep)) (λ z. Ok z)))
      ≡ on_ok (on_ok A (λ a. on_ok (separator_at n Middle t.middle_sep) (λ b. on_ok (separator_at n Right t.right_sep) (λ c. Ok (deeply t a b c))))) (λ r. Ok (most_in m r))
  first m (Ok a) =
      ap (λ o. on_ok o (λ y. on_ok (on_err carried (on_side n Right y t.right_sep)) (λ z. Ok z))) (side n Middle (most m a.pieces) t.middle_sep) ∙ second a (most m a.pieces) (separator_at n Middle t.middle_sep) ∙ kept (separator_at n Middle t.middle_sep) (separator_at n Right t.right_sep)
    where
      kept : (B C : Result Separator DeepFault)
          → on_ok (on_ok B (λ b. on_ok C (λ c. Ok (deeply t a b c)))) (λ (r : Repeat). Ok (most (most (most m a.pieces) r.between.pieces) r.behind.pieces))
          ≡ on_ok (on_ok B (λ b. on_ok C (λ c. Ok (deeply t a b c)))) (λ r. Ok (most_in m r))
      kept (Ok b) (Ok c) = refl
      kept (Ok b) (Err e) = refl
      kept (Err e) C = refl
  first m (Err e) = refl

  sides : (m : Option ℕ) → in_repeat n m t.left_sep t.middle_sep t.right_sep ≡ on_ok (repeat_from n t) (λ r. Ok (most_in m r))
  sides m =
      ap (λ o. on_ok o (λ x. on_ok (on_err carried (on_side n Middle x t.middle_sep)) (λ y. on_ok (on_err carried (on_side n Right y t.right_sep)) (λ z. Ok z)))) (side n Left m t.left_sep) ∙ first m (separator_at n Left t.left_sep)

-- ---- one piece
over : (m : Option ℕ) (f : List (Piece Repeat) → List (Piece Repeat)) (d : Result (List (Piece Repeat)) DeepFault) → ((ps : List (Piece Repeat)) → most_between m (f ps) ≡ most_between m ps)
    → on_ok (on_ok d (λ ps. Ok (f ps))) (λ ps. Ok (most_between m ps)) ≡ on_ok d (λ ps. Ok (most_between m ps))
over m f (Ok ps) h = ap (λ o. Ok o) (h ps)
over m f (Err e) h = refl

past_text : (m : Option ℕ) (t : List ℕ) (ps : List (Piece Repeat)) → most_between m (texted t ps) ≡ most_between m ps
past_text m [] ps = refl
past_text m (b ∷ bs) ps = refl

past_repeat : (m : Option ℕ) (f : Repeat → List (Piece Repeat) → List (Piece Repeat)) (A : Result Repeat DeepFault) (d : Result (List (Piece Repeat)) DeepFault) → ((r : Repeat) (ps : List (Piece Repeat)) → most_between m (f r ps) ≡ most_between (most_in m r) ps)
    → on_ok (on_ok A (λ r. on_ok d (λ ps. Ok (f r ps)))) (λ ps. Ok (most_between m ps)) ≡ on_ok (on_ok A (λ r. Ok (most_in m r))) (λ o. on_ok d (λ ps. Ok (most_between o ps)))
past_repeat m f (Ok r) (Ok ps) h = ap (λ o. Ok o) (h r ps)
past_repeat m f (Ok r) (Err e) h = refl
past_repeat m f (Err e) d h = refl

-- the separators of a piece, and then those of the pieces behind it
pub piece_first : (n : ℕ) (m : Option ℕ) (s : Shape) (ss : List Shape) → on_ok (deep_from n (s ∷ ss)) (λ ps. Ok (most_between m ps)) ≡ on_ok (in_piece n m s) (λ o. on_ok (deep_from (n + 1) ss) (λ ps. Ok (most_between o ps)))
piece_first n m (typed_text t) ss = over m _ (deep_from (n + 1) ss) (past_text m (halve 36 t))
piece_first n m (typed_child p i b) ss = over m _ (deep_from (n + 1) ss) (λ ps. refl)
piece_first n m (typed_repeat x) ss =
    past_repeat m _ (repeat_from n x) (deep_from (n + 1) ss) (λ r ps. refl) ∙ ap (λ o. on_ok o (λ o. on_ok (deep_from (n + 1) ss) (λ ps. Ok (most_between o ps)))) (sym (sides n x m))
piece_first n m (typed_capture k) ss = over m _ (deep_from (n + 1) ss) (λ ps. refl)
