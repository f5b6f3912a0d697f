-- A turn of reading a body: the text that stands first, and the control behind it.
use Rattle.std.proofs.Common.{◌≡◌, ℕ, ◌+◌, ◌<◌, ◌≤◌, Bool, true, false, eqb, ◌⊎◌, List, [], ◌∷◌, take, drop, Some, None, Ok, Err, Option, Result, sym, refl, ap, ◌∙◌, inl, inr, arith}
use Rattle.std.proofs.lemmas.Bool.{eqb-true, eqb-false, ne_eqb}
use Rattle.std.proofs.lemmas.List.{drop-drop}
use Rattle.refusal.specs.declared.error.FormatterError.TheVariants.{TooManyPieces}
use Rattle.grammar.specs.Limits.{piece_allowance}
use Rattle.grammar.specs.Marks.{unpaired}
use Rattle.grammar.specs.Results.{located, refusal, Fault}
use Rattle.grammar.specs.Shapes.{Shape, typed_text}
use Rattle.grammar.specs.Templates.{leading, piece_at, most_typed}
use Rattle.grammar.proofs.Chains.{same_ok, refused}
use Rattle.templates.specs.Views.{one_more}
use Rattle.templates.proofs.Turns.{rest, rest_refused, rest_ended, rest_more, rest_full}

-- ---- one piece more
more_ok : (n place size k : ℕ) → n ≤ piece_allowance → Ok k ≡ one_more n place size → (n < piece_allowance) × (k ≡ n + 1)
more_ok n place size k h e = go (eqb n piece_allowance) refl
  where
    go : (b : Bool) → eqb n piece_allowance ≡ b → (n < piece_allowance) × (k ≡ n + 1)
    go true p = refused (located TooManyPieces place size) k (sym (rw p at e))
    go false p =
        let ne = eqb-false n piece_allowance p in
        (omega arith, same_ok k (n + 1) (rw p at e))

more_err : (n place size : ℕ) (f : Fault) → Err f ≡ one_more n place size → (n ≡ piece_allowance) × (f ≡ located TooManyPieces place size)
more_err n place size f e = go (eqb n piece_allowance) refl
  where
    go : (b : Bool) → eqb n piece_allowance ≡ b → (n ≡ piece_allowance) × (f ≡ located TooManyPieces place size)
    go true p = let q : ◌≡◌ {A = Result ℕ Fault} (Err f) (refusal TooManyPieces place size) = rw p at e in (eqb-true n piece_allowance p, cc)
    go false p = refused f (n + 1) (rw p at e)

-- n' pieces with the text of k bytes at a place, if there is one
abbrev pub Counted : (n place k n' : ℕ) → Type 0
Counted n place k n' = ((0 < k) × (Ok n' ≡ one_more n place k)) ⊎ ((k ≤ 0) × (n' ≡ n))

-- ---- what stands first
-- behind the text that stands first stands no text
unpaired_rest : (m : ℕ) (cs : List ℕ) → unpaired m (drop (unpaired m cs) cs) ≡ 0
unpaired_rest m [] = refl
unpaired_rest m (c ∷ []) = go (eqb c m) refl
  where
    go : (b : Bool) → eqb c m ≡ b → unpaired m (drop (unpaired m (c ∷ [])) (c ∷ [])) ≡ 0
    go true e = rw e (rw e refl)
    go false e = rw e refl
unpaired_rest m (c ∷ d ∷ cs) = go (eqb c m) (eqb d m) refl refl (unpaired_rest m cs) (unpaired_rest m (d ∷ cs))
  where
    go : (a b : Bool) → eqb c m ≡ a → eqb d m ≡ b → unpaired m (drop (unpaired m cs) cs) ≡ 0 → unpaired m (drop (unpaired m (d ∷ cs)) (d ∷ cs)) ≡ 0 → unpaired m (drop (unpaired m (c ∷ d ∷ cs)) (c ∷ d ∷ cs)) ≡ 0
    go true true p q h k = rw (p, q) h
    go true false p q h k = rw (p, q) (rw (p, q) refl)
    go false b p q h k = rw p k

-- k bytes of text stand at a place of a text, and behind them what is answered of the control
module _ (text : List ℕ) (at k : ℕ) (words : k ≡ unpaired 36 (drop at text)) where
  pub words_refused : (n : ℕ) (m : Option ℕ) (e : Fault) → Err e ≡ leading (at + k) (drop (at + k) text) → Err e ≡ rest n m at (drop at text)
  words_refused n m e h =
      let c : Err e ≡ leading (at + k) (drop k (drop at text)) = rw (drop-drop k at text) h in
      let p : Err e ≡ piece_at at (drop at text) = rw (← words, ← c) refl in
      rest_refused n at m (drop at text) e p

  module _ (o : Option (Shape × ℕ)) (control : Ok o ≡ leading (at + k) (drop (at + k) text)) where
    control_first : Ok o ≡ leading (at + k) (drop k (drop at text))
    control_first = rw (drop-drop k at text) control

    text_first : 0 < k → Ok (Some (typed_text (take k (drop at text)), k)) ≡ piece_at at (drop at text)
    text_first l =
        let some : eqb k 0 ≡ false = ne_eqb k 0 (λ z. omega arith) in
        rw (← words, ← control_first, some) refl

    control_behind : Ok o ≡ piece_at (at + k) (drop (at + k) text)
    control_behind =
        let z : unpaired 36 (drop k (drop at text)) ≡ 0 = rw words (unpaired_rest 36 (drop at text)) in
        let y : unpaired 36 (drop (at + k) text) ≡ 0 = rw (drop-drop k at text) at z in
        let p : at + k + 0 ≡ at + k = omega arith in
        rw y (rw (p, ← control) refl)

    pub text_full : (n : ℕ) (m : Option ℕ) (f : Fault) → 0 < k → Err f ≡ one_more n at k → Err f ≡ rest n m at (drop at text)
    text_full n m f l e =
        let (p, q) = more_err n at k f e in
        ap (λ (x : Fault). Err x) q ∙ rest_full n at m (drop at text) (typed_text (take k (drop at text))) k p (text_first l)

    -- n' pieces with the text, if there is one
    module _ (n n' : ℕ) (m : Option ℕ) (few : n ≤ piece_allowance) (counted : Counted n at k n') where
      pub few_still : n' ≤ piece_allowance
      few_still = go counted
        where
          go : Counted n at k n' → n' ≤ piece_allowance
          go (inl w) = let (p, q) = more_ok n at k n' few w.1 in omega arith
          go (inr w) = omega arith

      text_passed : rest n m at (drop at text) ≡ rest n' m (at + k) (drop (at + k) text)
      text_passed = go counted
        where
          go : Counted n at k n' → rest n m at (drop at text) ≡ rest n' m (at + k) (drop (at + k) text)
          go (inl w) =
              let (p, q) = more_ok n at k n' few w.1 in
              rest_more n at m (drop at text) (typed_text (take k (drop at text))) k p (text_first w.0) ∙ rw (q, drop-drop k at text) refl
          go (inr w) = let a : at + k ≡ at = omega arith in rw (a, w.1) refl

      pub body_ended : o ≡ None → Ok (n', m) ≡ rest n m at (drop at text)
      body_ended z = rest_ended n' (at + k) m (drop (at + k) text) (rw z at control_behind) ∙ sym text_passed

      pub control_full : (s : Shape) (u : ℕ) (f : Fault) → o ≡ Some (s, u) → Err f ≡ one_more n' (at + k) u → Err f ≡ rest n m at (drop at text)
      control_full s u f z e =
          let (p, q) = more_err n' (at + k) u f e in
          ap (λ (x : Fault). Err x) q ∙ rest_full n' (at + k) m (drop (at + k) text) s u p (rw z at control_behind) ∙ sym text_passed

      pub control_passed : (s : Shape) (u n'' : ℕ) → o ≡ Some (s, u) → Ok n'' ≡ one_more n' (at + k) u → (n'' ≤ piece_allowance) × (rest n'' (most_typed m (s ∷ [])) (at + (k + u)) (drop (at + (k + u)) text) ≡ rest n m at (drop at text))
      control_passed s u n'' z e =
          let (p, q) = more_ok n' (at + k) u n'' few_still e in
          let a : at + (k + u) ≡ at + k + u = omega arith in
          let r = rest_more n' (at + k) m (drop (at + k) text) s u p (rw z at control_behind) in
          (omega arith, rw (a, q, ← drop-drop u (at + k) text) (sym (text_passed ∙ r)))
