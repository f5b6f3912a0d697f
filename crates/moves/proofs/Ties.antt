-- The commands of a reading's code do what its pieces say.
use Rattle.std.proofs.Common.{◌≡◌, ℕ, suc, Bool, true, false, cond, List, [], ◌∷◌, ◌++◌, Some, None, Option, sym, refl, ap, ◌∙◌}
use Rattle.std.specs.List.{AllByRecursion as All}
use Rattle.codes.specs.Code.{run as code, bytes as texts, commands, point, range as ranges, code_separator, code_repeat, code as code_of, never}
use Rattle.codes.specs.Code.{Command as Order}
use Rattle.codes.specs.Decode.{on_some}
use Rattle.codes.specs.Formed.{Fits, Never, FormedSeparator, FormedRepeat, FormedTemplate}
use Rattle.engine.specs.declared.span.Span.{Span}
use Rattle.grammar.proofs.Numerals.{bits-int}
use Rattle.grammar.specs.Numbers.{bits, int}
use Rattle.grammar.specs.Readings.{Piece, text, child, capture, repeat, Separator, Repeat, Template, Index}
use Rattle.grammar.specs.Readings.{Byte as IsByte}
use Rattle.lines.specs.Children.{child_of, descend, selected}
use Rattle.lines.specs.Events.{Event, byte, Context, context, among, bytes, captured, or_missing, is_last, pieces, separator, gap, row, range, repeated, body}
use Rattle.terms.specs.Source.{Source}
use Rattle.wire.proofs.Runs.{stepped, due-steps, past_separator}
use Rattle.wire.proofs.Wires.{due_end, due_byte, due_child, due_range, due_capture, due-power}
use Rattle.wire.specs.Ahead.{due, is_end, is_range, past}
use Rattle.wire.specs.Commands.{index_of}
use Rattle.wire.specs.declared.commands.Command.{Command}
use Rattle.wire.specs.declared.commands.Command.TheVariants.{Byte, Step, Child, Capture}
use Rattle.moves.proofs.Runs.{like_append}
use Rattle.moves.specs.Run.{State, run, Like}
use Rattle.moves.specs.Walk.{or_else, reached, skips, over, amid, row_by, range_by, plain, walk, inside, part_of, outside}

module _ (m : Source) (show : ℕ → Context → List Event) (t : ℕ) (name : List ℕ) (spans : List (Option Span)) where
  -- readings passed over
  walk_past : (part : ℕ → Command → List Command → List Event) (n u : ℕ) (ks : List Command) → walk m show t name spans part (suc n) u ks ≡ walk m show t name spans part n u (past ks)
  walk_past part n u [] = refl
  walk_past part n u (k ∷ ks) = go (is_end k) (walk_past part n u ks)
    where
      go : (b : Bool) → walk m show t name spans part (suc n) u ks ≡ walk m show t name spans part n u (past ks)
          → cond b (walk m show t name spans part n u ks) (walk m show t name spans part (suc n) u ks) ≡ walk m show t name spans part n u (cond b ks (past ks))
      go true h = refl
      go false h = h

  pub walk_over : (part : ℕ → Command → List Command → List Event) (u : ℕ) (k : Command) (ks : List Command) → walk m show t name spans part (skips k) u ks ≡ walk m show t name spans part 0 u (over k ks)
  walk_over part u k ks = go (is_range k)
    where
      go : (b : Bool) → walk m show t name spans part (cond b 3 0) u ks ≡ walk m show t name spans part 0 u (cond b (past (past (past ks))) ks)
      go true = walk_past part 2 u ks ∙ walk_past part 1 u (past ks) ∙ walk_past part 0 u (past (past ks))
      go false = refl

  reached_index : (u i : ℕ) → Index i → reached m u (index_of i) ≡ child_of m u i
  reached_index u i h = ap (child_of m u) (bits-int i h.0)

  -- the pieces of a reading, where what happens at a repeat is told by g, and its commands do that
  module _ {R : Type 0} (w : R → List ℕ → List ℕ) (F : R → Type 0) (part : ℕ → Command → List Command → List Event)
      (at_byte : (u b : ℕ) (ks : List Command) → part u (Byte b) ks ≡ byte b ∷ [])
      (at_step : (u i : ℕ) (ks : List Command) → part u (Step (index_of i)) ks ≡ or_missing (reached m u (index_of i)) (λ v. []))
      (at-child : (u i l r : ℕ) (ks : List Command) → part u (Child (index_of i) l r) ks ≡ or_missing (reached m u (index_of i)) (λ c. show c (context l r)))
      (at-capture : (u k : ℕ) (ks : List Command) → part u (Capture k) ks ≡ bytes (captured name spans k))
      (g : List ℕ → R → List Event) (g' : ℕ → R → List Event) (reach : (s : List ℕ) (x : R) → g s x ≡ or_missing (descend m t s) (λ u. g' u x))
      (ranged : (x : R) → F x → (u : ℕ) (cs : List ℕ) (s : State) → run (walk m show t name spans part 0 u (due 0 (5 ∷ w x cs))) s ≡ run (g' u x ++ walk m show t name spans part 0 t (due 0 cs)) s) where
    abbrev go_on : ℕ → List Command → List Event
    go_on u ks = walk m show t name spans part 0 u ks

    on_steps : (s : List ℕ) (u : ℕ) (ks : List Command) → All Index s → (z : State) → run (go_on u (stepped s ks)) z ≡ run (or_missing (descend m u s) (λ v. go_on v ks)) z
    on_steps [] u ks h z = refl
    on_steps (i ∷ s) u ks h z =
        ap (λ es. run (es ++ go_on (or_else t (reached m u (index_of i))) (stepped s ks)) z) (at_step u i (stepped s ks))
        ∙ ap (λ o. run (or_missing o (λ v. []) ++ go_on (or_else t o) (stepped s ks)) z) (reached_index u i h.0)
        ∙ by (child_of m u i) (λ v. on_steps s v ks h.1 z)
      where
        by : (o : Option ℕ) → ((v : ℕ) → run (go_on v (stepped s ks)) z ≡ run (or_missing (descend m v s) (λ v. go_on v ks)) z) → run (or_missing o (λ v. []) ++ go_on (or_else t o) (stepped s ks)) z ≡ run (or_missing (on_some o (λ v. descend m v s)) (λ v. go_on v ks)) z
        by None e = refl
        by (Some v) e = e v

    on_texts : (bs : List ℕ) (ks : List (Order R)) (cs : List ℕ) → All IsByte bs → go_on t (due 0 (code w (texts bs ks) cs)) ≡ bytes bs ++ go_on t (due 0 (code w ks cs))
    on_texts [] ks cs h = refl
    on_texts (b ∷ bs) ks cs h =
        ap (go_on t) (due_byte b (code w (texts bs ks) cs) h.0)
        ∙ (λ i. at_byte t b (due 0 (code w (texts bs ks) cs)) i ++ on_texts bs ks cs h.1 i)

    -- what is left behind one piece does the same
    keeps : (es fs fs' : List Event) → Like fs fs' → Like (es ++ fs) (es ++ fs')
    keeps es fs fs' q = like_append es es fs fs' (λ s. refl) q

    pub on_pieces : (ps : List (Piece R)) (cs : List ℕ) → All (Fits F) ps → Like (go_on t (due 0 (code w (commands ps) cs))) (pieces m show t name spans g ps)
    on_pieces [] cs h z = ap (λ ks. run (go_on t ks) z) (due_end cs)
    on_pieces (text b bs ∷ ps) cs h z = ap (λ es. run es z) (on_texts (b ∷ bs) (commands ps) cs h.0) ∙ keeps (bytes (b ∷ bs)) _ _ (on_pieces ps cs h.1) z
    on_pieces (child s i l r ∷ ps) cs h z =
        ap (λ ks. run (go_on t ks) z) (due-steps w s (point i l r ∷ commands ps) cs h.0.0 ∙ ap (stepped s) (due_child i l r (code w (commands ps) cs) h.0.1 h.0.2 h.0.3))
        ∙ on_steps s t (Child (index_of i) l r ∷ due 0 (code w (commands ps) cs)) h.0.0 z
        ∙ by (descend m t s) (on_pieces ps cs h.1)
      where
        by : (o : Option ℕ) → Like (go_on t (due 0 (code w (commands ps) cs))) (pieces m show t name spans g ps)
            → run (or_missing o (λ v. go_on v (Child (index_of i) l r ∷ due 0 (code w (commands ps) cs)))) z ≡ run (or_missing (on_some o (λ u. child_of m u i)) (λ c. show c (context l r)) ++ pieces m show t name spans g ps) z
        by None q = refl
        by (Some v) q =
            ap (λ es. run (es ++ go_on t (due 0 (code w (commands ps) cs))) z) (at-child v i l r (due 0 (code w (commands ps) cs)) ∙ ap (λ o. or_missing o (λ c. show c (context l r))) (reached_index v i h.0.1))
            ∙ keeps (or_missing (child_of m v i) (λ c. show c (context l r))) _ _ q z
    on_pieces (capture k ∷ ps) cs h z =
        ap (λ ks. run (go_on t ks) z) (due_capture k (code w (commands ps) cs) h.0)
        ∙ ap (λ es. run (es ++ go_on t (due 0 (code w (commands ps) cs))) z) (at-capture t k (due 0 (code w (commands ps) cs)))
        ∙ keeps (bytes (captured name spans k)) _ _ (on_pieces ps cs h.1) z
    on_pieces (repeat s x ∷ ps) cs h z =
        ap (λ ks. run (go_on t ks) z) (due-steps w s (ranges x ∷ commands ps) cs h.0.0)
        ∙ on_steps s t (due 0 (5 ∷ w x (code w (commands ps) cs))) h.0.0 z
        ∙ by (descend m t s) (on_pieces ps cs h.1)
        ∙ ap (λ es. run (es ++ pieces m show t name spans g ps) z) (sym (reach s x))
      where
        by : (o : Option ℕ) → Like (go_on t (due 0 (code w (commands ps) cs))) (pieces m show t name spans g ps)
            → run (or_missing o (λ v. go_on v (due 0 (5 ∷ w x (code w (commands ps) cs))))) z ≡ run (or_missing o (λ u. g' u x) ++ pieces m show t name spans g ps) z
        by None q = refl
        by (Some v) q = ranged x h.0.1 v (code w (commands ps) cs) z ∙ keeps (g' v x) _ _ q z

  -- ---- separators
  pub on_separator : (r : Separator) (cs : List ℕ) → FormedSeparator r → Like (inside m show t name spans t (due 0 (code_separator r cs))) (separator m show t name spans r)
  on_separator r cs h z =
      ap (λ ks. run (inside m show t name spans t ks) z) (due-power r.left r.right (code never (commands r.pieces) cs) h.left h.right)
      ∙ on_pieces never Never (λ v k js. plain m show t name spans v k) (λ u b ks. refl) (λ u i ks. refl) (λ u i l r ks. refl) (λ u k ks. refl) (λ s x. []) (λ u x. []) (λ s x. absurd x) (λ x. absurd x) r.pieces cs h.fits z

  -- ---- ranges
  on_row : (x : Repeat) (gaps : List Event) → Like gaps (separator m show t name spans x.between) → (first : Bool) (cs : List ℕ)
      → Like (row_by show (amid x.left x.middle_left x.middle_right x.right) gaps first cs) (row m show t name spans x first cs)
  on_row x gaps q first [] = λ s. refl
  on_row x gaps q first (c ∷ cs) =
      like_append (cond first [] gaps) (gap m show t name spans first x.between) _ _ (by first)
      (like_append (show c (among x first (is_last cs))) (show c (among x first (is_last cs))) _ _ (λ s. refl) (on_row x gaps q false cs))
    where
      by : (b : Bool) → Like (cond b [] gaps) (gap m show t name spans b x.between)
      by true = λ s. refl
      by false = q

  on_range : (x : Repeat) (before gaps behind : List Event) → Like before (separator m show t name spans x.before) → Like gaps (separator m show t name spans x.between) → Like behind (separator m show t name spans x.behind) → (cs : List ℕ)
      → Like (range_by show (amid x.left x.middle_left x.middle_right x.right) before gaps behind cs) (range m show t name spans x cs)
  on_range x before gaps behind p q r [] = λ s. refl
  on_range x before gaps behind p q r (c ∷ cs) = like_append before (separator m show t name spans x.before) _ _ p
      (like_append (row_by show (amid x.left x.middle_left x.middle_right x.right) gaps true (c ∷ cs)) (row m show t name spans x true (c ∷ cs)) behind (separator m show t name spans x.behind) (on_row x gaps q true (c ∷ cs)) r)

  -- the events of a range by its code, with what follows
  on_repeat_lem : (x : Repeat) → FormedRepeat x → (u : ℕ) (cs : List ℕ) → Like (outside m show t name spans u (due 0 (5 ∷ code_repeat x cs))) (range m show t name spans x (selected m u x.from x.to) ++ outside m show t name spans t (due 0 cs))
  on_repeat_lem x h u cs z =
      let c₂ = code_separator x.behind cs in
      let c₃ = code_separator x.between c₂ in
      let c₄ = code_separator x.before c₃ in
      let e₁ = past_separator x.before c₃ h.before in
      let e₂ = ap past e₁ ∙ past_separator x.between c₂ h.between in
      let e₃ = ap past e₂ ∙ past_separator x.behind cs h.behind in
      let part = part_of m show t name spans in
      let before = on_separator x.before c₃ h.before in
      let between : Like (inside m show t name spans t (past (due 0 c₄))) (separator m show t name spans x.between) = λ s. ap (λ ks. run (inside m show t name spans t ks) s) e₁ ∙ on_separator x.between c₂ h.between s in
      let behind : Like (inside m show t name spans t (past (past (due 0 c₄)))) (separator m show t name spans x.behind) = λ s. ap (λ ks. run (inside m show t name spans t ks) s) e₂ ∙ on_separator x.behind cs h.behind s in
      let rest : walk m show t name spans part 3 t (due 0 c₄) ≡ outside m show t name spans t (due 0 cs) = walk_past part 2 t (due 0 c₄) ∙ walk_past part 1 t (past (due 0 c₄)) ∙ walk_past part 0 t (past (past (due 0 c₄))) ∙ ap (outside m show t name spans t) e₃ in
      let chosen : selected m u (bits (int x.from)) (bits (int x.to)) ≡ selected m u x.from x.to = λ i. selected m u (bits-int x.from h.from.0 i) (bits-int x.to h.to.0 i) in
      ap (λ ks. run (outside m show t name spans u ks) z) (due_range x.from x.to x.left x.middle_left x.middle_right x.right c₄ h.from h.to h.left h.middle_left h.middle_right h.right)
      ∙ (λ i. run (range_by show (amid x.left x.middle_left x.middle_right x.right) (inside m show t name spans t (due 0 c₄)) (inside m show t name spans t (past (due 0 c₄))) (inside m show t name spans t (past (past (due 0 c₄)))) (chosen i) ++ rest i) z)
      ∙ like_append (range_by show (amid x.left x.middle_left x.middle_right x.right) (inside m show t name spans t (due 0 c₄)) (inside m show t name spans t (past (due 0 c₄))) (inside m show t name spans t (past (past (due 0 c₄)))) (selected m u x.from x.to))
      (range m show t name spans x (selected m u x.from x.to)) (outside m show t name spans t (due 0 cs)) (outside m show t name spans t (due 0 cs))
      (on_range x (inside m show t name spans t (due 0 c₄)) (inside m show t name spans t (past (due 0 c₄))) (inside m show t name spans t (past (past (due 0 c₄)))) before between behind (selected m u x.from x.to)) (λ s. refl) z

  -- ---- a whole template
  pub on_template : (r : Template) → FormedTemplate r → Like (outside m show t name spans t (due 0 (code_of r))) (body m show t name spans r)
  on_template r h z =
      ap (λ ks. run (outside m show t name spans t ks) z) (due-power r.left r.right (code code_repeat (commands r.pieces) []) h.left h.right)
      ∙ on_pieces code_repeat FormedRepeat (part_of m show t name spans) (λ u b ks. refl) (λ u i ks. refl) (λ u i l r ks. refl) (λ u k ks. refl) (repeated m show t name spans) (λ u x. range m show t name spans x (selected m u x.from x.to)) (λ s x. refl) on_repeat_lem r.pieces [] h.fits z
