-- A visit step by step, from what each call ensures.
use Rattle.std.proofs.Common.{◌≡◌, ℕ, suc, ◌+◌, ◌-◌, ◌<◌, ◌≤◌, Bool, true, false, cond, eqb, List, [], ◌∷◌, ◌++◌, length, get_or, take, drop, Some, None, Ok, Option, Result, sym, refl, ap, ◌∙◌, append_assoc, arith, length-drop, length-take}
use Rattle.std.proofs.lemmas.List.{at_drop_more, at_drop_all, drop_more, drop_all, get_or-take}
use Rattle.std.proofs.lemmas.Bool.{eq-eqb, ne_eqb}
use Rattle.std.specs.Option.{ok_or}
use Rattle.grammar.proofs.Chains.{refused, same_ok}
use Rattle.lines.specs.declared.error.LineError.{LineError}
use Rattle.codes.specs.Code.{code, run as coded, commands, code_repeat}
use Rattle.codes.specs.Formed.{FormedTemplate}
use Rattle.engine.specs.declared.span.Span.{Span}
use Rattle.grammar.specs.Numbers.{bits}
use Rattle.grammar.specs.Readings.{Template}
use Rattle.grammar.specs.declared.defns.ChildIndex.{ChildIndex}
use Rattle.lines.proofs.Alike.{line_unfolds}
use Rattle.lines.proofs.Below.{item_there}
use Rattle.lines.specs.Children.{selected}
use Rattle.lines.specs.Chosen.{Chosen, Choosing, Answered, answered}
use Rattle.lines.specs.Events.{Event, visit, byte, Context, context, encloses, is_last, body, enclosed, shown, line}
use Rattle.terms.specs.Source.{Source, item}
use Rattle.wire.proofs.Wires.{due-power}
use Rattle.wire.specs.Ahead.{due, is_end, is_range, past}
use Rattle.wire.specs.declared.commands.Command.{Command}
use Rattle.wire.specs.declared.commands.Command.TheVariants.{Range}
use Rattle.moves.proofs.Runs.{thence, like_append}
use Rattle.moves.proofs.Ties.{walk_over, on_template}
use Rattle.moves.proofs.Spans.{selected_part}
use Rattle.moves.specs.Ends.{first_index, end_of, bracketed}
use Rattle.moves.specs.Run.{State, Outcome, done, then, run, Like}
use Rattle.moves.specs.Walk.{onward, skips, over, amid, row_by, range_by, walk, inside, part_of, outside}

-- ---- the commands of a code
past_shorter : (ks : List Command) → length (past ks) ≤ length ks
past_shorter [] = omega arith
past_shorter (k ∷ ks) = by (is_end k) (past_shorter ks)
  where
    by : (b : Bool) → length (past ks) ≤ length ks → length (cond b ks (past ks)) ≤ suc (length ks)
    by true h = omega arith
    by false h = omega arith

-- behind a command there are fewer commands
pub over_shorter : (k : Command) (ks : List Command) {ws ks' : List Command} → ws ≡ k ∷ ks → ks' ≡ over k ks → length ks' < length ws
over_shorter k ks {ws} {ks'} e f =
    let h : length (over k ks) < suc (length ks) = by (is_range k) in
    omega (arith, h, ap length e, ap length f)
  where
    by : (b : Bool) → length (cond b (past (past (past ks))) ks) < suc (length ks)
    by true = omega (arith, past_shorter ks, past_shorter (past ks), past_shorter (past (past ks)))
    by false = omega arith

module _ (m : Source) (show : ℕ → Context → List Event) (t : ℕ) (name : List ℕ) (spans : List (Option Span)) (part : ℕ → Command → List Command → List Event) where
  pub walk_more : (u u' : ℕ) (k : Command) (ks ks' ws : List Command) (s : State) {o : Outcome} → ws ≡ k ∷ ks → is_end k ≡ false → o ≡ run (part u k ks) s → u' ≡ onward m t u k → ks' ≡ over k ks
      → then o (run (walk m show t name spans part 0 u' ks')) ≡ run (walk m show t name spans part 0 u ws) s
  walk_more u u' k ks ks' ws s e n h f g =
      thence (part u k ks) (walk m show t name spans part 0 u' ks') s h
      ∙ (λ i. run (part u k ks ++ walk m show t name spans part 0 (f i) (g i)) s)
      ∙ ap (λ es. run (part u k ks ++ es) s) (sym (walk_over m show t name spans part (onward m t u k) k ks))
      ∙ ap (λ b. run (cond b [] (part u k ks ++ walk m show t name spans part (skips k) (onward m t u k) ks)) s) (sym n)
      ∙ ap (λ l. run (walk m show t name spans part 0 u l) s) (sym e)

-- ---- a row of children
module _ (show : ℕ → Context → List Event) (powers : Bool → Bool → Context) (gap : List Event) (cs : List ℕ) (end : ℕ) (fits : end ≤ length cs) where
  row_length : length (take end cs) ≡ end
  row_length = simp length-take (omega arith)

  row_last : (j : ℕ) → j < end → is_last (drop (j + 1) (take end cs)) ≡ eqb (j + 1) end
  row_last j l = by (drop (j + 1) (take end cs)) (length-drop (j + 1) (take end cs))
    where
      by : (xs : List ℕ) → length xs ≡ length (take end cs) - (j + 1) → is_last xs ≡ eqb (j + 1) end
      by [] e = let k = row_length in sym (eq-eqb (j + 1) end (omega arith))
      by (x ∷ xs) e = let k = row_length in sym (ne_eqb (j + 1) end (λ q. omega arith))

  pub row_more : (j : ℕ) (first : Bool) (s : State) {o : Outcome} → j < end → o ≡ run (cond first [] gap ++ show (get_or cs j 0) (powers first (eqb (j + 1) end))) s
      → then o (run (row_by show powers gap false (drop (j + 1) (take end cs)))) ≡ run (row_by show powers gap first (drop j (take end cs))) s
  row_more j first s l h =
      let k = row_length in
      let in' : j < length (take end cs) = omega arith in
      let rest = row_by show powers gap false (drop (j + 1) (take end cs)) in
      thence (cond first [] gap ++ show (get_or cs j 0) (powers first (eqb (j + 1) end))) rest s h
      ∙ ap (λ es. run es s) (append_assoc (cond first [] gap) (show (get_or cs j 0) (powers first (eqb (j + 1) end))) rest)
      ∙ (λ i. run (cond first [] gap ++ (show (sym (get_or-take end cs j 0 l) i) (powers first (sym (row_last j l) i)) ++ rest)) s)
      ∙ sym (at_drop_more (λ r. run (row_by show powers gap first r) s) (take end cs) j 0 in')

  pub row_all : (j : ℕ) (first : Bool) (s : State) → end ≤ j → done s ≡ run (row_by show powers gap first (drop j (take end cs))) s
  row_all j first s l = let k = row_length in sym (at_drop_all (λ r. run (row_by show powers gap first r) s) (take end cs) j (omega arith))

  pub row_none : (j : ℕ) → end ≤ j → drop j (take end cs) ≡ []
  row_none j l = let k = row_length in drop_all j (take end cs) (omega arith)

  pub row_some : (j : ℕ) → j < end → drop j (take end cs) ≡ get_or (take end cs) j 0 ∷ drop (j + 1) (take end cs)
  row_some j l = let k = row_length in drop_more (take end cs) j 0 (omega arith)

  -- a row that is not empty has its outer separators
  pub range_some : (before behind : List Event) (j : ℕ) → j < end → before ++ (row_by show powers gap true (drop j (take end cs)) ++ behind) ≡ range_by show powers before gap behind (drop j (take end cs))
  range_some before behind j l =
      let e = row_some j l in
      ap (λ xs. before ++ (row_by show powers gap true xs ++ behind)) e ∙ sym (ap (range_by show powers before gap behind) e)

  pub range_none : (before behind : List Event) (j : ℕ) (s : State) → end ≤ j → done s ≡ run (range_by show powers before gap behind (drop j (take end cs))) s
  range_none before behind j s l = sym (ap (λ xs. run (range_by show powers before gap behind xs) s) (row_none j l))

-- what stands before a child, and the child
pub one_more : (gap rest : List Event) (b : Bool) (s s' : State) {o : Outcome} → done s' ≡ run (cond b [] gap) s → o ≡ run rest s' → o ≡ run (cond b [] gap ++ rest) s
one_more gap rest b s s' h e = e ∙ thence (cond b [] gap) rest s h

pub some_of : (o : Option ℕ) (e : LineError) {r : Result ℕ LineError} {x : ℕ} → r ≡ ok_or o e → r ≡ Ok x → o ≡ Some x
some_of None e {r} {x} h k = refused e x (sym h ∙ k)
some_of (Some y) e h k = ap (λ (n : ℕ). Some n) (same_ok y _ (sym h ∙ k))

-- the child of a row, between its powers
pub child_shown : (show : ℕ → Context → List Event) (d d' : ℕ) (line' : ℕ → ℕ → Context → List Event) (cs : List ℕ) (j c : ℕ) (x y : Context) (s : State) → Some c ≡ item cs j → x ≡ y → line' d ≡ show → d' ≡ d
    → run (line' d' c x) s ≡ run (show (get_or cs j 0) y) s
child_shown show d d' line' cs j c x y s e p h k =
    let i = item_there cs j c (sym e) in
    (λ z. run (line' (k z) (sym i.1 z) (p z)) s) ∙ ap (λ f. run (f (get_or cs j 0) y) s) h

-- ---- a RANGE
pub range_part : (m : Source) (show : ℕ → Context → List Event) (t : ℕ) (name : List ℕ) (spans : List (Option Span)) (u : ℕ) (from to : ChildIndex) (l a b r : ℕ) (k : Command) (ks k₂ k₃ : List Command) (n first end : ℕ) (s : State)
    → k ≡ Range from to l a b r → k₂ ≡ past ks → k₃ ≡ past k₂ → n ≡ length (m.children u) → first ≡ first_index n (bits from.0) → end ≡ end_of n (bits to.0)
    → run (range_by show (amid l a b r) (inside m show t name spans t ks) (inside m show t name spans t k₂) (inside m show t name spans t k₃) (drop first (take end (m.children u)))) s ≡ run (part_of m show t name spans u k ks) s
range_part m show t name spans u from to l a b r k ks k₂ k₃ n first end s i e f g h j =
    let chosen : drop first (take end (m.children u)) ≡ selected m u (bits from.0) (bits to.0) =
    (λ z. drop (h z) (take (j z) (m.children u))) ∙ (λ z. drop (first_index (g z) (bits from.0)) (take (end_of (g z) (bits to.0)) (m.children u))) ∙ sym (selected_part m u (bits from.0) (bits to.0)) in
    (λ z. run (range_by show (amid l a b r) (inside m show t name spans t ks) (inside m show t name spans t (e z)) (inside m show t name spans t ((f ∙ ap past e) z)) (chosen z)) s)
    ∙ ap (λ k. run (part_of m show t name spans u k ks) s) (sym i)

-- ---- brackets
enclosed_like : (b : Bool) (es fs : List Event) → Like es fs → Like (enclosed b es) (enclosed b fs)
enclosed_like true es fs q = like_append (byte 40 ∷ []) (byte 40 ∷ []) (es ++ byte 41 ∷ []) (fs ++ byte 41 ∷ []) (λ s. refl) (like_append es fs (byte 41 ∷ []) (byte 41 ∷ []) q (λ s. refl))
enclosed_like false es fs q = q

bracketed-code : (r : Template) (a b : ℕ) → FormedTemplate r → bracketed (due 0 (code r)) a b ≡ encloses (context a b) r
bracketed-code r a b h = ap (λ ks. bracketed ks a b) (due-power r.left r.right (coded code_repeat (commands r.pieces) []) h.left h.right)

-- ---- a visit
module _ (ch : Choosing) (m : Source) (d t a b : ℕ) where
  -- what is chosen for the name and the child count of the term
  by_choice : (nm : List ℕ) (x : Chosen) (w : Answered) (s : State) → w ≡ answered x → FormedTemplate x.reading
      → run (enclosed (bracketed (due 0 w.bytes) a b) (outside m (line ch m (suc d)) t nm w.spans t (due 0 w.bytes))) s ≡ run (enclosed (encloses (context a b) x.reading) (body m (line ch m (suc d)) t nm x.spans x.reading)) s
  by_choice nm x w s e h =
      (λ i. run (enclosed (bracketed (due 0 (e i).bytes) a b) (outside m (line ch m (suc d)) t nm (e i).spans t (due 0 (e i).bytes))) s)
      ∙ ap (λ q. run (enclosed q (outside m (line ch m (suc d)) t nm x.spans t (due 0 (code x.reading)))) s) (bracketed-code x.reading a b h)
      ∙ enclosed_like (encloses (context a b) x.reading) _ _ (on_template m (line ch m (suc d)) t nm x.spans x.reading h) s

  pub visited : (nm : List ℕ) (k : ℕ) (w : Answered) (s : State) → nm ≡ m.name t → k ≡ length (m.children t) → w ≡ answered (ch nm k) → FormedTemplate (ch nm k).reading
      → run (enclosed (bracketed (due 0 w.bytes) a b) (outside m (line ch m (suc d)) t nm w.spans t (due 0 w.bytes))) s ≡ run (shown m (line ch m (suc d)) t (context a b) (ch (m.name t) (length (m.children t)))) s
  visited nm k w s e f h q =
      by_choice nm (ch nm k) w s h q
      ∙ (λ i. run (enclosed (encloses (context a b) (ch (e i) (f i)).reading) (body m (line ch m (suc d)) t (e i) (ch (e i) (f i)).spans (ch (e i) (f i)).reading)) s)

  -- the visit is counted first
  pub entered : (s : State) {o : Outcome} → o ≡ run (visit t d ∷ []) s → then o (run (shown m (line ch m (suc d)) t (context a b) (ch (m.name t) (length (m.children t))))) ≡ run (line ch m d t (context a b)) s
  entered s h = thence (visit t d ∷ []) (shown m (line ch m (suc d)) t (context a b) (ch (m.name t) (length (m.children t)))) s h ∙ ap (λ es. run es s) (sym (line_unfolds ch m d t (context a b)))
