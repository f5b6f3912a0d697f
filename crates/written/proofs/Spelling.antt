-- What is written for the commands of a code is the template written back from its reading.
use Rattle.std.proofs.Common.{◌≡◌, ℕ, Bool, true, false, cond, not, ◌&&◌, ◌||◌, eqb, List, [], ◌∷◌, ◌++◌, sym, refl, ap, ◌∙◌, append_assoc, arith}
use Rattle.std.proofs.lemmas.Bool.{eqb-true}
use Rattle.std.proofs.lemmas.Bool.Decides.{nat_tests}
use Rattle.std.specs.List.{AllByRecursion as All}
use Rattle.codes.specs.Code.{word, run, bytes, steps, commands, point, range, code_separator, code_repeat, code, never}
use Rattle.codes.specs.Code.{Command as Order}
use Rattle.codes.specs.Formed.{Fits, Never, FormedSeparator, FormedRepeat, FormedTemplate}
use Rattle.codes.specs.Written.{twice, path, pair_back, piece_back, body_back, empty, marked, prefixed, suffixed, around, none, write_separator, bare_body, bare, powers_back, parted, separators_back, repeat_back, write}
use Rattle.grammar.proofs.Bytes.{Without, without_append}
use Rattle.grammar.proofs.Numerals.{bits-int, numeral-without}
use Rattle.grammar.specs.Marks.{begins, ends}
use Rattle.grammar.specs.Numbers.{numeral}
use Rattle.grammar.specs.Readings.{Piece, text, child, capture, repeat, Separator, Repeat, Template, Index}
use Rattle.grammar.specs.Readings.{Byte as IsByte, Power as IsPower, Capture as IsCapture}
use Rattle.wire.specs.Commands.{index_of}
use Rattle.wire.specs.declared.commands.Command.{Command}
use Rattle.wire.specs.declared.commands.Command.TheVariants.{End, Power, Byte, Step, Child, Range, Capture}
use Rattle.written.proofs.Runs.{run_runs, past_three}
use Rattle.wire.proofs.Runs.{stepped, due-steps, past_separator}
use Rattle.wire.proofs.Wires.{due_end, due_byte, due_child, due_range, due_capture, due-power}
use Rattle.wire.specs.Ahead.{due, is_range, past}
use Rattle.written.specs.Ahead.{is_step, is_text, over, of_first, bare_run}
use Rattle.written.specs.Spelled.{bars, texted, indexed, paired, bracket_of, opened, spelled, run_back, separator_of, bare_of, bar_of, three_of, separators_of, body_of, template_of}

-- ---- bars doubled
abbrev inked : Bool → List ℕ → List ℕ
inked n t = cond n (twice 124 t) t

twice_append : (m : ℕ) (a b : List ℕ) → twice m (a ++ b) ≡ twice m a ++ twice m b
twice_append m [] b = refl
twice_append m (c ∷ a) b = go (eqb c m) (twice_append m a b)
  where
    go : (t : Bool) → twice m (a ++ b) ≡ twice m a ++ twice m b → cond t (c ∷ c ∷ twice m (a ++ b)) (c ∷ twice m (a ++ b)) ≡ cond t (c ∷ c ∷ twice m a) (c ∷ twice m a) ++ twice m b
    go true h = ap (λ l. c ∷ c ∷ l) h
    go false h = ap (λ l. c ∷ l) h

inked_append : (n : Bool) (a b : List ℕ) → inked n (a ++ b) ≡ inked n a ++ inked n b
inked_append true a b = twice_append 124 a b
inked_append false a b = refl

twice-without : (m : ℕ) (t : List ℕ) → Without m t → twice m t ≡ t
twice-without m [] h = refl
twice-without m (c ∷ t) h = rw h.0 (ap (λ l. c ∷ l) (twice-without m t h.1))

inked_without : (n : Bool) (t : List ℕ) → Without 124 t → inked n t ≡ t
inked_without true t h = twice-without 124 t h
inked_without false t h = refl

bare-numeral : (n : ℕ) → IsPower n → Without 124 (numeral n)
bare-numeral n h = numeral-without 124 refl n h

inked_pair : (n : Bool) (l r : ℕ) → IsPower l → IsPower r → inked n (pair_back l r) ≡ paired n l r
inked_pair false l r h k = refl
inked_pair true l r h k = go (eqb l 0 && eqb r 0)
  where
    go : (b : Bool) → twice 124 (cond b [] (124 ∷ numeral l ++ 44 ∷ numeral r)) ≡ cond b [] (bars true ++ (numeral l ++ 44 ∷ numeral r))
    go true = refl
    go false =
        ap (λ t. 124 ∷ 124 ∷ t)
        (twice_append 124 (numeral l) (44 ∷ numeral r) ∙ (λ i. twice-without 124 (numeral l) (bare-numeral l h) i ++ 44 ∷ twice-without 124 (numeral r) (bare-numeral r k) i))

inked_text : (n : Bool) (b : ℕ) → texted n b ≡ inked n (twice 36 (b ∷ []))
inked_text false b = go (eqb b 36)
  where
    go : (t : Bool) → cond (t || false) (b ∷ b ∷ []) (b ∷ []) ≡ cond t (b ∷ b ∷ []) (b ∷ [])
    go true = refl
    go false = refl
inked_text true b = go (eqb b 36) refl (eqb b 124) refl
  where
    go : (t : Bool) → eqb b 36 ≡ t → (u : Bool) → eqb b 124 ≡ u → cond (t || u) (b ∷ b ∷ []) (b ∷ []) ≡ twice 124 (cond t (b ∷ b ∷ []) (b ∷ []))
    go true e u f = let z : eqb b 124 ≡ false = grind (arith, nat_tests, eqb-true b 36 e) in rw z
    go false e true f = rw f
    go false e false f = rw f

-- ---- paths

abbrev path_steps : List ℕ → List ℕ
path_steps [] = []
path_steps (y ∷ s) = numeral y ++ 58 ∷ path_steps s

path-steps : (s : List ℕ) (i : ℕ) (t : List ℕ) → path s i ++ t ≡ path_steps s ++ (numeral i ++ t)
path-steps [] i t = refl
path-steps (y ∷ s) i t =
    append_assoc (numeral y) (58 ∷ path s i) t ∙ ap (λ l. numeral y ++ 58 ∷ l) (path-steps s i t) ∙ sym (append_assoc (numeral y) (58 ∷ path_steps s) (numeral i ++ t))

path-without : (s : List ℕ) (i : ℕ) → All Index s → Index i → Without 124 (path s i)
path-without [] i h k = bare-numeral i k.0
path-without (y ∷ s) i h k = without_append 124 (numeral y) (58 ∷ path s i) (bare-numeral y h.0.0) (refl, path-without s i h.1 k)

bracket_steps : (s : List ℕ) (ks : List Command) → bracket_of (stepped s ks) ≡ bracket_of ks
bracket_steps [] ks = refl
bracket_steps (y ∷ s) ks = bracket_steps s ks

index_back : (i : ℕ) → Index i → indexed (index_of i) ≡ numeral i
index_back i h = ap numeral (bits-int i h.0)

-- a command of a run that has nothing behind it
abbrev plain : Command → Bool
plain k = not (over k) && not (is_range k)

inked_none : (n : Bool) → inked n [] ≡ []
inked_none true = refl
inked_none false = refl

inked_child : (n : Bool) (s : List ℕ) (i l r : ℕ) → All Index s → Index i → IsPower l → IsPower r → inked n (36 ∷ 91 ∷ 35 ∷ ((path s i ++ pair_back l r) ++ 93 ∷ 36 ∷ [])) ≡ 36 ∷ 91 ∷ 35 ∷ ((path s i ++ paired n l r) ++ 93 ∷ 36 ∷ [])
inked_child false s i l r hs hi hl hr = refl
inked_child true s i l r hs hi hl hr =
    ap (λ x. 36 ∷ 91 ∷ 35 ∷ x)
    (twice_append 124 (path s i ++ pair_back l r) (93 ∷ 36 ∷ [])
    ∙ ap (λ x. x ++ 93 ∷ 36 ∷ []) (twice_append 124 (path s i) (pair_back l r) ∙ (λ j. twice-without 124 (path s i) (path-without s i hs hi) j ++ inked_pair true l r hl hr j)))

-- W writes a run, with the bars doubled if n
module _ (n : Bool) (W : Bool → List Command → List ℕ) (goes : (w : Bool) (k : Command) (ks : List Command) → plain k ≡ true → W w (k ∷ ks) ≡ spelled n w k ks ++ W (is_step k) ks) where
  bytes_written : {R : Type 0} (f : R → List ℕ → List ℕ) (bs : List ℕ) (ks : List (Order R)) (cs : List ℕ) → All IsByte bs → W false (due 0 (run f (bytes bs ks) cs)) ≡ inked n (twice 36 bs) ++ W false (due 0 (run f ks cs))
  bytes_written f [] ks cs h = ap (λ l. l ++ W false (due 0 (run f ks cs))) (sym (inked_none n))
  bytes_written f (b ∷ bs) ks cs h =
      ap (W false) (due_byte b (run f (bytes bs ks) cs) h.0) ∙ goes false (Byte b) (due 0 (run f (bytes bs ks) cs)) refl
      ∙ (λ i. inked_text n b i ++ bytes_written f bs ks cs h.1 i)
      ∙ sym (append_assoc (inked n (twice 36 (b ∷ []))) (inked n (twice 36 bs)) (W false (due 0 (run f ks cs))))
      ∙ ap (λ l. l ++ W false (due 0 (run f ks cs))) (sym (inked_append n (twice 36 (b ∷ [])) (twice 36 bs)) ∙ ap (inked n) (sym (twice_append 36 (b ∷ []) bs)))

  steps_written : (s : List ℕ) (ks : List Command) (t : List ℕ) → All Index s → ((w : Bool) → W w ks ≡ opened w (bracket_of ks) ++ t) → (w : Bool) → W w (stepped s ks) ≡ opened w (bracket_of ks) ++ (path_steps s ++ t)
  steps_written [] ks t h e w = e w
  steps_written (y ∷ s) ks t h e w =
      goes w (Step (index_of y)) (stepped s ks) refl
      ∙ (λ i. (opened w (bracket_steps s ks i) ++ (index_back y h.0 i ++ 58 ∷ [])) ++ steps_written s ks t h.1 e true i)
      ∙ append_assoc (opened w (bracket_of ks)) (numeral y ++ 58 ∷ []) (path_steps s ++ t)
      ∙ ap (λ l. opened w (bracket_of ks) ++ l) (append_assoc (numeral y) (58 ∷ []) (path_steps s ++ t) ∙ sym (append_assoc (numeral y) (58 ∷ path_steps s) t))

  child_opens : (i l r : ℕ) (ks : List Command) → Index i → (w : Bool) → W w (Child (index_of i) l r ∷ ks) ≡ opened w 91 ++ (numeral i ++ (paired n l r ++ 93 ∷ 36 ∷ W false ks))
  child_opens i l r ks hi w =
      goes w (Child (index_of i) l r) ks refl
      ∙ append_assoc (opened w 91) (indexed (index_of i) ++ (paired n l r ++ 93 ∷ 36 ∷ [])) (W false ks)
      ∙ ap (λ x. opened w 91 ++ x) (append_assoc (indexed (index_of i)) (paired n l r ++ 93 ∷ 36 ∷ []) (W false ks) ∙ (λ j. index_back i hi j ++ append_assoc (paired n l r) (93 ∷ 36 ∷ []) (W false ks) j))

  child_written : {R : Type 0} (f : R → List ℕ → List ℕ) (s : List ℕ) (i l r : ℕ) (ks : List (Order R)) (cs : List ℕ) → All Index s → Index i → IsPower l → IsPower r
      → W false (due 0 (run f (steps s (point i l r ∷ ks)) cs)) ≡ inked n (36 ∷ 91 ∷ 35 ∷ ((path s i ++ pair_back l r) ++ 93 ∷ 36 ∷ [])) ++ W false (due 0 (run f ks cs))
  child_written f s i l r ks cs hs hi hl hr =
      let e = due 0 (run f ks cs) in
      let p = paired n l r in
      ap (W false) (due-steps f s (point i l r ∷ ks) cs hs ∙ ap (stepped s) (due_child i l r (run f ks cs) hi hl hr))
      ∙ steps_written s (Child (index_of i) l r ∷ e) (numeral i ++ (p ++ 93 ∷ 36 ∷ W false e)) hs (child_opens i l r e hi) false
      ∙ ap (λ x. 36 ∷ 91 ∷ 35 ∷ x) (sym (path-steps s i (p ++ 93 ∷ 36 ∷ W false e)) ∙ sym (append_assoc (path s i ++ p) (93 ∷ 36 ∷ []) (W false e) ∙ append_assoc (path s i) p (93 ∷ 36 ∷ W false e)))
      ∙ ap (λ x. x ++ W false e) (sym (inked_child n s i l r hs hi hl hr))

  capture_written : (k : ℕ) (cs : List ℕ) → IsCapture k → W false (due 0 (6 ∷ word k cs)) ≡ inked n (36 ∷ 123 ∷ (numeral k ++ 125 ∷ 36 ∷ [])) ++ W false (due 0 cs)
  capture_written k cs h =
      ap (W false) (due_capture k cs h) ∙ goes false (Capture k) (due 0 cs) refl
      ∙ ap (λ x. x ++ W false (due 0 cs)) (sym (inked_without n (36 ∷ 123 ∷ (numeral k ++ 125 ∷ 36 ∷ [])) (refl, (refl, without_append 124 (numeral k) (125 ∷ 36 ∷ []) (bare-numeral k (omega arith)) (refl, (refl, tt))))))

  body_written : {R : Type 0} (f : R → List ℕ → List ℕ) (g : List ℕ → R → List ℕ) (F : R → Type 0)
      → ((s : List ℕ) (x : R) (ks : List (Order R)) (cs : List ℕ) → All Index s → F x → W false (due 0 (run f (steps s (range x ∷ ks)) cs)) ≡ inked n (piece_back g (repeat s x)) ++ W false (due 0 (run f ks cs)))
      → ((ks : List Command) → W false (End ∷ ks) ≡ []) → (ps : List (Piece R)) (cs : List ℕ) → All (Fits F) ps → W false (due 0 (run f (commands ps) cs)) ≡ inked n (body_back g ps)
  body_written f g F again ended [] cs h = ap (W false) (due_end cs) ∙ ended (due 0 cs) ∙ sym (inked_none n)
  body_written f g F again ended (text b bs ∷ ps) cs h =
      bytes_written f (b ∷ bs) (commands ps) cs h.0 ∙ ap (λ l. inked n (twice 36 (b ∷ bs)) ++ l) (body_written f g F again ended ps cs h.1) ∙ sym (inked_append n (twice 36 (b ∷ bs)) (body_back g ps))
  body_written f g F again ended (child s i l r ∷ ps) cs h =
      child_written f s i l r (commands ps) cs h.0.0 h.0.1 h.0.2 h.0.3
      ∙ ap (λ t. inked n (piece_back g (child s i l r)) ++ t) (body_written f g F again ended ps cs h.1) ∙ sym (inked_append n (piece_back g (child s i l r)) (body_back g ps))
  body_written f g F again ended (capture k ∷ ps) cs h =
      capture_written k (run f (commands ps) cs) h.0
      ∙ ap (λ t. inked n (piece_back g (capture k)) ++ t) (body_written f g F again ended ps cs h.1) ∙ sym (inked_append n (piece_back g (capture k)) (body_back g ps))
  body_written f g F again ended (repeat s x ∷ ps) cs h =
      again s x (commands ps) cs h.0.0 h.0.1
      ∙ ap (λ t. inked n (piece_back g (repeat s x)) ++ t) (body_written f g F again ended ps cs h.1) ∙ sym (inked_append n (piece_back g (repeat s x)) (body_back g ps))

-- ---- separators
unlike : {A : Type 0} → false ≡ true → A
unlike e = let z : ◌≡◌ {A = ℕ} 0 1 = cc in absurd (omega arith)

run-goes : (w : Bool) (k : Command) (ks : List Command) → plain k ≡ true → run_back w (k ∷ ks) ≡ spelled true w k ks ++ run_back (is_step k) ks
run-goes w End ks h = unlike h
run-goes w (Power l r) ks h = unlike h
run-goes w (Byte b) ks h = refl
run-goes w (Step i) ks h = refl
run-goes w (Child i l r) ks h = refl
run-goes w (Range f t l a b r) ks h = refl
run-goes w (Capture n) ks h = refl

separator_body : (ps : List (Piece ⊥)) (cs : List ℕ) → All (Fits Never) ps → run_back false (due 0 (run never (commands ps) cs)) ≡ twice 124 (body_back none ps)
separator_body = body_written true run_back run-goes never none Never (λ s x ks cs h k. absurd x) (λ ks. refl)

begins-twice : (t : List ℕ) → begins 36 (twice 124 t) ≡ begins 36 t
begins-twice [] = refl
begins-twice (c ∷ t) = go (eqb c 124)
  where
    go : (b : Bool) → begins 36 (cond b (c ∷ c ∷ twice 124 t) (c ∷ twice 124 t)) ≡ eqb c 36
    go true = refl
    go false = refl

empty-twice : (t : List ℕ) → empty (twice 124 t) ≡ empty t
empty-twice [] = refl
empty-twice (c ∷ t) = go (eqb c 124)
  where
    go : (b : Bool) → empty (cond b (c ∷ c ∷ twice 124 t) (c ∷ twice 124 t)) ≡ false
    go true = refl
    go false = refl

-- the last byte of a list that has one
ends_more : (c : ℕ) (t u : List ℕ) → empty t ≡ empty u → ends 36 t ≡ ends 36 u → ends 36 (c ∷ t) ≡ ends 36 (c ∷ u)
ends_more c [] [] e h = refl
ends_more c [] (d ∷ u) e h = unlike (sym e)
ends_more c (d ∷ t) [] e h = unlike e
ends_more c (d ∷ t) (d' ∷ u) e h = h

ends-twice : (t : List ℕ) → ends 36 (twice 124 t) ≡ ends 36 t
ends-twice [] = refl
ends-twice (c ∷ t) = go (eqb c 124) (ends_more c (twice 124 t) t (empty-twice t) (ends-twice t))
  where
    go : (b : Bool) → ends 36 (c ∷ twice 124 t) ≡ ends 36 (c ∷ t) → ends 36 (cond b (c ∷ c ∷ twice 124 t) (c ∷ twice 124 t)) ≡ ends 36 (c ∷ t)
    go true h = h
    go false h = h

marked-twice : (b : Bool) (n : ℕ) → IsPower n → twice 124 (marked b n) ≡ marked b n
marked-twice true n h = twice-without 124 (36 ∷ (numeral n ++ 36 ∷ [])) (refl, without_append 124 (numeral n) (36 ∷ []) (bare-numeral n h) (refl, tt))
marked-twice false n h = refl

around-twice : (l r : ℕ) (w : List ℕ) → IsPower l → IsPower r → around l r (twice 124 w) ≡ twice 124 (around l r w)
around-twice l r w hl hr =
    (λ i. marked (not (eqb l 0) || (begins-twice w i || (empty-twice w i && not (eqb r 0)))) l ++ (twice 124 w ++ marked (not (eqb r 0) || ends-twice w i) r))
    ∙ sym (twice_append 124 (marked (prefixed l r w) l) (w ++ marked (suffixed r w) r)
    ∙ (λ i. marked-twice (prefixed l r w) l hl i ++ (twice_append 124 w (marked (suffixed r w) r) ∙ ap (λ x. twice 124 w ++ x) (marked-twice (suffixed r w) r hr)) i))

-- whether it is bare, and how it begins
bare-steps : (s : List ℕ) (k : Command) (ks : List Command) → over k ≡ false → bare_run (stepped s (k ∷ ks)) ≡ false
bare-steps [] k ks h = h
bare-steps (y ∷ s) k ks h = refl

bare-run : (ps : List (Piece ⊥)) (cs : List ℕ) → All (Fits Never) ps → bare_run (due 0 (run never (commands ps) cs)) ≡ bare_body ps
bare-run [] cs h = ap bare_run (due_end cs)
bare-run (text b bs ∷ ps) cs h = ap bare_run (due_byte b (run never (bytes bs (commands ps)) cs) h.0.0)
bare-run (child s i l r ∷ ps) cs h =
    ap bare_run (due-steps never s (point i l r ∷ commands ps) cs h.0.0 ∙ ap (stepped s) (due_child i l r (run never (commands ps) cs) h.0.1 h.0.2 h.0.3))
    ∙ bare-steps s (Child (index_of i) l r) (due 0 (run never (commands ps) cs)) refl
bare-run (capture n ∷ ps) cs h = ap bare_run (due_capture n (run never (commands ps) cs) h.0)
bare-run (repeat s x ∷ ps) cs h = absurd x

text_bar : (b : ℕ) (t : List ℕ) → eqb b 124 ≡ begins 124 (texted true b ++ t)
text_bar b t = go (eqb b 36 || (true && eqb b 124))
  where
    go : (d : Bool) → eqb b 124 ≡ begins 124 (cond d (b ∷ b ∷ []) (b ∷ []) ++ t)
    go true = refl
    go false = refl

bar_run : (ks : List Command) → of_first (is_text 124) ks ≡ begins 124 (run_back false ks)
bar_run [] = refl
bar_run (End ∷ ks) = refl
bar_run (Power l r ∷ ks) = refl
bar_run (Byte b ∷ ks) = text_bar b (run_back false ks)
bar_run (Step i ∷ ks) = refl
bar_run (Child i l r ∷ ks) = refl
bar_run (Range f t l a b r ∷ ks) = refl
bar_run (Capture n ∷ ks) = refl

around-empty : (l r : ℕ) (w : List ℕ) → (eqb l 0 && (eqb r 0 && empty w)) ≡ empty (around l r w)
around-empty l r [] = go (eqb l 0) (eqb r 0)
  where
    go : (a b : Bool) → (a && (b && true)) ≡ empty (marked (not a || (false || (true && not b))) l ++ ([] ++ marked (not b || false) r))
    go true true = refl
    go true false = refl
    go false true = refl
    go false false = refl
around-empty l r (c ∷ w) = go (eqb l 0) (eqb r 0) (prefixed l r (c ∷ w))
  where
    go : (a b p : Bool) → (a && (b && false)) ≡ empty (marked p l ++ ((c ∷ w) ++ marked (suffixed r (c ∷ w)) r))
    go true true true = refl
    go true true false = refl
    go true false true = refl
    go true false false = refl
    go false b true = refl
    go false b false = refl

around_bar : (l r : ℕ) (w : List ℕ) → (eqb l 0 && begins 124 w) ≡ begins 124 (around l r w)
around_bar l r [] = go (eqb l 0) (eqb r 0)
  where
    go : (a b : Bool) → (a && false) ≡ begins 124 (marked (not a || (false || (true && not b))) l ++ ([] ++ marked (not b || false) r))
    go true true = refl
    go true false = refl
    go false true = refl
    go false false = refl
around_bar l r (c ∷ w) = go (eqb l 0) (eqb c 36) refl
  where
    go : (a m : Bool) → eqb c 36 ≡ m → (a && eqb c 124) ≡ begins 124 (marked (not a || (m || (false && not (eqb r 0)))) l ++ ((c ∷ w) ++ marked (suffixed r (c ∷ w)) r))
    go true true e = let z : eqb c 124 ≡ false = grind (arith, nat_tests, eqb-true c 36 e) in z
    go true false e = refl
    go false m e = refl

-- the commands ks are those of the separator x
record Sep (ks : List Command) (x : Separator) : Type 0 where
  written : separator_of ks ≡ write_separator x
  plainly : bare_of ks ≡ bare x
  nothing : bare_of ks ≡ empty (write_separator x)
  barred : bar_of ks ≡ begins 124 (write_separator x)

separator_sep : (x : Separator) (cs : List ℕ) → FormedSeparator x → Sep (due 0 (code_separator x cs)) x
separator_sep x cs h =
    let l = x.left in
    let r = x.right in
    let ks = due 0 (run never (commands x.pieces) cs) in
    let e = due-power l r (run never (commands x.pieces) cs) h.left h.right in
    let back : around l r (run_back false ks) ≡ write_separator x = ap (around l r) (separator_body x.pieces cs h.fits) ∙ around-twice l r (body_back none x.pieces) h.left h.right in
    record {
      written = ap separator_of e ∙ back;
      plainly = ap bare_of e ∙ ap (λ b. eqb l 0 && (eqb r 0 && b)) (bare-run x.pieces cs h.fits);
      nothing = ap bare_of e ∙ ap (λ b. eqb l 0 && (eqb r 0 && b)) (run_runs ks).none ∙ around-empty l r (run_back false ks) ∙ ap empty back;
      barred = ap bar_of e ∙ ap (λ b. eqb l 0 && b) (bar_run ks) ∙ around_bar l r (run_back false ks) ∙ ap (begins 124) back;
    }

-- ---- repeats
three_back : (xs ys zs : List Command) (x : Repeat) → Sep xs x.before → Sep ys x.between → Sep zs x.behind → three_of xs ys zs ≡ separators_back x
three_back xs ys zs x p q r =
    λ i.
    cond (p.plainly i && r.plainly i) (cond (q.plainly i) [] (36 ∷ q.written i))
    (36 ∷ (p.written i ++ (124 ∷ (parted (q.nothing i || q.barred i) (q.written i) ++ (124 ∷ parted (r.barred i) (r.written i))))))

-- what a repeat has behind its steps
abbrev inside : Repeat → List ℕ → List ℕ
inside x t = numeral x.from ++ (46 ∷ 46 ∷ (numeral x.to ++ (powers_back x ++ (separators_back x ++ 41 ∷ 36 ∷ t))))

repeat_opens : (x : Repeat) (cs : List ℕ) (ks : List Command) → FormedRepeat x → separators_of ks ≡ separators_back x → body_of 3 false ks ≡ body_of 0 false (due 0 cs) → (w : Bool)
    → body_of 0 w (Range (index_of x.from) (index_of x.to) x.left x.middle_left x.middle_right x.right ∷ ks) ≡ opened w 40 ++ inside x (body_of 0 false (due 0 cs))
repeat_opens x cs ks h e f w =
    let p = powers_back x in
    (λ i. (opened w 40 ++ (index_back x.from h.from i ++ (46 ∷ 46 ∷ (index_back x.to h.to i ++ p)))) ++ (e i ++ 41 ∷ 36 ∷ f i))
    ∙ append_assoc (opened w 40) (numeral x.from ++ (46 ∷ 46 ∷ (numeral x.to ++ p))) (separators_back x ++ 41 ∷ 36 ∷ body_of 0 false (due 0 cs))
    ∙ ap (λ t. opened w 40 ++ t)
    (append_assoc (numeral x.from) (46 ∷ 46 ∷ (numeral x.to ++ p)) (separators_back x ++ 41 ∷ 36 ∷ body_of 0 false (due 0 cs))
    ∙ ap (λ t. numeral x.from ++ (46 ∷ 46 ∷ t)) (append_assoc (numeral x.to) p (separators_back x ++ 41 ∷ 36 ∷ body_of 0 false (due 0 cs))))

body_goes : (w : Bool) (k : Command) (ks : List Command) → plain k ≡ true → body_of 0 w (k ∷ ks) ≡ spelled false w k ks ++ body_of 0 (is_step k) ks
body_goes w End ks h = unlike h
body_goes w (Power l r) ks h = unlike h
body_goes w (Byte b) ks h = refl
body_goes w (Step i) ks h = refl
body_goes w (Child i l r) ks h = refl
body_goes w (Range f t l a b r) ks h = unlike h
body_goes w (Capture n) ks h = refl

repeat_back_lem : (s : List ℕ) (x : Repeat) (t : List ℕ) → path_steps s ++ inside x t ≡ (repeat_back s x ++ 41 ∷ 36 ∷ []) ++ t
repeat_back_lem s x t =
    let q = separators_back x in
    let p = powers_back x in
    let m = numeral x.to in
    sym (path-steps s x.from (46 ∷ 46 ∷ (m ++ (p ++ (q ++ 41 ∷ 36 ∷ t)))))
    ∙ sym (append_assoc (repeat_back s x) (41 ∷ 36 ∷ []) t
    ∙ append_assoc (path s x.from) (46 ∷ 46 ∷ (m ++ (p ++ q))) (41 ∷ 36 ∷ t)
    ∙ ap (λ l. path s x.from ++ (46 ∷ 46 ∷ l)) (append_assoc m (p ++ q) (41 ∷ 36 ∷ t) ∙ ap (λ l. m ++ l) (append_assoc p q (41 ∷ 36 ∷ t))))

repeat_written : (s : List ℕ) (x : Repeat) (ks : List (Order Repeat)) (cs : List ℕ) → All Index s → FormedRepeat x
    → body_of 0 false (due 0 (run code_repeat (steps s (range x ∷ ks)) cs)) ≡ (36 ∷ 40 ∷ 35 ∷ (repeat_back s x ++ 41 ∷ 36 ∷ [])) ++ body_of 0 false (due 0 (run code_repeat ks cs))
repeat_written s x ks cs hs h =
    let c₁ = run code_repeat ks cs in
    let c₂ = code_separator x.behind c₁ in
    let c₃ = code_separator x.between c₂ in
    let c₄ = code_separator x.before c₃ in
    let e₁ = past_separator x.before c₃ h.before in
    let e₂ = ap past e₁ ∙ past_separator x.between c₂ h.between in
    let e₃ = ap past e₂ ∙ past_separator x.behind c₁ h.behind in
    let three : separators_of (due 0 c₄) ≡ separators_back x =
    (λ i. three_of (due 0 c₄) (e₁ i) (e₂ i)) ∙ three_back (due 0 c₄) (due 0 c₃) (due 0 c₂) x (separator_sep x.before c₃ h.before) (separator_sep x.between c₂ h.between) (separator_sep x.behind c₁ h.behind) in
    let on : body_of 3 false (due 0 c₄) ≡ body_of 0 false (due 0 c₁) = past_three (due 0 c₄) ∙ ap (body_of 0 false) e₃ in
    let d = Range (index_of x.from) (index_of x.to) x.left x.middle_left x.middle_right x.right ∷ due 0 c₄ in
    let first : due 0 (5 ∷ code_repeat x c₁) ≡ d = due_range x.from x.to x.left x.middle_left x.middle_right x.right c₄ h.from h.to h.left h.middle_left h.middle_right h.right in
    ap (body_of 0 false) (due-steps code_repeat s (range x ∷ ks) cs hs ∙ ap (stepped s) first)
    ∙ steps_written false (body_of 0) body_goes s d (inside x (body_of 0 false (due 0 c₁))) hs (repeat_opens x c₁ (due 0 c₄) h three on) false
    ∙ ap (λ l. 36 ∷ 40 ∷ 35 ∷ l) (repeat_back_lem s x (body_of 0 false (due 0 c₁)))

-- what is written for the commands of a reading's code is that reading written back
pub template_written : (r : Template) → FormedTemplate r → template_of (due 0 (code r)) ≡ write r
template_written r h =
    ap template_of (due-power r.left r.right (run code_repeat (commands r.pieces) []) h.left h.right)
    ∙ ap (around r.left r.right) (body_written false (body_of 0) body_goes code_repeat repeat_back FormedRepeat repeat_written (λ ks. refl) r.pieces [] h.fits)
