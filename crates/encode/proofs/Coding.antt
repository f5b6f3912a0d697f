-- The code of what was typed is the code of its reading.
use Rattle.std.proofs.Common.{◌≡◌, ℕ, ◌+◌, List, [], ◌∷◌, ◌++◌, Ok, sym, refl, ap, ◌∙◌, ap₂, append_assoc}
use Rattle.std.specs.List.{AllByRecursion as All}
use Rattle.refusal.specs.Refusals.{carried}
use Rattle.refusal.specs.declared.error.Side.{Side}
use Rattle.refusal.specs.declared.error.Side.TheVariants.{Left, Middle, Right}
use Rattle.grammar.specs.Deep.{texted, plains, plainly, separator_at, deeply, repeat_from, deep_from}
use Rattle.grammar.specs.Marks.{halve}
use Rattle.grammar.specs.Numbers.{bits}
use Rattle.grammar.specs.Paths.{steps_of}
use Rattle.grammar.specs.Readings.{Piece, Separator, Repeat}
use Rattle.grammar.specs.Shapes.{TypedRepeat, Shape, typed_text, typed_child, typed_repeat, typed_capture}
use Rattle.grammar.specs.Templates.{Typed, template_at}
use Rattle.grammar.specs.declared.defns.BindPowerPair.{BindPowerPair}
use Rattle.grammar.proofs.Chains.{by_on_ok, by_on_err, same_ok}
use Rattle.codes.specs.Code.{word, Command, point, range, run, bytes, steps, commands, never, code_separator, code_repeat}
use Rattle.codes.proofs.Templates.{separator_onto}
use Rattle.encode.specs.Shapes.{letters, paces, point_code, child_code, plain_code, separator_read, separator_code, separators_code, numbers_code, repeat_code, shape_code, codes_by, framed}
use Rattle.encode.specs.Walks.{Readable, Whole, Pathed}
use Rattle.encode.proofs.Routes.{Brief}

-- ---- runs of commands
module _ {R : Type 0} (f : R → List ℕ → List ℕ) (ks : List (Command R)) (cs : List ℕ) where
  letters-run : (bs : List ℕ) → run f (bytes bs ks) cs ≡ letters bs ++ run f ks cs
  letters-run [] = refl
  letters-run (b ∷ bs) = ap (λ l. 2 ∷ b ∷ l) (letters-run bs)

  paces-run : (is : List ℕ) → run f (steps is ks) cs ≡ paces is ++ run f ks cs
  paces-run [] = refl
  paces-run (i ∷ is) = ap (λ l. 3 ∷ word i l) (paces-run is)

text_commands : {R : Type 0} (t : List ℕ) (ps : List (Piece R)) → commands (texted t ps) ≡ bytes t (commands ps)
text_commands [] ps = refl
text_commands (b ∷ bs) ps = refl

module _ {R : Type 0} (f : R → List ℕ → List ℕ) (ps : List (Piece R)) (cs rest : List ℕ) (e : run f (commands ps) cs ≡ rest) where
  text_first : (t : List ℕ) → run f (commands (texted t ps)) cs ≡ letters t ++ rest
  text_first t = ap (λ ks. run f ks cs) (text_commands t ps) ∙ letters-run f (commands ps) cs t ∙ ap (λ l. letters t ++ l) e

  steps_first : (is : List ℕ) (k : Command R) (u : List ℕ) → run f (k ∷ commands ps) cs ≡ u ++ run f (commands ps) cs → run f (steps is (k ∷ commands ps)) cs ≡ (paces is ++ u) ++ rest
  steps_first is k u h = paces-run f (k ∷ commands ps) cs is ∙ ap (λ l. paces is ++ l) (h ∙ ap (λ l. u ++ l) e) ∙ sym (append_assoc (paces is) u rest)

-- ---- the pieces of a separator
plain-run : (ss : List Shape) (cs : List ℕ) → run never (commands (plains ss)) cs ≡ codes_by plain_code ss ++ (0 ∷ cs)
plain-run [] cs = refl
plain-run (typed_text t ∷ ss) cs =
    text_first never (plains ss) cs _ (plain-run ss cs) (halve 36 t) ∙ sym (append_assoc (letters (halve 36 t)) (codes_by plain_code ss) (0 ∷ cs))
plain-run (typed_child p i b ∷ ss) cs =
    steps_first never (plains ss) cs _ (plain-run ss cs) (steps_of p) (point (bits i.0) b.left b.right) (point_code i b) refl ∙ sym (append_assoc (child_code p i b) (codes_by plain_code ss) (0 ∷ cs))
plain-run (typed_repeat x ∷ ss) cs = plain-run ss cs
plain-run (typed_capture n ∷ ss) cs = ap (λ l. 6 ∷ word n l) (plain-run ss cs)

pub separator_is : (typed : List ℕ) (t : Typed) (b : BindPowerPair) → template_at (halve 124 typed) ≡ Ok t → t.left ≡ b.left → t.right ≡ b.right → separator_code typed ≡ framed b (codes_by plain_code t.shapes)
unfolding separator_code
separator_is typed t b e l r =
    ap (λ o. code_separator (separator_read o) []) e ∙ ap (λ k. 1 ∷ word t.left (word t.right k)) (plain-run t.shapes []) ∙ ap₂ (λ x y. 1 ∷ word x (word y (codes_by plain_code t.shapes ++ (0 ∷ [])))) l r

-- ---- a separator of a reading
record Side-is (typed : List ℕ) (a : Separator) : Type 0 where
  readable : Readable typed
  code : code_separator a [] ≡ separator_code typed

side_is : (n : ℕ) (side : Side) (typed : List ℕ) (a : Separator) → separator_at n side typed ≡ Ok a → Side-is typed a
unfolding separator_code
side_is n side typed a e =
    let t = by_on_ok (template_at (halve 124 typed)) (λ t. Ok (plainly t)) a (by_on_err (λ e. carried (record { piece = n; side = side; fault = e })) _ a e) in
    record {
      readable = record { read = t.0; is = t.1 };
      code = ap (λ s. code_separator s []) (sym (same_ok (plainly t.0) a t.2)) ∙ sym (ap (λ o. code_separator (separator_read o) []) t.1);
    }

sides_run : (a b c : Separator) (x y z cs : List ℕ) → Side-is x a → Side-is y b → Side-is z c → code_separator a (code_separator b (code_separator c cs)) ≡ separators_code x y z ++ cs
sides_run a b c x y z cs p q r =
    sym (separator_onto a [] (code_separator b (code_separator c cs)))
    ∙ ap₂ (λ u v. u ++ v) p.code (sym (separator_onto b [] (code_separator c cs)) ∙ ap₂ (λ u v. u ++ v) q.code (sym (separator_onto c [] cs) ∙ ap (λ u. u ++ cs) r.code))
    ∙ ap (λ l. separator_code x ++ l) (sym (append_assoc (separator_code y) (separator_code z) cs))
    ∙ sym (append_assoc (separator_code x) (separator_code y ++ separator_code z) cs)

-- ---- a repeat
-- the separators of a piece are templates
abbrev Read : Shape → Type 0
Read (typed_text t) = Unit {0}
Read (typed_child p i b) = Unit {0}
Read (typed_repeat x) = Readable x.left_sep × Readable x.middle_sep × Readable x.right_sep
Read (typed_capture n) = Unit {0}

record Repeat-is (x : TypedRepeat) (r : Repeat) : Type 0 where
  readable : Read (typed_repeat x)
  code : (cs : List ℕ) → 5 ∷ code_repeat r cs ≡ (numbers_code x.from x.to x.left x.middle x.right ++ separators_code x.left_sep x.middle_sep x.right_sep) ++ cs

repeat_is : (n : ℕ) (x : TypedRepeat) (r : Repeat) → repeat_from n x ≡ Ok r → Repeat-is x r
repeat_is n x r e =
    let a = by_on_ok (separator_at n Left x.left_sep) _ r e in
    let b = by_on_ok (separator_at n Middle x.middle_sep) _ r a.2 in
    let c = by_on_ok (separator_at n Right x.right_sep) _ r b.2 in
    let p = side_is n Left x.left_sep a.0 a.1 in
    let q = side_is n Middle x.middle_sep b.0 b.1 in
    let s = side_is n Right x.right_sep c.0 c.1 in
    record {
      readable = (p.readable, q.readable, s.readable);
      code = λ cs. ap (λ k. 5 ∷ code_repeat k cs) (sym (same_ok (deeply x a.0 b.0 c.0) r c.2))
          ∙ ap (λ l. 5 ∷ word (bits x.from.0) (word (bits x.to.0) (word x.left (word x.middle.left (word x.middle.right (word x.right l)))))) (sides_run a.0 b.0 c.0 x.left_sep x.middle_sep x.right_sep cs p q s);
    }

-- ---- the pieces of a template
pub deep_run : (n : ℕ) (ss : List Shape) (ps : List (Piece Repeat)) (cs : List ℕ) → deep_from n ss ≡ Ok ps → run code_repeat (commands ps) cs ≡ codes_by shape_code ss ++ (0 ∷ cs)
deep_run n [] ps cs e = ap (λ l. run code_repeat (commands l) cs) (sym (same_ok [] ps e))
deep_run n (typed_text t ∷ ss) ps cs e =
    let p = by_on_ok (deep_from (n + 1) ss) _ ps e in
    ap (λ l. run code_repeat (commands l) cs) (sym (same_ok _ ps p.2))
    ∙ text_first code_repeat p.0 cs _ (deep_run (n + 1) ss p.0 cs p.1) (halve 36 t) ∙ sym (append_assoc (letters (halve 36 t)) (codes_by shape_code ss) (0 ∷ cs))
deep_run n (typed_child a i b ∷ ss) ps cs e =
    let p = by_on_ok (deep_from (n + 1) ss) _ ps e in
    ap (λ l. run code_repeat (commands l) cs) (sym (same_ok _ ps p.2))
    ∙ steps_first code_repeat p.0 cs _ (deep_run (n + 1) ss p.0 cs p.1) (steps_of a) (point (bits i.0) b.left b.right) (point_code i b) refl ∙ sym (append_assoc (child_code a i b) (codes_by shape_code ss) (0 ∷ cs))
deep_run n (typed_repeat x ∷ ss) ps cs e =
    let y = by_on_ok (repeat_from n x) _ ps e in
    let p = by_on_ok (deep_from (n + 1) ss) _ ps y.2 in
    let r = repeat_is n x y.0 y.1 in
    ap (λ l. run code_repeat (commands l) cs) (sym (same_ok _ ps p.2))
    ∙ steps_first code_repeat p.0 cs _ (deep_run (n + 1) ss p.0 cs p.1) (steps_of x.path) (range y.0) (numbers_code x.from x.to x.left x.middle x.right ++ separators_code x.left_sep x.middle_sep x.right_sep) (r.code (run code_repeat (commands p.0) cs))
    ∙ sym (append_assoc (repeat_code x) (codes_by shape_code ss) (0 ∷ cs))
deep_run n (typed_capture k ∷ ss) ps cs e =
    let p = by_on_ok (deep_from (n + 1) ss) _ ps e in
    ap (λ l. run code_repeat (commands l) cs) (sym (same_ok _ ps p.2)) ∙ ap (λ l. 6 ∷ word k l) (deep_run (n + 1) ss p.0 cs p.1)

-- ---- the separators of all pieces can be read
record Next (n : ℕ) (s : Shape) (ss : List Shape) : Type 0 where
  readable : Read s
  pieces : List (Piece Repeat)
  deep : deep_from (n + 1) ss ≡ Ok pieces

next : (n : ℕ) (s : Shape) (ss : List Shape) (ps : List (Piece Repeat)) → deep_from n (s ∷ ss) ≡ Ok ps → Next n s ss
next n (typed_text t) ss ps e = let p = by_on_ok (deep_from (n + 1) ss) _ ps e in record { readable = tt; pieces = p.0; deep = p.1 }
next n (typed_child a i b) ss ps e = let p = by_on_ok (deep_from (n + 1) ss) _ ps e in record { readable = tt; pieces = p.0; deep = p.1 }
next n (typed_repeat x) ss ps e =
    let y = by_on_ok (repeat_from n x) _ ps e in
    let p = by_on_ok (deep_from (n + 1) ss) _ ps y.2 in
    record { readable = (repeat_is n x y.0 y.1).readable; pieces = p.0; deep = p.1 }
next n (typed_capture k) ss ps e = let p = by_on_ok (deep_from (n + 1) ss) _ ps e in record { readable = tt; pieces = p.0; deep = p.1 }

whole : (s : Shape) → Pathed s → Brief s → Read s → Whole s
whole (typed_text t) p b r = (tt, tt)
whole (typed_child a i k) p b r = (p, tt)
whole (typed_repeat x) p b r = (p, ((b.0, r.0), (b.1, r.1), (b.2, r.2)))
whole (typed_capture n) p b r = (tt, tt)

pub all_whole : (ss : List Shape) → All Pathed ss → All Brief ss → (n : ℕ) (ps : List (Piece Repeat)) → deep_from n ss ≡ Ok ps → All Whole ss
all_whole [] p b n ps d = tt
all_whole (s ∷ ss) p b n ps d = let f = next n s ss ps d in (whole s p.0 b.0 f.readable, all_whole ss p.1 b.1 (n + 1) f.pieces f.deep)
