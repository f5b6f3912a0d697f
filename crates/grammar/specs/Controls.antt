-- What a control of a template is: a child, a repeat or a capture.
use Rattle.std.specs.Prelude.{ℕ, suc, ◌+◌, ◌-◌, cond, List, [], ◌∷◌, length, take, drop, ℤ, pos, negsuc, Ok, Result, ◌==◌}
use Rattle.refusal.specs.declared.error.ClosingMark.{ClosingMark}
use Rattle.refusal.specs.declared.error.ClosingMark.TheVariants.{Square, Round, Curly}
use Rattle.refusal.specs.declared.error.FormatterError.TheVariants.{MissingRange, MissingControl, TooManyControl, IncorrectControl, CaptureOverflow}
use Rattle.refusal.specs.declared.error.PartingMark.TheVariants.{Bar}
use Rattle.grammar.specs.declared.defns.BindPowerPair.{BindPowerPair}
use Rattle.grammar.specs.declared.defns.ChildIndex.{ChildIndex}
use Rattle.grammar.specs.Marks.{up_to, first_mark, unpaired}
use Rattle.grammar.specs.Numbers.{number_at}
use Rattle.grammar.specs.Paths.{index_at, path_at}
use Rattle.grammar.specs.Powers.{symmetric, pair_at, powers_at, Triple}
use Rattle.grammar.specs.Results.{on_ok, on_some, refusal, Fault}
use Rattle.grammar.specs.Shapes.{Shape, typed_child, typed_repeat, typed_capture}

-- the pair behind a child's path, of which the first bar is at `bar`: the typed forms of a child's powers
abbrev pub child_powers : ℕ → List ℕ → ℕ → Result BindPowerPair Fault
child_powers place cs bar = cond (bar == length cs) (Ok (symmetric 0)) (on_ok (pair_at (place + (bar + 1)) (drop (bar + 1) cs)) (λ p. Ok p.1))

-- what stands between `$[` and `]$`
abbrev pub child_at : ℕ → List ℕ → Result Shape Fault
child_at place cs =
    on_ok (path_at place (take (up_to 124 cs) cs)) (λ p. on_ok (child_powers place cs (up_to 124 cs)) (λ b. Ok (typed_child (take (up_to 124 cs) cs) p.2 b)))

-- what stands between `${` and `}$`
abbrev pub captured : ℕ → List ℕ → ℤ → Result Shape Fault
captured place cs (pos n) = Ok (typed_capture n)
captured place cs (negsuc n) = refusal CaptureOverflow place (length cs)

abbrev pub capture_at : ℕ → List ℕ → Result Shape Fault
capture_at place cs = on_ok (number_at place cs) (captured place cs)

-- path, first index and last index of a range
abbrev pub Range : Type 0
Range = List ℕ × ChildIndex × ChildIndex

abbrev pub range_at : ℕ → List ℕ → Result Range Fault
range_at place cs =
    on_some (first_mark 46 46 0 cs) (refusal MissingRange place (length cs)) (λ at.
    on_ok (path_at place (take at cs)) (λ p. on_ok (index_at (place + (at + 2)) (drop (at + 2) cs)) (λ to. Ok (take at cs, p.2, to))))

-- left, middle and right separator as typed
abbrev pub Parts : Type 0
Parts = List ℕ × List ℕ × List ℕ

-- behind the second bar, with the separators so far
abbrev pub third_part : List ℕ → List ℕ → ℕ → List ℕ → Result Parts Fault
third_part l m place cs = cond (unpaired 124 cs == length cs) (Ok (l, m, cs)) (refusal (TooManyControl Bar) (place + (unpaired 124 cs + 1)) (length cs - (unpaired 124 cs + 1)))

-- behind the first bar
abbrev pub second_part : List ℕ → ℕ → List ℕ → Result Parts Fault
second_part l place cs =
    cond (unpaired 124 cs == length cs) (refusal (TooManyControl Bar) place (length cs)) (third_part l (take (unpaired 124 cs) cs) (place + (unpaired 124 cs + 1)) (drop (unpaired 124 cs + 1) cs))

abbrev pub separators_at : ℕ → List ℕ → Result Parts Fault
separators_at place cs =
    cond (unpaired 124 cs == length cs) (Ok ([], cs, [])) (second_part (take (unpaired 124 cs) cs) (place + (unpaired 124 cs + 1)) (drop (unpaired 124 cs + 1) cs))

-- the powers in the front part of a repeat, whose first bar is at `bar`
abbrev pub repeat_powers : ℕ → List ℕ → ℕ → Result Triple Fault
repeat_powers place head bar = cond (bar == length head) (Ok (0, symmetric 0, 0)) (powers_at (place + (bar + 1)) (drop (bar + 1) head))

-- the separators of a repeat, whose first `$` is at `dollar`
abbrev pub repeat_parts : ℕ → List ℕ → ℕ → Result Parts Fault
repeat_parts place cs dollar = cond (dollar == length cs) (Ok ([], [], [])) (separators_at (place + (dollar + 1)) (drop (dollar + 1) cs))

abbrev pub repeated : Range → Triple → Parts → Shape
repeated r t s = typed_repeat (record {
  path = r.0;
  from = r.1;
  to = r.2;
  left = t.0;
  middle = t.1;
  right = t.2;
  left_sep = s.0;
  middle_sep = s.1;
  right_sep = s.2;
})

-- the front part of a repeat: range and powers
abbrev pub front_at : ℕ → List ℕ → Result (Range × Triple) Fault
front_at place head =
    on_ok (range_at place (take (up_to 124 head) head)) (λ r. on_ok (repeat_powers place head (up_to 124 head)) (λ t. Ok (r, t)))

-- what stands between `$(` and `)$`
abbrev pub repeat_at : ℕ → List ℕ → Result Shape Fault
repeat_at place cs =
    on_ok (front_at place (take (up_to 36 cs) cs)) (λ f. on_ok (repeat_parts place cs (up_to 36 cs)) (λ s. Ok (repeated f.0 f.1 s)))

-- what stands before the mark that closes a control, read by f, and how many bytes the control has from its bracket on
abbrev pub closed_by : ℕ → ClosingMark → (ℕ → List ℕ → Result Shape Fault) → ℕ → List ℕ → Result (Shape × ℕ) Fault
closed_by b mark f place cs =
    on_some (first_mark b 36 0 cs) (refusal (MissingControl mark) place (length cs)) (λ at. on_ok (f place (take at cs)) (λ s. Ok (s, at + 3)))

-- the control whose `$` stands right before these bytes
abbrev pub control_at : ℕ → List ℕ → Result (Shape × ℕ) Fault
control_at place [] = refusal IncorrectControl place 0
control_at place (c ∷ cs) =
    cond (c == 91) (closed_by 93 Square child_at (place + 1) cs)
    (cond (c == 40) (closed_by 41 Round repeat_at (place + 1) cs)
    (cond (c == 123) (closed_by 125 Curly capture_at (place + 1) cs)
    (refusal IncorrectControl place (suc (length cs)))))
