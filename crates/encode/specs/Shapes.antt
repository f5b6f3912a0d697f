-- The code of pieces as they were typed.
use Rattle.std.specs.Prelude.{ℕ, List, [], ◌∷◌, ◌++◌, Ok, Err, Result}
use Rattle.grammar.specs.declared.defns.BindPowerPair.{BindPowerPair}
use Rattle.grammar.specs.declared.defns.ChildIndex.{ChildIndex}
use Rattle.grammar.specs.Deep.{plainly}
use Rattle.grammar.specs.Marks.{halve}
use Rattle.grammar.specs.Numbers.{bits}
use Rattle.grammar.specs.Paths.{steps_of}
use Rattle.grammar.specs.Readings.{Separator}
use Rattle.grammar.specs.Results.{Fault}
use Rattle.grammar.specs.Shapes.{TypedRepeat, Shape, typed_text, typed_child, typed_repeat, typed_capture}
use Rattle.grammar.specs.Templates.{Typed, template_at}
use Rattle.codes.specs.Code.{word, code_separator}

-- numbers, four bytes each
abbrev pub words : List ℕ → List ℕ
words [] = []
words (n ∷ ns) = word n (words ns)

-- the bytes of a text, each a BYTE
abbrev pub letters : List ℕ → List ℕ
letters [] = []
letters (b ∷ bs) = 2 ∷ b ∷ letters bs

-- the steps of a path, each a STEP
abbrev pub paces : List ℕ → List ℕ
paces [] = []
paces (i ∷ is) = 3 ∷ word i (paces is)

-- a CHILD
abbrev pub point_code : ChildIndex → BindPowerPair → List ℕ
point_code i b = 4 ∷ word (bits i.0) (word b.left (word b.right []))

abbrev pub child_code : List ℕ → ChildIndex → BindPowerPair → List ℕ
child_code p i b = paces (steps_of p) ++ point_code i b

-- a piece of a separator, among which there is no repeat
abbrev pub plain_code : Shape → List ℕ
plain_code (typed_text t) = letters (halve 36 t)
plain_code (typed_child p i b) = child_code p i b
plain_code (typed_repeat x) = []
plain_code (typed_capture n) = 6 ∷ word n []

-- a separator that is read so; an empty one where it is not read
abbrev pub separator_read : Result Typed Fault → Separator
separator_read (Ok t) = plainly t
separator_read (Err e) = record { left = 0; right = 0; pieces = [] }

-- the code of a separator as it was typed
unfoldable pub separator_code : List ℕ → List ℕ
separator_code typed = code_separator (separator_read (template_at (halve 124 typed))) []

abbrev pub separators_code : List ℕ → List ℕ → List ℕ → List ℕ
separators_code a b c = separator_code a ++ (separator_code b ++ separator_code c)

-- a RANGE without its separators
abbrev pub numbers_code : ChildIndex → ChildIndex → ℕ → BindPowerPair → ℕ → List ℕ
numbers_code f t l m r = 5 ∷ word (bits f.0) (word (bits t.0) (word l (word m.left (word m.right (word r [])))))

abbrev pub repeat_code : TypedRepeat → List ℕ
repeat_code x = paces (steps_of x.path) ++ (numbers_code x.from x.to x.left x.middle x.right ++ separators_code x.left_sep x.middle_sep x.right_sep)

abbrev pub shape_code : Shape → List ℕ
shape_code (typed_text t) = letters (halve 36 t)
shape_code (typed_child p i b) = child_code p i b
shape_code (typed_repeat x) = repeat_code x
shape_code (typed_capture n) = 6 ∷ word n []

-- the pieces one after the other
abbrev pub codes_by : (Shape → List ℕ) → List Shape → List ℕ
codes_by f [] = []
codes_by f (s ∷ ss) = f s ++ codes_by f ss

-- POWER, the pieces and END
abbrev pub framed : BindPowerPair → List ℕ → List ℕ
framed b body = 1 ∷ word b.left (word b.right (body ++ (0 ∷ [])))
