-- The code of a reading: a run of commands. Each is written in front of what follows.
use Rattle.std.specs.Prelude.{ℕ, ◌/◌, ◌%◌, List, [], ◌∷◌}
use Rattle.grammar.specs.Readings.{Piece, text, child, capture, repeat, Reading, Separator, Repeat, Template}

-- 4 bytes, most significant first
abbrev pub word : ℕ → List ℕ → List ℕ
word n cs = n / 16777216 ∷ n / 65536 % 256 ∷ n / 256 % 256 ∷ n % 256 ∷ cs

-- the commands that stand in a reading between POWER and END
pub data Command (R : Type 0) : Type 0 where
  byte : ℕ → Command R
  step : ℕ → Command R
  point : ℕ → ℕ → ℕ → Command R
  range : R → Command R
  hold : ℕ → Command R

abbrev pub command : {R : Type 0} → (R → List ℕ → List ℕ) → Command R → List ℕ → List ℕ
command f (byte b) cs = 2 ∷ b ∷ cs
command f (step i) cs = 3 ∷ word i cs
command f (point i l r) cs = 4 ∷ word i (word l (word r cs))
command f (range x) cs = 5 ∷ f x cs
command f (hold n) cs = 6 ∷ word n cs

-- a run of commands, with END
abbrev pub run : {R : Type 0} → (R → List ℕ → List ℕ) → List (Command R) → List ℕ → List ℕ
run f [] cs = 0 ∷ cs
run f (k ∷ ks) cs = command f k (run f ks cs)

abbrev pub bytes : {R : Type 0} → List ℕ → List (Command R) → List (Command R)
bytes [] ks = ks
bytes (b ∷ bs) ks = byte b ∷ bytes bs ks

abbrev pub steps : {R : Type 0} → List ℕ → List (Command R) → List (Command R)
steps [] ks = ks
steps (i ∷ is) ks = step i ∷ steps is ks

-- the commands of the pieces
abbrev pub commands : {R : Type 0} → List (Piece R) → List (Command R)
commands [] = []
commands (text b bs ∷ ps) = byte b ∷ bytes bs (commands ps)
commands (child s i l r ∷ ps) = steps s (point i l r ∷ commands ps)
commands (capture n ∷ ps) = hold n ∷ commands ps
commands (repeat s x ∷ ps) = steps s (range x ∷ commands ps)

abbrev pub code_by : {R : Type 0} → (R → List ℕ → List ℕ) → Reading R → List ℕ → List ℕ
code_by f r cs = 1 ∷ word r.left (word r.right (run f (commands r.pieces) cs))

abbrev pub never : ⊥ → List ℕ → List ℕ
never x cs = cs

abbrev pub code_separator : Separator → List ℕ → List ℕ
code_separator r cs = code_by never r cs

abbrev pub code_repeat : Repeat → List ℕ → List ℕ
code_repeat x cs =
    word x.from (word x.to (word x.left (word x.middle_left (word x.middle_right (word x.right
    (code_separator x.before (code_separator x.between (code_separator x.behind cs))))))))

abbrev pub code_template : Template → List ℕ → List ℕ
code_template r cs = code_by code_repeat r cs

abbrev pub code : Template → List ℕ
code r = code_template r []
