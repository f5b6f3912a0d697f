-- A template is accepted exactly where the grammar and the limits give it a reading; that reading is answered; none has two.
use Rattle.std.specs.Prelude.{◌≡◌, ℕ, ◌+◌, ◌≤◌, true, List, [], ◌∷◌, length, drop, Some, None, Ok, Err, Result}
use Rattle.formatter.specs.declared.defns.Formatter.{Formatter}
use Rattle.grammar.specs.Deep.{DeepFault, deep_from, greatest, limited}
use Rattle.grammar.specs.Grammar.{Reads}
use Rattle.grammar.specs.Limits.{piece_allowance, template_limit}
use Rattle.grammar.specs.Readings.{Piece, Repeat, Template}
use Rattle.grammar.specs.Shapes.{Shape}
use Rattle.grammar.specs.Templates.{body_at}
use Rattle.templates.specs.Views.{output_at}

-- the grammar and the limits give the template this reading
pub record Accepted (cs : List ℕ) (r : Template) : Type 0 where
  pub short : length cs ≤ template_limit
  pub reads : Reads cs r
  pub within : limited r ≡ true

abbrev pub ok_or : {A E : Type 0} → A → Result A E → A
ok_or x (Ok y) = y
ok_or x (Err e) = x

-- the pieces that stand in a text from a place on, with their separators read
abbrev pub pieces_from : ℕ → List ℕ → List (Piece Repeat)
pieces_from place cs = ok_or [] (deep_from 0 (ok_or [] (body_at piece_allowance place (drop place cs))))

-- the reading that is answered: the two powers, and the pieces that stand in the text from the start on
abbrev pub reading_of : Formatter → Template
reading_of f = record { left = f.parts.bind_power.left; right = f.parts.bind_power.right; pieces = pieces_from f.parts.start f.parts.text.now }

pub record Answered (cs : List ℕ) (f : Formatter) : Type 0 where
  pub accepted : Accepted cs (reading_of f)
  pub outputs : f.parts.outputs ≡ length (reading_of f).pieces
  pub most : f.max_capture ≡ greatest (reading_of f)
  pub only : (r : Template) → Accepted cs r → r ≡ reading_of f

pub record ReadAs (cs : List ℕ) (r : Result Formatter DeepFault) : Type 0 where
  pub accepted : (f : Formatter) → r ≡ Ok f → Answered cs f
  pub refused : (e : DeepFault) → r ≡ Err e → (t : Template) → Accepted cs t → ⊥

-- the answer as a reading, or the fault as it is
abbrev pub whole_reading : Result Formatter DeepFault → Result Template DeepFault
whole_reading (Ok f) = Ok (reading_of f)
whole_reading (Err e) = Err e

-- the pieces that are met on a walk from a place on, each as long as it is said to be
pub data Walked : ℕ → List ℕ → List Shape → Type 0 where
  over : {place : ℕ} {cs : List ℕ} → output_at place cs ≡ None → Walked place cs []
  goes : {place : ℕ} {cs : List ℕ} {s : Shape} {n : ℕ} {ss : List Shape} → output_at place cs ≡ Some (s, n) → Walked (place + n) (drop n cs) ss → Walked place cs (s ∷ ss)

-- a walk over a body meets its pieces
abbrev pub OutputsWalk : Type 0
OutputsWalk = (left place : ℕ) (cs : List ℕ) (ss : List Shape) → body_at left place cs ≡ Ok ss → Walked place cs ss
