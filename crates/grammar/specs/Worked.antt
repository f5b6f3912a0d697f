-- Worked templates.
use Rattle.std.specs.Prelude.{◌≡◌, ℕ, List, [], ◌∷◌, Ok, Err, codes, Result}
use Rattle.refusal.specs.Refusals.{of_template}
use Rattle.refusal.specs.declared.error.ClosingMark.TheVariants.{Dollar}
use Rattle.refusal.specs.declared.error.FormatterError.{FormatterError}
use Rattle.refusal.specs.declared.error.FormatterError.TheVariants.{MissingControl, TooManyControl, InvalidNumber, CaptureOverflow}
use Rattle.refusal.specs.declared.error.PartingMark.TheVariants.{Bar}
use Rattle.grammar.specs.Deep.{DeepFault, deep_at}
use Rattle.grammar.specs.Readings.{Piece, text, child, repeat, Separator, Repeat, Template}
use Rattle.grammar.specs.Results.{located}

abbrev pub reads : ℕ → ℕ → List (Piece Repeat) → Result Template DeepFault
reads l r ps = Ok (record { left = l; right = r; pieces = ps })

abbrev pub refused : FormatterError → ℕ → ℕ → Result Template DeepFault
refused k place n = Err (of_template (located k place n))

abbrev pub bare : Separator
bare = record { left = 0; right = 0; pieces = [] }

abbrev pub only : ℕ → List ℕ → Separator
only b bs = record { left = 0; right = 0; pieces = text b bs ∷ [] }

-- a repeat of the children 0 and 1 with this middle separator
abbrev pub parted : Separator → Repeat
parted m = record { from = 0; to = 1; left = 0; middle_left = 0; middle_right = 0; right = 0; before = bare; between = m; behind = bare }

abbrev pub Worked : Type 0
Worked =
    (deep_at (codes "a$$$[#0]$b") ≡ reads 0 0 (text 97 (36 ∷ []) ∷ child [] 0 0 0 ∷ text 98 [] ∷ []))
    × (deep_at (codes "a$[#01]$b") ≡ refused InvalidNumber 4 2)
    × (deep_at (codes "$") ≡ refused (MissingControl Dollar) 1 0)
    × (deep_at (codes "$0$$6$") ≡ reads 0 6 [])
    × (deep_at (codes "a${-1}$b") ≡ refused CaptureOverflow 3 2)
    × (deep_at (codes "a$[#0|-1]$b") ≡ reads 0 0 (text 97 [] ∷ child [] 0 4294967295 4294967295 ∷ text 98 [] ∷ []))
    × (deep_at (codes "x$(#0..1$a|b)$y") ≡ refused (TooManyControl Bar) 11 1)
    × (deep_at (codes "x$(#0..1$a||b)$y") ≡ reads 0 0 (text 120 [] ∷ repeat [] (parted (only 97 (124 ∷ 98 ∷ []))) ∷ text 121 [] ∷ []))
