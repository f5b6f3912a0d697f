-- The refusals of engines by number and name.
use Rattle.std.specs.Prelude.{ℕ, List, codes}
use Rattle.engine.specs.declared.error.PatternError.{PatternError}
use Rattle.engine.specs.declared.error.PatternError.TheVariants.{InvalidPattern, EngineFull, NothingHeld}

abbrev pub pattern_number : PatternError → ℕ
pattern_number InvalidPattern = 12
pattern_number EngineFull = 33
pattern_number NothingHeld = 38

abbrev pub pattern_name : PatternError → List ℕ
pattern_name InvalidPattern = codes "InvalidPattern"
pattern_name EngineFull = codes "EngineFull"
pattern_name NothingHeld = codes "NothingHeld"
