-- The refusals of the print by number and name.
use Rattle.std.specs.Prelude.{ℕ, List, codes}
use Rattle.terms.specs.declared.error.PrintError.{PrintError}
use Rattle.terms.specs.declared.error.PrintError.TheVariants.{BadTerm}

abbrev pub print_number : PrintError → ℕ
print_number BadTerm = 23

abbrev pub print_name : PrintError → List ℕ
print_name BadTerm = codes "BadTerm"
