-- The refusals of a print by number and name.
use Rattle.std.specs.Prelude.{ℕ, List, codes}
use Rattle.lines.specs.declared.error.LineError.{LineError}
use Rattle.lines.specs.declared.error.LineError.TheVariants.{NoSuchTerm, MissingChild, TooDeep, TooManyVisits, OutputFull}

abbrev pub line_number : LineError → ℕ
line_number NoSuchTerm = 34
line_number MissingChild = 35
line_number TooDeep = 36
line_number TooManyVisits = 37
line_number OutputFull = 39

abbrev pub line_name : LineError → List ℕ
line_name NoSuchTerm = codes "NoSuchTerm"
line_name MissingChild = codes "MissingChild"
line_name TooDeep = codes "TooDeep"
line_name TooManyVisits = codes "TooManyVisits"
line_name OutputFull = codes "OutputFull"
