-- What is known of pieces that were read.
use Rattle.std.specs.Prelude.{◌≡◌, ℕ, ◌≤◌, List, length, drop, Ok}
use Rattle.grammar.specs.Grammar.{Path}
use Rattle.grammar.specs.Limits.{template_limit}
use Rattle.grammar.specs.Marks.{halve}
use Rattle.grammar.specs.Paths.{steps_of}
use Rattle.grammar.specs.Shapes.{Shape, typed_text, typed_child, typed_repeat, typed_capture}
use Rattle.grammar.specs.Templates.{Typed, template_at}

-- a path of the grammar, behind its `#`
pub record Stepped (path : List ℕ) : Type 0 where
  pub index : ℕ
  pub is : Path (drop 1 path) (steps_of path) index

-- the path of a piece is one of the grammar
abbrev pub Pathed : Shape → Type 0
Pathed (typed_text t) = Unit {0}
Pathed (typed_child p i b) = Stepped p
Pathed (typed_repeat x) = Stepped x.path
Pathed (typed_capture n) = Unit {0}

-- a separator is a template
pub record Readable (typed : List ℕ) : Type 0 where
  pub read : Typed
  pub is : template_at (halve 124 typed) ≡ Ok read

-- one of no more bytes than a template may have
abbrev pub Legible : List ℕ → Type 0
Legible typed = (length typed ≤ template_limit) × Readable typed

-- and so are those of a piece
abbrev pub Spoken : Shape → Type 0
Spoken (typed_text t) = Unit {0}
Spoken (typed_child p i b) = Unit {0}
Spoken (typed_repeat x) = Legible x.left_sep × Legible x.middle_sep × Legible x.right_sep
Spoken (typed_capture n) = Unit {0}

abbrev pub Whole : Shape → Type 0
Whole s = Pathed s × Spoken s
