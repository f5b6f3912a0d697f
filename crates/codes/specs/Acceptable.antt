-- The codes of templates that are accepted, and no others.
use Rattle.std.specs.Prelude.{◌≡◌, ℕ, ◌≤◌, Bool, true, cond, not, ◌&&◌, List, [], ◌∷◌, length, Some, None, Option, ◌==◌, nat_le}
use Rattle.std.specs.List.{AllByRecursion}
use Rattle.grammar.specs.Deep.{within_by, limited}
use Rattle.grammar.specs.Grammar.{Reads}
use Rattle.grammar.specs.Limits.{step_allowance, piece_allowance, template_limit}
use Rattle.grammar.specs.Marks.{ends, closes}
use Rattle.grammar.specs.Readings.{Piece, text, child, capture, repeat, Reading, Separator, Repeat, Template, Byte}
use Rattle.codes.specs.Code.{code}
use Rattle.codes.specs.Decode.{on_some, template_at}
use Rattle.codes.specs.Formed.{FormedTemplate}
use Rattle.codes.specs.Written.{empty}

-- the bytes of a code
abbrev pub code_limit : ℕ
code_limit = 1024

-- in no template for these pieces does a `)` of a text stand right before a `$`, where a repeat would end; a `$` follows the pieces if m
abbrev pub clear : Bool → List (Piece ⊥) → Bool
clear m [] = true
clear m (text b bs ∷ []) = not (closes (b ∷ bs)) && not (ends 41 (b ∷ bs) && m)
clear m (text b bs ∷ p ∷ ps) = not (closes (b ∷ bs)) && (not (ends 41 (b ∷ bs)) && clear m (p ∷ ps))
clear m (child s i l r ∷ ps) = clear m ps
clear m (capture n ∷ ps) = clear m ps
clear m (repeat s x ∷ ps) = clear m ps

-- at most n steps in each path, and so many pieces
abbrev pub allowed_by : {R : Type 0} → ℕ → (R → Bool) → Reading R → Bool
allowed_by n f r = nat_le (length r.pieces) piece_allowance && within_by n f r.pieces

abbrev pub separates : ℕ → Separator → Bool
separates n r = allowed_by n (λ x. true) r && clear (not (r.right == 0)) r.pieces

abbrev pub repeats : ℕ → Repeat → Bool
repeats n x = separates n x.before && (separates n x.between && separates n x.behind)

-- a template reads so, of those with at most n steps in a path
abbrev pub acceptable : ℕ → Template → Bool
acceptable n r = allowed_by n (repeats n) r

-- the reading whose code this is, where at most n steps are allowed
abbrev pub decode_by : ℕ → List ℕ → Option Template
decode_by n c = on_some (template_at c) (λ p. cond (empty p.1 && (nat_le (length c) code_limit && acceptable n p.0)) (Some p.0) None)

abbrev pub decode : List ℕ → Option Template
decode c = decode_by step_allowance c

-- c is the code of a reading that some template has
pub record Coded (n : ℕ) (c : List ℕ) (r : Template) : Type 0 where
  pub is : c ≡ code r
  pub formed : FormedTemplate r
  pub allowed : acceptable n r ≡ true
  pub short : length c ≤ code_limit

-- a template of bytes that the grammar and the limits give this reading
pub record AcceptedAs (cs : List ℕ) (r : Template) : Type 0 where
  pub typed : AllByRecursion Byte cs
  pub short : length cs ≤ template_limit
  pub reads : Reads cs r
  pub within : limited r ≡ true

-- cs is an accepted template, and c is its code
pub record Coding (cs c : List ℕ) : Type 0 where
  pub reading : Template
  pub accepted : AcceptedAs cs reading
  pub same : code reading ≡ c

-- cs is an accepted template whose code is no longer than a code may be, nor than so many bytes
pub record Codable (cs : List ℕ) (room : ℕ) : Type 0 where
  pub reading : Template
  pub accepted : AcceptedAs cs reading
  pub short : length (code reading) ≤ code_limit
  pub fits : length (code reading) ≤ room

-- c is the code of an accepted template, whose reading is r
pub record CodeOf (c : List ℕ) (r : Template) : Type 0 where
  pub template : List ℕ
  pub accepted : AcceptedAs template r
  pub is : c ≡ code r
  pub fits : length c ≤ code_limit
