-- The limits of what is read, for all definitions.
use Rattle.std.specs.Prelude.{ℕ}

-- the steps that a path may have before its index
abbrev pub step_allowance : ℕ
step_allowance = 7

-- the pieces of a template, or of a separator
abbrev pub piece_allowance : ℕ
piece_allowance = 64

-- the bytes of a template
abbrev pub template_limit : ℕ
template_limit = 4096

-- the bytes of a matcher
abbrev pub matcher_limit : ℕ
matcher_limit = 96
