-- What is written into a buffer from a place on.
use Rattle.std.specs.Prelude.{◌≡◌, ℕ, ◌+◌, ◌-◌, ◌^◌, min, List, [], ◌∷◌, slice_set}
use Rattle.written.specs.declared.pen.Pen.{Pen}

-- the buffer, the place where the next byte goes, and the byte that was written last
pub record State : Type 0 where
  pub buffer : List ℕ
  pub at : ℕ
  pub last : ℕ

abbrev pub held : Pen → State
held p = record { buffer = p.out.now; at = p.at; last = p.last }

abbrev pub ink : ℕ → State → State
ink b s = record { buffer = slice_set s.buffer s.at b; at = min (s.at + 1) (2 ^ 64 - 1); last = b }

abbrev pub inks : List ℕ → State → State
inks [] s = s
inks (b ∷ bs) s = inks bs (ink b s)

-- at the start of a buffer
abbrev pub fresh : List ℕ → State
fresh b = record { buffer = b; at = 0; last = 0 }

-- these bytes are written, into the same buffer
pub record Writes (bytes : List ℕ) (old new : Pen) : Type 0 where
  pub wrote : held new ≡ inks bytes (held old)
  pub same : new.out.ghost_name ≡ old.out.ghost_name
