-- What is written into a buffer.
use Rattle.std.specs.Prelude.{◌≡◌, ℕ, cond, List, [], ◌++◌, length, take, drop, Result, is_ok, nat_le}
use Rattle.pen.specs.declared.writing.Full.{Full}
use Rattle.pen.specs.declared.writing.Pen.{Pen}

-- a buffer in its two parts: what is written, and the bytes behind it
pub record Page : Type 0 where
  pub written : List ℕ
  pub rest : List ℕ

-- a buffer in which nothing is written
abbrev pub blank : List ℕ → Page
blank l = record { written = []; rest = l }

-- a buffer whose first `at` bytes count as written, all of them if it has fewer
abbrev pub behind : ℕ → List ℕ → Page
behind at l = record { written = take at l; rest = drop at l }

-- the page with more bytes on it, as many as it has room for
abbrev pub writes : List ℕ → Page → Page
writes bs p = record { written = p.written ++ take (length p.rest) bs; rest = drop (length bs) p.rest }

-- the page that a pen writes on
abbrev pub page : Pen → Page
page p = record { written = take p.at p.out.now; rest = drop p.at p.out.now }

-- these bytes were written, as many as had room, and nothing else was changed; a refusal says that not all had room
pub record Wrote (old new : Pen) (bs : List ℕ) (r : Result (Unit {0}) Full) : Type 0 where
  pub same : new.out.ghost_name ≡ old.out.ghost_name
  pub bytes : page new ≡ writes bs (page old)
  pub answer : is_ok r ≡ nat_le (length bs) (length (page old).rest)

-- all of the bytes from the start on, or the buffer as it was
abbrev pub delivered : List ℕ → List ℕ → List ℕ
delivered bs buffer = cond (nat_le (length bs) (length buffer)) (bs ++ drop (length bs) buffer) buffer
