-- Where a range of children begins and ends.
use Rattle.std.specs.Prelude.{ℕ, suc, ◌-◌, Bool, false, cond, ◌||◌, List, [], ◌∷◌, Some, None, Option, nat_le, nat_lt}
use Rattle.lines.specs.Children.{negative, back}
use Rattle.wire.specs.declared.commands.Command.{Command}
use Rattle.wire.specs.declared.commands.Command.TheVariants.{End, Power, Byte, Step, Child, Range, Capture}

-- the place that an index means among n children, which may be behind the last; none before the first
abbrev pub counted : ℕ → ℕ → Option ℕ
counted n i = cond (negative i) (cond (nat_le (back i) n) (Some (n - back i)) None) (Some i)

-- the first place among n that is not before the one that the index names
abbrev pub first_index : ℕ → ℕ → ℕ
first_index n i = cond (negative i) (n - back i) i

-- the place behind the last that is not behind the one that the index names
abbrev pub end_of : ℕ → ℕ → ℕ
end_of n i = cond (negative i) (cond (nat_le (back i) n) (suc (n - back i)) 0) (cond (nat_lt i n) (suc i) n)

-- brackets enclose what begins with these powers, if a power beside it exceeds its own on that side
abbrev pub bracketed : List Command → ℕ → ℕ → Bool
bracketed [] a b = false
bracketed (End ∷ ks) a b = false
bracketed (Power l r ∷ ks) a b = nat_lt l a || nat_lt r b
bracketed (Byte x ∷ ks) a b = false
bracketed (Step i ∷ ks) a b = false
bracketed (Child i l r ∷ ks) a b = false
bracketed (Range f g l x y r ∷ ks) a b = false
bracketed (Capture k ∷ ks) a b = false
