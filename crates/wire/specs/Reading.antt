-- The command that stands first, and what stands behind it.
use Rattle.std.specs.Prelude.{◌≡◌, ℕ, ◌+◌, cond, List, [], ◌∷◌, Some, None, Option, ◌==◌, MatchOption}
use Rattle.codes.specs.Decode.{Got, on_some, byte_at, word_at, index_at, capture_at}
use Rattle.grammar.specs.declared.defns.ChildIndex.{ChildIndex}
use Rattle.wire.specs.Commands.{index_of, byte_in, index_in, capture_in, power_in, child_in, range_in}
use Rattle.wire.specs.declared.commands.Command.{Command}
use Rattle.wire.specs.declared.commands.Command.TheVariants.{End, Power, Byte, Step, Child, Range, Capture}

-- what f reads of the bytes s is r, and t is left behind it
abbrev pub Takes : {A : Type 0} → (List ℕ → Got A) → List ℕ → Option A → List ℕ → Type 0
Takes f s r t = MatchOption r (f s ≡ None) (λ x. f s ≡ Some (x, t))

abbrev pub index_first : List ℕ → Got ChildIndex
index_first cs = on_some (index_at cs) (λ p. Some (index_of p.0, p.1))

abbrev pub power_first : List ℕ → Got Command
power_first cs = on_some (word_at cs) (λ l. on_some (word_at l.1) (λ r. Some (Power l.0 r.0, r.1)))

abbrev pub child_first : List ℕ → Got Command
child_first cs = on_some (index_first cs) (λ i. on_some (word_at i.1) (λ l. on_some (word_at l.1) (λ r. Some (Child i.0 l.0 r.0, r.1))))

abbrev pub range_first : List ℕ → Got Command
range_first cs =
    on_some (index_first cs) (λ f. on_some (index_first f.1) (λ t. on_some (word_at t.1) (λ l. on_some (word_at l.1) (λ a. on_some (word_at a.1) (λ b. on_some (word_at b.1) (λ r.
    Some (Range f.0 t.0 l.0 a.0 b.0 r.0, r.1)))))))

-- by its operands, one behind the other
abbrev pub command_first : List ℕ → Got Command
command_first [] = None
command_first (o ∷ cs) =
    cond (o == 0) (Some (End, cs))
    (cond (o == 1) (power_first cs)
    (cond (o == 2) (on_some (byte_at cs) (λ b. Some (Byte b.0, b.1)))
    (cond (o == 3) (on_some (index_first cs) (λ i. Some (Step i.0, i.1)))
    (cond (o == 4) (child_first cs)
    (cond (o == 5) (range_first cs)
    (cond (o == 6) (on_some (capture_at cs) (λ n. Some (Capture n.0, n.1))) None))))))

-- ---- with the place behind it

abbrev pub placed : {A : Type 0} → ℕ → Option A → Option (A × ℕ)
placed n None = None
placed n (Some x) = Some (x, n)

abbrev pub command_at : ℕ → List ℕ → Option (Command × ℕ)
command_at at [] = None
command_at at (o ∷ cs) =
    cond (o == 0) (Some (End, at + 1))
    (cond (o == 1) (placed (at + 9) (power_in cs))
    (cond (o == 2) (placed (at + 2) (on_some (byte_in cs) (λ b. Some (Byte b))))
    (cond (o == 3) (placed (at + 5) (on_some (index_in cs) (λ i. Some (Step i))))
    (cond (o == 4) (placed (at + 13) (child_in cs))
    (cond (o == 5) (placed (at + 25) (range_in cs))
    (cond (o == 6) (placed (at + 5) (on_some (capture_in cs) (λ n. Some (Capture n)))) None))))))
