-- The operands of commands, by the bytes that stand first.
use Rattle.std.specs.Prelude.{ℕ, List, drop, Some, Option}
use Rattle.codes.specs.Decode.{on_some, Got, word_at, byte_at, index_at, capture_at}
use Rattle.grammar.specs.Numbers.{int}
use Rattle.grammar.specs.declared.defns.ChildIndex.{ChildIndex}
use Rattle.wire.specs.declared.commands.Command.{Command}
use Rattle.wire.specs.declared.commands.Command.TheVariants.{Power, Child, Range}

abbrev pub first : {A : Type 0} → Got A → Option A
first g = on_some g (λ p. Some p.0)

abbrev pub byte_in : List ℕ → Option ℕ
byte_in cs = first (byte_at cs)

abbrev pub word_in : List ℕ → Option ℕ
word_in cs = first (word_at cs)

-- the index that 32 bits mean
abbrev pub index_of : ℕ → ChildIndex
index_of n = record { 0 = int n }

abbrev pub index_in : List ℕ → Option ChildIndex
index_in cs = on_some (index_at cs) (λ p. Some (index_of p.0))

abbrev pub capture_in : List ℕ → Option ℕ
capture_in cs = first (capture_at cs)

abbrev pub power_in : List ℕ → Option Command
power_in cs = on_some (word_in cs) (λ l. on_some (word_in (drop 4 cs)) (λ r. Some (Power l r)))

abbrev pub child_in : List ℕ → Option Command
child_in cs = on_some (index_in cs) (λ i. on_some (word_in (drop 4 cs)) (λ l. on_some (word_in (drop 8 cs)) (λ r. Some (Child i l r))))

abbrev pub range_in : List ℕ → Option Command
range_in cs =
    on_some (index_in cs) (λ f. on_some (index_in (drop 4 cs)) (λ t. on_some (word_in (drop 8 cs)) (λ l. on_some (word_in (drop 12 cs)) (λ a. on_some (word_in (drop 16 cs)) (λ b. on_some (word_in (drop 20 cs)) (λ r.
    Some (Range f t l a b r)))))))
