use Rattle.std.proofs.Common.{◌≡◌, ℕ, ◌+◌, ◌≤◌, ◌≢◌, [], length, get_or, None, IfSome}
use Rattle.matching.specs.Cells.{cell}
use Rattle.plain.proofs.search.Search.fill_row.Given as goal

abbrev pub invariant-loop-at : goal.invariant-loop-at
invariant-loop-at l = record {
  size : length (get_or l.table l.i []) ≡ 256;
  done : (a : ℕ) → l.at ≤ a → a ≤ length l.self.name.now → get_or (get_or l.table l.i []) a None ≡ cell l.self.items.now l.self.name.now l.i a;
  others : (j : ℕ) → (j ≢ l.i) → get_or l.table j [] ≡ get_or l.initial.table j [];
  after : l.at ≤ length l.self.name.now → l.after ≡ cell l.self.items.now l.self.name.now (l.i + 1) l.at;
  again : l.at ≤ length l.self.name.now → l.again ≡ cell l.self.items.now l.self.name.now l.i l.at;
  small : IfSome l.again (λ n. n + l.at ≤ 255);
}
