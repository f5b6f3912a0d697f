-- The rows of a source are lawful, since the source is.
use Rattle.std.proofs.Common.{ℕ, ◌<◌, ◌≤◌, List, length, sym, subst, arith}
use Rattle.terms.specs.Source.{Source}
use Rattle.tables.specs.declared.rows.Row.{Row}
use Rattle.tables.specs.Rows.{Smaller, Lawful}
use Rattle.tables.specs.Table.{Written, Rewritten}

lawful_row_lem : (s : Source) (rows : List Row) → Written s rows → (t : ℕ) → t < s.count → Lawful rows t
lawful_row_lem s rows w t h =
    let P : List ℕ → Type 0 = λ l. length l ≤ 255 in
    (subst P (sym (w.names t h)) (s.short t), subst (Smaller t) (sym (w.children t h)) (s.below t))

pub rewritten : Rewritten
rewritten s rows w = record {
  beginning = record { within = omega (arith, w.number); before = lawful_row_lem s rows w; longest = λ h. absurd (omega (arith, w.number)) };
  names = λ t h. sym (w.names t h);
  children = λ t h. sym (w.children t h);
}
