-- A text that is read to its end.
use Rattle.std.proofs.Common.{◌≡◌, ◌==◌, ℕ, ◌<◌, ◌≤◌, Bool, true, false, cond, leb, List, [], length, get_or, Some, None, sym, refl, ap, ◌∙◌, ⊎_elim, arith, le-leb, leb-true}
use Rattle.std.proofs.str.Laws.{order}
use Rattle.std.proofs.lemmas.Bool.Decides.{nat_tests}
use Rattle.std.specs.Bool.{then_some}
use Rattle.matching.specs.declared.items.Item.{Item}
use Rattle.matching.specs.Reader.{items_of, after}
use Rattle.matching.proofs.Descends.{read_whole, read_closed}
use Rattle.plain.specs.declared.reader.Reader.{Reader}
use Rattle.plain.specs.Reading.{reads, ahead, short_items}

short_read : (text : List ℕ) → length text ≤ 96 → items_of text ≡ short_items text
short_read text h = sym (ap (λ (b : Bool). cond b (items_of text) None) (le-leb (length text) 96 h))

-- only at its end has a reader read all
pub read_all : (text : List ℕ) (r : Reader) (b : Bool) → length text ≤ 96 → b ≡ (length r.rest.now == 0) → (0 < length r.rest.now → get_or r.rest.now 0 0 ≡ 41) → after [] (items_of text) ≡ ahead [] r → reads (then_some b r) ≡ short_items text
read_all text r b h e stops a = ⊎_elim left over (order 0 (length r.rest.now))
  where
    left : 0 < length r.rest.now → reads (then_some b r) ≡ short_items text
    left l =
        let f : b ≡ false = grind (arith, nat_tests) in
        rw f (read_closed text r.rest.now r.groups r.len r.items l (stops l) a ∙ short_read text h)

    over : length r.rest.now ≤ 0 → reads (then_some b r) ≡ short_items text
    over l =
        let f : b ≡ true = grind (arith, nat_tests) in
        rw f (read_whole text r.rest.now r.groups r.len r.items (omega arith) a ∙ short_read text h)

-- what is read of a text that is not too long
pub read_short : (text : List ℕ) (items : List Item) (m : ℕ) → Some (items, m) ≡ short_items text → (length text ≤ 96) × (Some (items, m) ≡ items_of text)
read_short text items m = go (leb (length text) 96) refl
  where
    go : (b : Bool) → leb (length text) 96 ≡ b → Some (items, m) ≡ cond b (items_of text) None → (length text ≤ 96) × (Some (items, m) ≡ items_of text)
    go false q e = cc
    go true q e = (leb-true (length text) 96 q, e)
