-- What is found of a name, as spans.
use Rattle.std.proofs.Common.{◌≡◌, ℕ, ◌≤◌, Bool, true, false, cond, ◌&&◌, leb, List, map, length, take, Some, None, Option, sym, refl, ap, ◌∙◌, le-leb}
use Rattle.matching.specs.declared.items.Item.{Item}
use Rattle.matching.specs.Items.{as_seq}
use Rattle.matching.specs.Reader.{Got, items_of}
use Rattle.matching.specs.Best.{at_end, best}
use Rattle.matching.specs.Places.{Places, placed, blank, on_way, match_in, match_by}
use Rattle.matching.proofs.Placing.{fewer, few_groups, length-placed, length-blank}
use Rattle.plain.specs.Rules.{as_span, as_spans, plain_spans}

pub found_spans : (text name : List ℕ) (items : List Item) (m : ℕ) (l : Places) → length text ≤ 96 → Some (items, m) ≡ items_of text → Some l ≡ cond (leb (length name) 255) (match_in 49 (as_seq items) name) None → Some (map as_span (take m l)) ≡ plain_spans text name
found_spans text name items m l h e f = go (leb (length name) 255) refl f
  where
    as_read : (b : Bool) → leb (length name) 255 ≡ b → plain_spans text name ≡ cond b (as_spans (match_in m (as_seq items) name)) None
    as_read b q =
        ap (λ (a : Bool). cond (a && leb (length name) 255) (as_spans (match_by (items_of text) name)) None) (le-leb (length text) 96 h)
        ∙ ap (λ (b : Bool). cond b (as_spans (match_by (items_of text) name)) None) q
        ∙ ap (λ (g : Got). cond b (as_spans (match_by g name)) None) (sym e)

    go : (b : Bool) → leb (length name) 255 ≡ b → Some l ≡ cond b (match_in 49 (as_seq items) name) None → Some (map as_span (take m l)) ≡ plain_spans text name
    go false q f = cc
    go true q f = sym (as_read true q ∙ ap as_spans (fewer m 49 (as_seq items) name l (few_groups text items m (sym e) h).1 (sym f)))

pub found_size : (name : List ℕ) (items : List Item) (l : Places) → Some l ≡ cond (leb (length name) 255) (match_in 49 (as_seq items) name) None → length l ≡ 49
found_size name items l = go (leb (length name) 255) (best (as_seq items) at_end name)
  where
    go : (b : Bool) (r : Option (List ℕ)) → Some l ≡ cond b (on_way 49 (as_seq items) name r) None → length l ≡ 49
    go false r e = cc
    go true None e = cc
    go true (Some ts) e =
        let q : l ≡ placed ts (as_seq items) 0 (blank 49 (length name)) = cc in
        ap length q ∙ length-placed ts (as_seq items) 0 (blank 49 (length name)) ∙ length-blank 49 (length name)
