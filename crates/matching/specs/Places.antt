-- Where the groups of a match begin and end: from the place of a group's opening mark to that of its closing mark.
use Rattle.std.specs.Prelude.{◌≡◌, ℕ, zero, suc, ◌+◌, ◌<◌, ◌≤◌, Bool, List, [], ◌∷◌, length, get_or, replicate, Some, None, Option, slice_index_or, slice_set}
use Rattle.matching.specs.declared.items.Item.{Item}
use Rattle.matching.specs.declared.items.Times.{Times}
use Rattle.matching.specs.Ways.{Seq, end, bytes, opens, closes, either, join, Way}
use Rattle.matching.specs.Best.{at_end, best}
use Rattle.matching.specs.Items.{as_seq}
use Rattle.matching.specs.Reader.{Got}
use Rattle.matching.specs.Grammar.{Pattern}

pub data Mark : Type 0 where
  opening : ℕ → Mark
  closing : ℕ → Mark

-- Stands mark pattern takes p: on the way with these takes, p bytes are taken before the mark
pub data Stands : Mark → Seq → List ℕ → ℕ → Type 0 where
  opens_here : {k t : ℕ} {r : Seq} {ts : List ℕ} → Stands (opening k) (opens k r) (t ∷ ts) 0
  closes_here : {k t : ℕ} {r : Seq} {ts : List ℕ} → Stands (closing k) (closes k r) (t ∷ ts) 0
  past_bytes : {x : Mark} {s : ℕ → Bool} {q : Times} {r : Seq} {t p : ℕ} {ts : List ℕ} → Stands x r ts p → Stands x (bytes s q r) (t ∷ ts) (t + p)
  past_open : {x : Mark} {k t p : ℕ} {r : Seq} {ts : List ℕ} → Stands x r ts p → Stands x (opens k r) (t ∷ ts) (t + p)
  past_close : {x : Mark} {k t p : ℕ} {r : Seq} {ts : List ℕ} → Stands x r ts p → Stands x (closes k r) (t ∷ ts) (t + p)
  in_left : {x : Mark} {a b r : Seq} {p : ℕ} {ts : List ℕ} → Stands x (join a r) ts p → Stands x (either a b r) (1 ∷ ts) p
  in_right : {x : Mark} {a b r : Seq} {p : ℕ} {ts : List ℕ} → Stands x (join b r) ts p → Stands x (either a b r) (0 ∷ ts) p

-- begin and end of each group by its number; a group that no chosen alternative has is absent
abbrev pub Places : Type 0
Places = List (Option (ℕ × ℕ))

abbrev pub ended : ℕ → Option (ℕ × ℕ) → Option (ℕ × ℕ)
ended at None = None
ended at (Some p) = Some (p.0, at)

-- the places, with those of the marks on the way with these takes, where `at` bytes are taken before
abbrev pub placed : List ℕ → Seq → ℕ → Places → Places
placed [] p at l = l
placed (t ∷ ts) end at l = l
placed (t ∷ ts) (bytes s q r) at l = placed ts r (at + t) l
placed (t ∷ ts) (opens k r) at l = placed ts r (at + t) (slice_set l k (Some (at, at)))
placed (t ∷ ts) (closes k r) at l = placed ts r (at + t) (slice_set l k (ended at (slice_index_or l k None)))
placed (zero ∷ ts) (either a b r) at l = placed ts (join b r) at l
placed (suc t ∷ ts) (either a b r) at l = placed ts (join a r) at l

-- m numbers: 0 is the whole name of n bytes, and no group is placed yet
abbrev pub blank : ℕ → ℕ → Places
blank zero n = []
blank (suc m) n = Some (0, n) ∷ replicate m None

abbrev pub on_way : ℕ → Seq → List ℕ → Option (List ℕ) → Option Places
on_way m p name None = None
on_way m p name (Some ts) = Some (placed ts p 0 (blank m (length name)))

-- the places of the match, where there is one, of a pattern with m numbers
abbrev pub match_in : ℕ → Seq → List ℕ → Option Places
match_in m p name = on_way m p name (best p at_end name)

-- what is known of the places of a match with a name of n bytes
pub record Spanning (m n : ℕ) (l : Places) : Type 0 where
  pub numbers : length l ≡ m
  pub whole : get_or l 0 None ≡ Some (0, n)
  pub inside : (k a b : ℕ) → slice_index_or l k None ≡ Some (a, b) → (a ≤ b) × (b ≤ n)

abbrev pub MatchesSpan : Type 0
MatchesSpan = (text name : List ℕ) (items : List Item) (m : ℕ) (l : Places) → Pattern 16 1 m text items → match_in m (as_seq items) name ≡ Some l → Spanning m (length name) l

-- group k runs from the place of its opening mark to that of its closing mark
pub record Group (p : Seq) (ts : List ℕ) (l : Places) (k : ℕ) : Type 0 where
  pub from : ℕ
  pub to : ℕ
  pub opened : Stands (opening k) p ts from
  pub closed : Stands (closing k) p ts to
  pub is : get_or l k None ≡ Some (from, to)

abbrev pub GroupsRun : Type 0
GroupsRun =
    (text name ts : List ℕ) (items : List Item) (m k : ℕ) → Pattern 16 1 m text items → Way (as_seq items) name ts → 1 ≤ k → k < m → Group (as_seq items) ts (placed ts (as_seq items) 0 (blank m (length name))) k

-- the group count of a text, and its match with a name
abbrev pub count_in : Got → Option ℕ
count_in None = None
count_in (Some p) = Some p.1

abbrev pub match_by : Got → List ℕ → Option Places
match_by None name = None
match_by (Some p) name = match_in p.1 (as_seq p.0) name

-- on a way a mark stands at one place
abbrev pub MarksOnce : Type 0
MarksOnce = (text ts : List ℕ) (items : List Item) (m a b : ℕ) (x : Mark) → Pattern 16 1 m text items → Stands x (as_seq items) ts a → Stands x (as_seq items) ts b → a ≡ b
