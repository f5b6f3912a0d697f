-- What readers answer, by the bytes that the answer borrows.
use Rattle.std.specs.Prelude.{◌≡◌, ℕ, Bool, true, false, List, Ok, Err, Result}
use Rattle.controls.specs.declared.defns_const.SubFormatterConst.{SubFormatterConst}
use Rattle.controls.specs.declared.defns_const.SubFormatterConst.TheVariants.{String, Single, Repeat, Capture}
use Rattle.controls.specs.Parts.{reading}
use Rattle.controls.specs.declared.part.Part.{Part}
use Rattle.controls.specs.declared.powers.Powers.{Powers}
use Rattle.controls.specs.declared.powers.Powers.TheVariants.{One, Two}
use Rattle.controls.specs.declared.powers.RepeatPowers.{RepeatPowers}
use Rattle.controls.specs.declared.ranges.ChildRange.{ChildRange}
use Rattle.controls.specs.declared.separators.Separators.{Separators}
use Rattle.grammar.specs.Controls.{Range, Parts}
use Rattle.grammar.specs.Paths.{path_at}
use Rattle.grammar.specs.Powers.{symmetric, Triple}
use Rattle.grammar.specs.Results.{on_ok, Fault}
use Rattle.grammar.specs.declared.defns.BindPowerPair.{BindPowerPair}
use Rattle.grammar.specs.Shapes.{Shape, typed_text, typed_child, typed_repeat, typed_capture}
use Rattle.grammar.specs.declared.defns.ChildIndex.{ChildIndex}

abbrev pub shape : SubFormatterConst → Shape
shape (String t) = typed_text t.now
shape (Single p i b) = typed_child p.now i b
shape (Repeat p f t l m r a b c) = typed_repeat (record {
  path = p.now;
  from = f;
  to = t;
  left = l;
  middle = m;
  right = r;
  left_sep = a.now;
  middle_sep = b.now;
  right_sep = c.now;
})
shape (Capture n) = typed_capture n

abbrev pub seen_shape : Result SubFormatterConst Fault → Result Shape Fault
seen_shape (Ok p) = Ok (shape p)
seen_shape (Err e) = Err e

abbrev pub seen_control : Result (SubFormatterConst × ℕ) Fault → Result (Shape × ℕ) Fault
seen_control (Ok p) = Ok (shape p.0, p.1)
seen_control (Err e) = Err e

-- a range of children as its parts
abbrev pub range_of : ChildRange → Range
range_of r = (r.path.now, r.from, r.to)

abbrev pub seen_range : Result ChildRange Fault → Result Range Fault
seen_range (Ok r) = Ok (range_of r)
seen_range (Err e) = Err e

-- separators as their texts
abbrev pub parts_of : Separators → Parts
parts_of s = (s.left.now, s.middle.now, s.right.now)

abbrev pub seen_parts : Result Separators Fault → Result Parts Fault
seen_parts (Ok s) = Ok (parts_of s)
seen_parts (Err e) = Err e

-- the powers on both sides
abbrev pub pair : Powers → BindPowerPair
pair (One n) = symmetric n
pair (Two b) = b

-- whether two powers are typed, and the pair
abbrev pub powers_of : Powers → Bool × BindPowerPair
powers_of (One n) = (false, symmetric n)
powers_of (Two b) = (true, b)

abbrev pub seen_powers : Result Powers Fault → Result (Bool × BindPowerPair) Fault
seen_powers (Ok p) = Ok (powers_of p)
seen_powers (Err e) = Err e

-- the powers of a repeat as left, middle pair and right
abbrev pub triple_of : RepeatPowers → Triple
triple_of p = (p.left, p.middle, p.right)

abbrev pub seen_triple : Result RepeatPowers Fault → Result Triple Fault
seen_triple (Ok p) = Ok (triple_of p)
seen_triple (Err e) = Err e

-- the front of a repeat as its parts
abbrev pub seen_head : Result (ChildRange × RepeatPowers) Fault → Result (Range × Triple) Fault
seen_head (Ok h) = Ok (range_of h.0, triple_of h.1)
seen_head (Err e) = Err e

-- the index of a path
abbrev pub path_index : ℕ → List ℕ → Result ChildIndex Fault
path_index place cs = on_ok (path_at place cs) (λ p. Ok p.2)

-- what is answered of a part is what f says of its bytes
abbrev pub Reads : (Part → Result SubFormatterConst Fault → Type 0) → (ℕ → List ℕ → Result Shape Fault) → Type 0
Reads answers f = (p : Part) (r : Result SubFormatterConst Fault) → answers p r → seen_shape r ≡ reading f p
