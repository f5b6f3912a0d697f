-- The template grammar, as a relation between bytes and readings.
use Rattle.std.specs.Prelude.{◌≡◌, ℕ, false, List, [], ◌∷◌, ◌++◌, ◌≢◌}
use Rattle.grammar.specs.Marks.{begins, ends, closes}
use Rattle.grammar.specs.Numbers.{numeral}
use Rattle.grammar.specs.Readings.{Piece, text, child, capture, repeat, Reading, RepeatOf, Separator, Template, Power, Index, Capture, NoText}

-- a path behind its `#`: each step is a number with `:` behind it, and the index comes last
pub data Path : List ℕ → List ℕ → ℕ → Type 0 where
  last : {i : ℕ} → Index i → Path (numeral i) [] i
  step : {y i : ℕ} {rest s : List ℕ} → Index y → Path rest s i → Path (numeral y ++ 58 ∷ rest) (y ∷ s) i

-- one number for both powers, or two with a comma between them
pub data Pair : List ℕ → ℕ → ℕ → Type 0 where
  one : {n : ℕ} → Power n → Pair (numeral n) n n
  two : {l r : ℕ} → Power l → Power r → Pair (numeral l ++ 44 ∷ numeral r) l r

-- the powers of a child: none, or a pair behind a bar
pub data ChildPowers : List ℕ → ℕ → ℕ → Type 0 where
  untyped : ChildPowers [] 0 0
  typed : {t : List ℕ} {l r : ℕ} → Pair t l r → ChildPowers (124 ∷ t) l r

-- the powers of a repeat: left, the middle's left and right, right
pub data Powers : List ℕ → ℕ → ℕ → ℕ → ℕ → Type 0 where
  none : Powers [] 0 0 0 0
  a : {a : ℕ} → Power a → Powers (124 ∷ numeral a) a a a a
  ab : {a b : ℕ} → Power a → Power b → Powers (124 ∷ numeral a ++ 44 ∷ numeral b) 0 a b 0
  a_b : {a b : ℕ} → Power a → Power b → Powers (124 ∷ numeral a ++ 124 ∷ numeral b) a 0 0 b
  ab_c : {a b c : ℕ} → Power a → Power b → Power c → Powers (124 ∷ numeral a ++ (44 ∷ numeral b ++ 124 ∷ numeral c)) 0 a b c
  a_bc : {a b c : ℕ} → Power a → Power b → Power c → Powers (124 ∷ numeral a ++ (124 ∷ numeral b ++ 44 ∷ numeral c)) a b c 0
  a_b_c : {a b c : ℕ} → Power a → Power b → Power c → Powers (124 ∷ numeral a ++ (124 ∷ numeral b ++ 124 ∷ numeral c)) a b b c
  a_bc_d : {a b c d : ℕ} → Power a → Power b → Power c → Power d → Powers (124 ∷ numeral a ++ (124 ∷ numeral b ++ (44 ∷ numeral c ++ 124 ∷ numeral d))) a b c d

-- pairs `||` are passed over from the left and halved, each other `|` parts: the first part, and those behind it
pub data Parted : List ℕ → List ℕ → List (List ℕ) → Type 0 where
  end : Parted [] [] []
  pair : {t u : List ℕ} {us : List (List ℕ)} → Parted t u us → Parted (124 ∷ 124 ∷ t) (124 ∷ u) us
  part : {t u : List ℕ} {us : List (List ℕ)} → begins 124 t ≡ false → Parted t u us → Parted (124 ∷ t) [] (u ∷ us)
  other : {c : ℕ} {t u : List ℕ} {us : List (List ℕ)} → (c ≢ 124) → Parted t u us → Parted (c ∷ t) (c ∷ u) us

-- the three separators: none written, the middle one alone, or all; S says what a separator reads as, one that is not written being read as empty
pub data Separators {A : Type 0} (S : List ℕ → A → Type 0) : List ℕ → A → A → A → Type 0 where
  unwritten : {x y z : A} → S [] x → S [] y → S [] z → Separators S [] x y z
  single : {t m : List ℕ} {x y z : A} → Parted t m [] → S [] x → S m y → S [] z → Separators S (36 ∷ t) x y z
  triple : {t l m r : List ℕ} {x y z : A} → Parted t l (m ∷ r ∷ []) → S l x → S m y → S r z → Separators S (36 ∷ t) x y z

-- what stands between `$(#` and the first `)$`: a path, `..`, an index, powers and separators
pub record Repeats {A : Type 0} (S : List ℕ → A → Type 0) (t s : List ℕ) (x : RepeatOf A) : Type 0 where
  pub path : List ℕ
  pub powers : List ℕ
  pub separators : List ℕ
  pub is : t ≡ path ++ (46 ∷ 46 ∷ numeral x.to ++ (powers ++ separators))
  pub first : closes t ≡ false
  pub steps : Path path s x.from
  pub index : Index x.to
  pub given : Powers powers x.left x.middle_left x.middle_right x.right
  pub three : Separators S separators x.before x.between x.behind

-- a child, a capture or a repeat, with its marks; Q says what stands in a repeat
pub data Control {R : Type 0} (Q : List ℕ → List ℕ → R → Type 0) : List ℕ → Piece R → Type 0 where
  is_child : {t u s : List ℕ} {i l r : ℕ} → Path t s i → ChildPowers u l r → Control Q (36 ∷ 91 ∷ 35 ∷ (t ++ u) ++ 93 ∷ 36 ∷ []) (child s i l r)
  is_capture : {n : ℕ} → Capture n → Control Q (36 ∷ 123 ∷ numeral n ++ 125 ∷ 36 ∷ []) (capture n)
  is_repeat : {t s : List ℕ} {x : R} → Q t s x → Control Q (36 ∷ 40 ∷ 35 ∷ t ++ 41 ∷ 36 ∷ []) (repeat s x)

-- a text is its bytes with each `$` doubled
pub data Doubled : List ℕ → List ℕ → Type 0 where
  done : Doubled [] []
  mark : {t u : List ℕ} → Doubled t u → Doubled (36 ∷ 36 ∷ t) (36 ∷ u)
  other : {c : ℕ} {t u : List ℕ} → (c ≢ 36) → Doubled t u → Doubled (c ∷ t) (c ∷ u)

-- texts and controls in a row, no two texts adjoining
pub data Body {R : Type 0} (Q : List ℕ → List ℕ → R → Type 0) : List ℕ → List (Piece R) → Type 0 where
  over : Body Q [] []
  control : {c t : List ℕ} {p : Piece R} {ps : List (Piece R)} → Control Q c p → Body Q t ps → Body Q (c ++ t) (p ∷ ps)
  words : {c t : List ℕ} {b : ℕ} {bs : List ℕ} {ps : List (Piece R)} → Doubled c (b ∷ bs) → NoText ps → Body Q t ps → Body Q (c ++ t) (text b bs ∷ ps)

-- `$n$` stands exactly if the first byte is `$`; an absent power is 0
pub data Prefix : List ℕ → ℕ → List ℕ → Type 0 where
  absent : {t : List ℕ} → begins 36 t ≡ false → Prefix t 0 t
  stands : {n : ℕ} {t : List ℕ} → Power n → Prefix (36 ∷ numeral n ++ 36 ∷ t) n t

-- `$n$` stands exactly if the last byte is `$`
pub data Suffix : List ℕ → ℕ → List ℕ → Type 0 where
  absent : {t : List ℕ} → ends 36 t ≡ false → Suffix t 0 t
  stands : {n : ℕ} {t : List ℕ} → Power n → Suffix (t ++ (36 ∷ numeral n ++ 36 ∷ [])) n t

-- prefix, body and suffix
pub record ReadsBy {R : Type 0} (Q : List ℕ → List ℕ → R → Type 0) (t : List ℕ) (r : Reading R) : Type 0 where
  pub rest : List ℕ
  pub body : List ℕ
  pub prefix : Prefix t r.left rest
  pub suffix : Suffix rest r.right body
  pub pieces : Body Q body r.pieces

abbrev pub NoRepeat : List ℕ → List ℕ → ⊥ → Type 0
NoRepeat t s x = ⊥

-- a separator, its bars halved, reads as
abbrev pub ReadsSeparator : List ℕ → Separator → Type 0
ReadsSeparator = ReadsBy NoRepeat

-- a template reads as
abbrev pub Reads : List ℕ → Template → Type 0
Reads = ReadsBy (Repeats ReadsSeparator)
