-- Each group has one opening and one closing mark.
use Rattle.std.proofs.Common.{◌≡◌, ℕ, ◌+◌, ◌<◌, ◌≤◌, ◌≢◌, ◌⊎◌, List, [], ◌∷◌, ◌++◌, refl, ap, subst, inl, inr, arith}
use Rattle.std.proofs.str.Laws.{order}
use Rattle.matching.specs.declared.items.Item.{Item}
use Rattle.matching.specs.declared.items.Item.TheVariants.{Take, Open, Close}
use Rattle.matching.specs.Items.{as_seq}
use Rattle.matching.specs.Grammar.{Pattern, none, item, group}
use Rattle.matching.specs.Places.{Mark, opening, closing, Stands, opens_here, closes_here, past_bytes, past_open, past_close, MarksOnce}
use Rattle.matching.proofs.Placing.{Clean, clean_out, rises}

abbrev number : Mark → ℕ
number (opening k) = k
number (closing k) = k

-- the mark is not among the items
abbrev Free : Mark → List Item → Type 0
Free x [] = Unit {0}
Free x (Take s q ∷ is) = Free x is
Free x (Open j ∷ is) = (x ≢ opening j) × Free x is
Free x (Close j ∷ is) = (x ≢ closing j) × Free x is

-- the mark is not among the items twice
abbrev Once : Mark → List Item → Type 0
Once x [] = Unit {0}
Once x (Take s q ∷ is) = Once x is
Once x (Open j ∷ is) = (x ≡ opening j → Free x is) × Once x is
Once x (Close j ∷ is) = (x ≡ closing j → Free x is) × Once x is

free_clean : (x : Mark) (is : List Item) → Clean (number x) is → Free x is
free_clean x [] c = tt
free_clean x (Take s q ∷ is) c = free_clean x is c
free_clean x (Open j ∷ is) c = ((λ e. c.0 (ap number e)), free_clean x is c.1)
free_clean x (Close j ∷ is) c = ((λ e. c.0 (ap number e)), free_clean x is c.1)

free_append : (x : Mark) (is js : List Item) → Free x is → Free x js → Free x (is ++ js)
free_append x [] js f g = g
free_append x (Take s q ∷ is) js f g = free_append x is js f g
free_append x (Open j ∷ is) js f g = (f.0, free_append x is js f.1 g)
free_append x (Close j ∷ is) js f g = (f.0, free_append x is js f.1 g)

abbrev Apart : Mark → List Item → List Item → Type 0
Apart x is js = Free x is ⊎ Free x js

-- what stands in front of js, where the mark may be in one of both
in_front : (x y : Mark) (is js : List Item) → (x ≡ y → Free x is) → (x ≢ y) ⊎ Free x js → x ≡ y → Free x (is ++ js)
in_front x y is js o (inl f) e = absurd (f e)
in_front x y is js o (inr g) e = free_append x is js (o e) g

first_apart : (x y : Mark) (is js : List Item) → ((x ≢ y) × Free x is) ⊎ Free x js → (x ≢ y) ⊎ Free x js
first_apart x y is js (inl f) = inl f.0
first_apart x y is js (inr g) = inr g

rest_apart : (x y : Mark) (is js : List Item) → ((x ≢ y) × Free x is) ⊎ Free x js → Apart x is js
rest_apart x y is js (inl f) = inl f.1
rest_apart x y is js (inr g) = inr g

once_append : (x : Mark) (is js : List Item) → Once x is → Once x js → Apart x is js → Once x (is ++ js)
once_append x [] js o p h = p
once_append x (Take s q ∷ is) js o p h = once_append x is js o p h
once_append x (Open j ∷ is) js o p h = (in_front x (opening j) is js o.0 (first_apart x (opening j) is js h), once_append x is js o.1 p (rest_apart x (opening j) is js h))
once_append x (Close j ∷ is) js o p h = (in_front x (closing j) is js o.0 (first_apart x (closing j) is js h), once_append x is js o.1 p (rest_apart x (closing j) is js h))

not_both : (x : Mark) (n : ℕ) → x ≡ opening n → x ≡ closing n → ⊥
not_both x n e f = cc

pattern_once : {d n m : ℕ} {text : List ℕ} {is : List Item} → Pattern d n m text is → (x : Mark) → Once x is
pattern_once none x = tt
pattern_once (item a o p) x = pattern_once p x
pattern_once (group {n = n} {m = m} {is = is} {js = js} p q) x = ((λ e. opens e), once_append x is (Close n ∷ js) (pattern_once p x) ((λ e. free_clean x js (clean_out q (number x) (inl (low (ap number e))))), pattern_once q x) (apart (order (number x) (n + 1)) (order (number x) m)))
  where
    low : number x ≡ n → number x < m
    low e = omega (arith, rises p)

    opens : x ≡ opening n → Free x (is ++ Close n ∷ js)
    opens e =
        let k : number x ≡ n = ap number e in
        free_append x is (Close n ∷ js) (free_clean x is (clean_out p (number x) (inl (omega arith)))) (not_both x n e, free_clean x js (clean_out q (number x) (inl (low k))))

    apart : (number x < n + 1) ⊎ (n + 1 ≤ number x) → (number x < m) ⊎ (m ≤ number x) → Apart x is (Close n ∷ js)
    apart (inl a) h = inl (free_clean x is (clean_out p (number x) (inl a)))
    apart (inr a) (inr b) = inl (free_clean x is (clean_out p (number x) (inr b)))
    apart (inr a) (inl b) = inr ((λ e. let k : number x ≡ n = ap number e in omega arith), free_clean x js (clean_out q (number x) (inl b)))

-- ---- on a way
absent : (is : List Item) {x : Mark} {ts : List ℕ} {a : ℕ} → Free x is → Stands x (as_seq is) ts a → ⊥
absent [] f s = elim s [ ]
absent (Take s q ∷ is) f (past_bytes w) = absent is f w
absent (Open j ∷ is) f opens_here = f.0 refl
absent (Open j ∷ is) f (past_open w) = absent is f.1 w
absent (Close j ∷ is) f closes_here = f.0 refl
absent (Close j ∷ is) f (past_close w) = absent is f.1 w

moved : (is : List Item) (x y : Mark) → x ≡ y → Free x is → Free y is
moved is x y e f = let P : Mark → Type 0 = λ z. Free z is in subst P e f

once : (is : List Item) {x y : Mark} {ts : List ℕ} {a b : ℕ} → Once x is → x ≡ y → Stands x (as_seq is) ts a → Stands y (as_seq is) ts b → a ≡ b
once [] o e v w = elim v [ ]
once (Take s q ∷ is) o e (past_bytes {t = t} v) (past_bytes w) = ap (λ (n : ℕ). t + n) (once is o e v w)
once (Open j ∷ is) o e opens_here opens_here = refl
once (Open j ∷ is) o e opens_here (past_open w) = absurd (absent is (moved is _ _ e (o.0 refl)) w)
once (Open j ∷ is) o e (past_open v) opens_here = absurd (absent is (o.0 e) v)
once (Open j ∷ is) o e (past_open {t = t} v) (past_open w) = ap (λ (n : ℕ). t + n) (once is o.1 e v w)
once (Close j ∷ is) o e closes_here closes_here = refl
once (Close j ∷ is) o e closes_here (past_close w) = absurd (absent is (moved is _ _ e (o.0 refl)) w)
once (Close j ∷ is) o e (past_close v) closes_here = absurd (absent is (o.0 e) v)
once (Close j ∷ is) o e (past_close {t = t} v) (past_close w) = ap (λ (n : ℕ). t + n) (once is o.1 e v w)

pub marks_once : MarksOnce
marks_once text ts items m a b x p v w = once items (pattern_once p x) refl v w
