-- The reading whose code stands first, and what stands behind it.
use Rattle.std.specs.Prelude.{ℕ, zero, suc, ◌+◌, ◌*◌, Bool, cond, ◌&&◌, List, [], ◌∷◌, length, Some, None, Option, ◌==◌, nat_le}
use Rattle.grammar.specs.Readings.{Piece, text, child, capture, repeat, Reading, Separator, Repeat, Template}
use Rattle.codes.specs.Code.{Command, byte, step, point, range, hold}

abbrev pub on_some : {A B : Type 0} → Option A → (A → Option B) → Option B
on_some None f = None
on_some (Some x) f = f x

-- what is read, and what is left
abbrev pub Got : Type 0 → Type 0
Got A = Option (A × List ℕ)

abbrev pub given : {A : Type 0} → Bool → A → List ℕ → Got A
given b x cs = cond b (Some (x, cs)) None

abbrev pub word_at : List ℕ → Got ℕ
word_at [] = None
word_at (a ∷ []) = None
word_at (a ∷ b ∷ []) = None
word_at (a ∷ b ∷ c ∷ []) = None
word_at (a ∷ b ∷ c ∷ d ∷ cs) = given (nat_le a 255 && (nat_le b 255 && (nat_le c 255 && nat_le d 255))) (a * 16777216 + b * 65536 + c * 256 + d) cs

abbrev pub byte_at : List ℕ → Got ℕ
byte_at [] = None
byte_at (b ∷ cs) = given (nat_le b 255) b cs

abbrev pub index_at : List ℕ → Got ℕ
index_at cs = on_some (word_at cs) (λ i. cond (i.0 == 2147483647) None (Some i))

abbrev pub capture_at : List ℕ → Got ℕ
capture_at cs = on_some (word_at cs) (λ n. cond (nat_le n.0 2147483647) (Some n) None)

-- the command that stands behind its number; f reads what a RANGE has
abbrev pub operands : {R : Type 0} → (List ℕ → Got R) → ℕ → List ℕ → Got (Command R)
operands f o cs =
    cond (o == 2) (on_some (byte_at cs) (λ b. Some (byte b.0, b.1)))
    (cond (o == 3) (on_some (index_at cs) (λ i. Some (step i.0, i.1)))
    (cond (o == 4) (on_some (index_at cs) (λ i. on_some (word_at i.1) (λ l. on_some (word_at l.1) (λ r. Some (point i.0 l.0 r.0, r.1)))))
    (cond (o == 5) (on_some (f cs) (λ x. Some (range x.0, x.1)))
    (cond (o == 6) (on_some (capture_at cs) (λ n. Some (hold n.0, n.1))) None))))

-- the commands up to END; at most n of them
abbrev pub run_at : {R : Type 0} → (List ℕ → Got R) → ℕ → List ℕ → Got (List (Command R))
run_at f zero cs = None
run_at f (suc n) [] = None
run_at f (suc n) (o ∷ cs) = cond (o == 0) (Some ([], cs)) (on_some (operands f o cs) (λ k. on_some (run_at f n k.1) (λ ks. Some (k.0 ∷ ks.0, ks.1))))

-- one more byte in front
abbrev pub glue : {R : Type 0} → ℕ → List (Piece R) → List (Piece R)
glue b [] = text b [] ∷ []
glue b (text c cs ∷ ps) = text b (c ∷ cs) ∷ ps
glue b (child s i l r ∷ ps) = text b [] ∷ child s i l r ∷ ps
glue b (capture n ∷ ps) = text b [] ∷ capture n ∷ ps
glue b (repeat s x ∷ ps) = text b [] ∷ repeat s x ∷ ps

-- one more step in front
abbrev pub stepped : {R : Type 0} → ℕ → List (Piece R) → Option (List (Piece R))
stepped y [] = None
stepped y (text b bs ∷ ps) = None
stepped y (child s i l r ∷ ps) = Some (child (y ∷ s) i l r ∷ ps)
stepped y (capture n ∷ ps) = None
stepped y (repeat s x ∷ ps) = Some (repeat (y ∷ s) x ∷ ps)

abbrev pub put : {R : Type 0} → Command R → List (Piece R) → Option (List (Piece R))
put (byte b) ps = Some (glue b ps)
put (step i) ps = stepped i ps
put (point i l r) ps = Some (child [] i l r ∷ ps)
put (range x) ps = Some (repeat [] x ∷ ps)
put (hold n) ps = Some (capture n ∷ ps)

abbrev pub group : {R : Type 0} → List (Command R) → Option (List (Piece R))
group [] = Some []
group (k ∷ ks) = on_some (group ks) (put k)

abbrev pub body_at : {R : Type 0} → (List ℕ → Got R) → ℕ → ℕ → List ℕ → Got (Reading R)
body_at f l r cs = on_some (run_at f (length cs) cs) (λ ks. on_some (group ks.0) (λ ps. Some (record { left = l; right = r; pieces = ps }, ks.1)))

abbrev pub reading_at : {R : Type 0} → (List ℕ → Got R) → List ℕ → Got (Reading R)
reading_at f [] = None
reading_at f (o ∷ cs) = cond (o == 1) (on_some (word_at cs) (λ l. on_some (word_at l.1) (λ r. body_at f l.0 r.0 r.1))) None

abbrev pub nothing : List ℕ → Got ⊥
nothing cs = None

abbrev pub separator_at : List ℕ → Got Separator
separator_at cs = reading_at nothing cs

abbrev pub repeat_at : List ℕ → Got Repeat
repeat_at cs =
    on_some (index_at cs) (λ f. on_some (index_at f.1) (λ t. on_some (word_at t.1) (λ l. on_some (word_at l.1) (λ a. on_some (word_at a.1) (λ b. on_some (word_at b.1) (λ r.
    on_some (separator_at r.1) (λ x. on_some (separator_at x.1) (λ y. on_some (separator_at y.1) (λ z.
    Some (record { from = f.0; to = t.0; left = l.0; middle_left = a.0; middle_right = b.0; right = r.0; before = x.0; between = y.0; behind = z.0 }, z.1))))))))))

abbrev pub template_at : List ℕ → Got Template
template_at cs = reading_at repeat_at cs
