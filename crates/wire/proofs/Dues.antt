-- The commands ahead, one by one.
use Rattle.std.proofs.Common.{◌≡◌, ℕ, zero, suc, ◌+◌, ◌-◌, ◌<◌, ◌≤◌, Bool, true, false, cond, eqb, List, [], ◌∷◌, length, drop, Some, None, Option, sym, refl, ap, ◌∙◌, arith, MatchOption}
use Rattle.std.proofs.lemmas.List.{drop-drop}
use Rattle.codes.specs.Decode.{Got, on_some, byte_at, word_at, capture_at}
use Rattle.grammar.proofs.Chains.{same_some, nothing}
use Rattle.wire.proofs.Operands.{byte_behind, word_behind, word_later, index_behind, index_later, capture_behind}
use Rattle.wire.specs.Cursor.{IsTailOf}
use Rattle.wire.specs.Commands.{byte_in, word_in, index_in, capture_in}
use Rattle.wire.specs.Reading.{command_at, command_first, index_first, placed, Takes}
use Rattle.wire.specs.declared.commands.Command.{Command}
use Rattle.wire.specs.Ahead.{headed, due}

due_skip : (k : ℕ) (cs : List ℕ) → due k cs ≡ due 0 (drop k cs)
unfolding due
due_skip zero [] = refl
due_skip (suc k) [] = refl
due_skip zero (c ∷ cs) = refl
due_skip (suc k) (c ∷ cs) = due_skip k cs

-- the command that stands first, and those behind it
due-first : (cs : List ℕ) → due 0 cs ≡ headed (command_at 0 cs) (λ n. due (n - 1) (drop 1 cs))
unfolding due
due-first [] = refl
due-first (c ∷ cs) = refl

-- ---- a command by its operands and by the place behind it
abbrev pub left : List ℕ → Command × ℕ → Got Command
left cs p = Some (p.0, drop p.1 cs)

arm : {X : Type 0} (m : Got X) (a : Option X) (rest : List ℕ) (G : X × List ℕ → Got Command) (F : X → Option Command) (n : ℕ) (L : List ℕ)
    → m ≡ on_some a (λ x. Some (x, rest)) → ((x : X) → G (x, rest) ≡ on_some (placed n (F x)) (left L)) → on_some m G ≡ on_some (placed n (on_some a F)) (left L)
arm m None rest G F n L e t = rw e
arm m (Some x) rest G F n L e t = rw e (t x)

either : (t : Bool) (x y : Got Command) (u v : Option (Command × ℕ)) (L : List ℕ) → x ≡ on_some u (left L) → y ≡ on_some v (left L) → cond t x y ≡ on_some (cond t u v) (left L)
either true x y u v L p q = p
either false x y u v L p q = q

pub by_place : (cs : List ℕ) → command_first cs ≡ on_some (command_at 0 cs) (left cs)
by_place [] = refl
by_place (o ∷ cs) =
    either (eqb o 0) _ _ _ _ (o ∷ cs) refl
    (either (eqb o 1) _ _ _ _ (o ∷ cs)
    (arm (word_at cs) (word_in cs) (drop 4 cs) _ _ 9 (o ∷ cs) (word_behind cs) (λ l. arm (word_at (drop 4 cs)) (word_in (drop 4 cs)) (drop 8 cs) _ _ 9 (o ∷ cs) (word_later 4 cs) (λ r. refl)))
    (either (eqb o 2) _ _ _ _ (o ∷ cs) (arm (byte_at cs) (byte_in cs) (drop 1 cs) _ _ 2 (o ∷ cs) (byte_behind cs) (λ b. refl))
    (either (eqb o 3) _ _ _ _ (o ∷ cs) (arm (index_first cs) (index_in cs) (drop 4 cs) _ _ 5 (o ∷ cs) (index_behind cs) (λ i. refl))
    (either (eqb o 4) _ _ _ _ (o ∷ cs)
    (arm (index_first cs) (index_in cs) (drop 4 cs) _ _ 13 (o ∷ cs) (index_behind cs) (λ i.
    arm (word_at (drop 4 cs)) (word_in (drop 4 cs)) (drop 8 cs) _ _ 13 (o ∷ cs) (word_later 4 cs) (λ l.
    arm (word_at (drop 8 cs)) (word_in (drop 8 cs)) (drop 12 cs) _ _ 13 (o ∷ cs) (word_later 8 cs) (λ r. refl))))
    (either (eqb o 5) _ _ _ _ (o ∷ cs)
    (arm (index_first cs) (index_in cs) (drop 4 cs) _ _ 25 (o ∷ cs) (index_behind cs) (λ f.
    arm (index_first (drop 4 cs)) (index_in (drop 4 cs)) (drop 8 cs) _ _ 25 (o ∷ cs) (index_later 4 cs) (λ t.
    arm (word_at (drop 8 cs)) (word_in (drop 8 cs)) (drop 12 cs) _ _ 25 (o ∷ cs) (word_later 8 cs) (λ l.
    arm (word_at (drop 12 cs)) (word_in (drop 12 cs)) (drop 16 cs) _ _ 25 (o ∷ cs) (word_later 12 cs) (λ a.
    arm (word_at (drop 16 cs)) (word_in (drop 16 cs)) (drop 20 cs) _ _ 25 (o ∷ cs) (word_later 16 cs) (λ b.
    arm (word_at (drop 20 cs)) (word_in (drop 20 cs)) (drop 24 cs) _ _ 25 (o ∷ cs) (word_later 20 cs) (λ r. refl)))))))
    (either (eqb o 6) _ _ _ _ (o ∷ cs) (arm (capture_at cs) (capture_in cs) (drop 4 cs) _ _ 5 (o ∷ cs) (capture_behind cs) (λ n. refl)) refl))))))

-- the place behind a command is further on
abbrev Forth : Option (Command × ℕ) → Type 0
Forth m = MatchOption m (0 ≤ 0) (λ p. 0 < p.1)

placed_forth : (n : ℕ) (o : Option Command) → 0 < n → Forth (placed n o)
placed_forth n None h = omega arith
placed_forth n (Some k) h = h

cond_forth : (t : Bool) (u v : Option (Command × ℕ)) → Forth u → Forth v → Forth (cond t u v)
cond_forth true u v p q = p
cond_forth false u v p q = q

forth : (cs : List ℕ) → Forth (command_at 0 cs)
forth [] = omega arith
forth (o ∷ cs) =
    cond_forth (eqb o 0) _ _ (omega arith)
    (cond_forth (eqb o 1) _ _ (placed_forth 9 _ (omega arith))
    (cond_forth (eqb o 2) _ _ (placed_forth 2 _ (omega arith))
    (cond_forth (eqb o 3) _ _ (placed_forth 5 _ (omega arith))
    (cond_forth (eqb o 4) _ _ (placed_forth 13 _ (omega arith))
    (cond_forth (eqb o 5) _ _ (placed_forth 25 _ (omega arith))
    (cond_forth (eqb o 6) _ _ (placed_forth 5 _ (omega arith)) (omega arith)))))))

-- ---- read so
abbrev pub begun : Got Command → List Command
begun None = []
begun (Some p) = p.0 ∷ due 0 p.1

pub due_by : (cs : List ℕ) → due 0 cs ≡ begun (command_first cs)
due_by cs = due-first cs ∙ go (command_at 0 cs) (forth cs) ∙ ap begun (sym (by_place cs))
  where
    go : (m : Option (Command × ℕ)) → Forth m → headed m (λ n. due (n - 1) (drop 1 cs)) ≡ begun (on_some m (left cs))
    go None h = refl
    go (Some p) h =
        let z : 1 + (p.1 - 1) ≡ p.1 = omega arith in
        ap (λ l. p.0 ∷ l) (due_skip (p.1 - 1) (drop 1 cs) ∙ ap (due 0) (drop-drop (p.1 - 1) 1 cs ∙ ap (λ n. drop n cs) z))

pub steps : (cs rest : List ℕ) (r : Option Command) → Takes command_first cs r rest → MatchOption r (due 0 cs ≡ []) (λ k. due 0 cs ≡ k ∷ due 0 rest)
steps cs rest None h = due_by cs ∙ ap begun h
steps cs rest (Some k) h = due_by cs ∙ ap begun h

-- ---- fewer bytes are left behind a command
shorter : (n : ℕ) (cs : List ℕ) → 0 < n → 0 < length cs → length (drop n cs) < length cs
shorter zero cs h k = absurd (omega arith)
shorter (suc n) [] h k = absurd (omega arith)
shorter (suc n) (c ∷ cs) h k = at n cs
  where
    at : (n : ℕ) (cs : List ℕ) → length (drop n cs) < suc (length cs)
    at zero cs = omega arith
    at (suc n) [] = omega arith
    at (suc n) (c ∷ cs) = omega (arith, at n cs)

pub fewer : (cs r : List ℕ) (k : Command) → command_first cs ≡ Some (k, r) → length r < length cs
fewer [] r k e = nothing (k, r) e
fewer (c ∷ cs) r k e = go (command_at 0 (c ∷ cs)) (forth (c ∷ cs)) (sym (by_place (c ∷ cs)) ∙ e)
  where
    go : (m : Option (Command × ℕ)) → Forth m → on_some m (left (c ∷ cs)) ≡ Some (k, r) → length r < length (c ∷ cs)
    go None h f = nothing (k, r) f
    go (Some p) h f =
        let x : ◌≡◌ {A = Command × List ℕ} (p.0, drop p.1 (c ∷ cs)) (k, r) = same_some _ _ f in
        let y : length (drop p.1 (c ∷ cs)) ≡ length r = ap (λ (t : Command × List ℕ). length t.1) x in
        let s = shorter p.1 (c ∷ cs) h (omega arith) in
        omega arith

-- ---- what is left are bytes from the end
pub tail_itself : (cs : List ℕ) → IsTailOf cs cs
tail_itself cs = (0, refl)

pub tail_of_tail : (r s cs : List ℕ) → IsTailOf r s → IsTailOf s cs → IsTailOf r cs
tail_of_tail r s cs p q = (q.0 + p.0, p.1 ∙ ap (drop p.0) q.1 ∙ drop-drop p.0 q.0 cs)

pub tail_behind : (cs r : List ℕ) (k : Command) → command_first cs ≡ Some (k, r) → IsTailOf r cs
tail_behind cs r k e = go (command_at 0 cs) (sym (by_place cs) ∙ e)
  where
    go : (m : Option (Command × ℕ)) → on_some m (left cs) ≡ Some (k, r) → IsTailOf r cs
    go None f = nothing (k, r) f
    go (Some p) f =
        let x : ◌≡◌ {A = Command × List ℕ} (p.0, drop p.1 cs) (k, r) = same_some _ _ f in
        (p.1, sym (ap (λ (t : Command × List ℕ). t.1) x))
