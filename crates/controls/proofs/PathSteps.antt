-- One number more of a path.
use Rattle.std.proofs.Common.{◌≡◌, ℕ, zero, suc, ◌+◌, ◌-◌, ◌<◌, ◌≤◌, Bool, true, false, eqb, List, [], ◌∷◌, length, take, drop, Ok, Err, Result, sym, refl, ap, ◌∙◌, ⊎_elim, arith}
use Rattle.std.proofs.lemmas.List.{take_all, length-take-le}
use Rattle.std.proofs.lemmas.Bool.Decides.{nat_tests}
use Rattle.std.proofs.str.Laws.{order}
use Rattle.refusal.specs.declared.error.FormatterError.TheVariants.{TooManyChildren}
use Rattle.grammar.specs.declared.defns.ChildIndex.{ChildIndex}
use Rattle.grammar.specs.Marks.{up_to}
use Rattle.grammar.specs.Paths.{index_at, on_first, split_on, steps_from}
use Rattle.grammar.specs.Results.{on_ok, refusal, Fault}
use Rattle.grammar.proofs.PathsRead.{some_part}

pub up_to_le : (a : ℕ) (xs : List ℕ) → up_to a xs ≤ length xs
up_to_le a [] = omega arith
up_to_le a (c ∷ cs) = grind (arith, nat_tests, up_to_le a cs)

pub split_last : (a : ℕ) (xs : List ℕ) → up_to a xs ≡ length xs → split_on a xs ≡ xs ∷ []
split_last a [] h = refl
split_last a (c ∷ cs) h =
    let no-mark : eqb c a ≡ false = grind (arith, nat_tests) in
    rw no-mark (ap (on_first c) (split_last a cs (grind (arith, nat_tests))))

pub split_more : (a : ℕ) (xs : List ℕ) → up_to a xs < length xs → split_on a xs ≡ take (up_to a xs) xs ∷ split_on a (drop (suc (up_to a xs)) xs)
split_more a [] h = absurd (omega arith)
split_more a (c ∷ cs) h = go (split_more a cs) (eqb c a) refl
  where
    go : (up_to a cs < length cs → split_on a cs ≡ take (up_to a cs) cs ∷ split_on a (drop (suc (up_to a cs)) cs)) → (b : Bool) → eqb c a ≡ b → split_on a (c ∷ cs) ≡ take (up_to a (c ∷ cs)) (c ∷ cs) ∷ split_on a (drop (suc (up_to a (c ∷ cs))) (c ∷ cs))
    go ih true e = rw e
    go ih false e = rw e (ap (on_first c) (ih (grind (arith, nat_tests))))

-- ---- n numbers may come, of which the first stands first in these bytes, at `at`
abbrev pub ahead : ℕ → ℕ → ℕ → ℕ → List ℕ → Result ChildIndex Fault
ahead start whole zero at cs = refusal TooManyChildren start whole
ahead start whole (suc left) at cs = on_ok (steps_from start whole left at (split_on 58 cs)) (λ p. Ok p.2)

kept : (s n : ℕ) (r : Result ChildIndex Fault) → on_ok {A = ℕ × ℕ × ChildIndex} (on_ok r (λ z. Ok (s, n, z))) (λ p. Ok p.2) ≡ on_ok r (λ z. Ok z)
kept s n (Ok z) = refl
kept s n (Err e) = refl

through : (r : Result ChildIndex Fault) (m : Result (ℕ × ℕ × ChildIndex) Fault) → on_ok (on_ok r (λ _. m)) (λ p. Ok p.2) ≡ on_ok r (λ _. on_ok m (λ p. Ok p.2))
through (Ok z) m = refl
through (Err e) m = refl

module _ (start whole at : ℕ) (cs : List ℕ) where
  abbrev u : ℕ
  u = up_to 58 cs

  abbrev Read : Result ChildIndex Fault
  Read = index_at at (take u cs)

  pub last : (left : ℕ) → u ≡ length cs → ahead start whole (suc left) at cs ≡ on_ok Read (λ z. Ok z)
  last left h = rw (split_last 58 cs h, h, take_all (length cs) cs (omega arith)) (kept start (at - start) (index_at at cs))

  parted : u < length cs → split_on 58 cs ≡ take u cs ∷ split_on 58 (drop (u + 1) cs)
  parted h = let one : suc u ≡ u + 1 = omega arith in split_more 58 cs h ∙ rw one refl

  pub further : (left : ℕ) → u < length cs → ahead start whole (suc left) at cs ≡ on_ok Read (λ _. ahead start whole left (at + (u + 1)) (drop (u + 1) cs))
  further zero h =
      let p = some_part 58 (drop (u + 1) cs) in
      rw (parted h, p.2) (through Read (refusal TooManyChildren start whole))
  further (suc left) h =
      let p = some_part 58 (drop (u + 1) cs) in
      let long : length (take u cs) ≡ u = length-take-le u cs (omega arith) in
      let back : suc left - 1 ≡ left = omega arith in
      let more : eqb (suc left) 0 ≡ false = grind (arith, nat_tests) in
      let behind = steps_from start whole left (at + (u + 1)) (p.0 ∷ p.1) in
      let step : ahead start whole (suc (suc left)) at cs ≡ on_ok (on_ok Read (λ _. behind)) (λ q. Ok q.2) = rw (parted h, p.2, long, back, more) refl in
      step ∙ through Read behind ∙ ap (λ ps. on_ok Read (λ _. on_ok (steps_from start whole left (at + (u + 1)) ps) (λ q. Ok q.2))) (sym p.2)

-- the number that stands first is refused, is the last, or has more behind it
module _ (start whole n at : ℕ) (cs : List ℕ) where
  pub path_stops : (e : Fault) → 0 < n → index_at at (take (up_to 58 cs) cs) ≡ Err e → ahead start whole n at cs ≡ Err e
  path_stops e h r = go n h
    where
      go : (n : ℕ) → 0 < n → ahead start whole n at cs ≡ Err e
      go zero h = absurd (omega arith)
      go (suc left) h = ⊎_elim (λ less. further start whole at cs left less ∙ rw r refl) (λ all. last start whole at cs left (omega (arith, up_to_le 58 cs)) ∙ rw r refl) (order (up_to 58 cs) (length cs))

  pub path_ends : (v : ChildIndex) → 0 < n → index_at at (take (up_to 58 cs) cs) ≡ Ok v → up_to 58 cs ≡ length cs → ahead start whole n at cs ≡ Ok v
  path_ends v h r e = go n h
    where
      go : (n : ℕ) → 0 < n → ahead start whole n at cs ≡ Ok v
      go zero h = absurd (omega arith)
      go (suc left) h = last start whole at cs left e ∙ rw r refl

  pub path_goes : (v : ChildIndex) (m : ℕ) → n ≡ suc m → index_at at (take (up_to 58 cs) cs) ≡ Ok v → up_to 58 cs < length cs → ahead start whole n at cs ≡ ahead start whole m (at + (up_to 58 cs + 1)) (drop (up_to 58 cs + 1) cs)
  path_goes v m h r e = rw h (further start whole at cs m e ∙ rw r refl)
