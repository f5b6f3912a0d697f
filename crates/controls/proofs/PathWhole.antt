-- One number more of a path, in the whole that is read: its place, the length of its steps and its index.
use Rattle.std.proofs.Common.{◌≡◌, ℕ, suc, ◌+◌, ◌-◌, ◌<◌, ◌≤◌, false, cond, eqb, List, ◌∷◌, length, take, drop, Ok, Err, Result, ap, ◌∙◌, ⊎_elim, arith, length-drop}
use Rattle.std.proofs.str.Laws.{order}
use Rattle.std.proofs.lemmas.List.{take_all, drop-drop, length-take-le}
use Rattle.std.proofs.lemmas.Bool.Decides.{nat_tests}
use Rattle.refusal.specs.declared.error.FormatterError.TheVariants.{TooManyChildren}
use Rattle.grammar.specs.declared.defns.ChildIndex.{ChildIndex}
use Rattle.grammar.specs.Marks.{up_to}
use Rattle.grammar.specs.Paths.{index_at, split_on, steps_from}
use Rattle.grammar.specs.Results.{on_ok, refusal, Fault}
use Rattle.grammar.proofs.PathsRead.{some_part}
use Rattle.controls.proofs.PathSteps.{up_to_le, split_last, split_more}

-- the steps from the byte f of xs on, where the next `:` or the end is at e
module _ (place left f e : ℕ) (xs : List ℕ) (end : e ≡ f + up_to 58 (drop f xs)) (some : 1 ≤ f) (fits : f ≤ length xs) where
  abbrev Here : Result (ℕ × ℕ × ChildIndex) Fault
  Here = steps_from (place + 1) (length xs - 1) left (place + f) (split_on 58 (drop f xs))

  abbrev Read : Result ChildIndex Fault
  Read = index_at (place + f) (take (e - f) (drop f xs))

  by_u : e - f ≡ up_to 58 (drop f xs)
  by_u = omega arith

  last : e ≡ length xs → Here ≡ on_ok Read (λ z. Ok (place + 1, (place + f) - (place + 1), z))
  last h =
      let u : up_to 58 (drop f xs) ≡ length (drop f xs) = simp length-drop (omega arith) in
      let le : length (drop f xs) ≤ e - f = simp length-drop (omega arith) in
      rw (split_last 58 (drop f xs) u, take_all (e - f) (drop f xs) le)

  further : e < length xs → Here ≡ on_ok Read (λ _. cond (eqb left 0) (refusal TooManyChildren (place + 1) (length xs - 1)) (steps_from (place + 1) (length xs - 1) (left - 1) (place + (e + 1)) (split_on 58 (drop (e + 1) xs))))
  further h =
      let u : up_to 58 (drop f xs) < length (drop f xs) = simp length-drop (omega arith) in
      let next : drop (suc (up_to 58 (drop f xs))) (drop f xs) ≡ drop (e + 1) xs = drop-drop (suc (up_to 58 (drop f xs))) f xs ∙ ap (λ n. drop n xs) (omega arith) in
      let long : length (take (up_to 58 (drop f xs)) (drop f xs)) ≡ up_to 58 (drop f xs) = length-take-le _ _ (omega arith) in
      let p = some_part 58 (drop (e + 1) xs) in
      let at : place + f + (length (take (up_to 58 (drop f xs)) (drop f xs)) + 1) ≡ place + (e + 1) = omega arith in
      ap (steps_from (place + 1) (length xs - 1) left (place + f)) (split_more 58 (drop f xs) u ∙ ap (λ l. take (up_to 58 (drop f xs)) (drop f xs) ∷ split_on 58 l) next ∙ ap (λ l. take (up_to 58 (drop f xs)) (drop f xs) ∷ l) p.2)
      ∙ rw (by_u, at, p.2)

  pub fails : (x : Fault) → Read ≡ Err x → Here ≡ Err x
  fails x r = ⊎_elim (λ h. further h ∙ rw r) (λ h. last (omega (arith, up_to_le 58 (drop f xs), length-drop f xs)) ∙ rw r) (order e (length xs))

  pub ends : (v : ChildIndex) → Read ≡ Ok v → e ≡ length xs → Here ≡ Ok (place + 1, f - 1, v)
  ends v r h = let at : (place + f) - (place + 1) ≡ f - 1 = omega arith in last h ∙ rw (r, at)

  pub many : (v : ChildIndex) → Read ≡ Ok v → e < length xs → left ≡ 0 → Here ≡ refusal TooManyChildren (place + 1) (length xs - 1)
  many v r h none = further h ∙ rw (r, none)

  pub goes : (v : ChildIndex) → Read ≡ Ok v → e < length xs → (left ≡ 0 → ⊥) → Here ≡ steps_from (place + 1) (length xs - 1) (left - 1) (place + (e + 1)) (split_on 58 (drop (e + 1) xs))
  goes v r h more = let no_zero : eqb left 0 ≡ false = grind (arith, nat_tests) in further h ∙ rw (r, no_zero)
