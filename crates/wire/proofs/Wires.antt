-- The commands of a code, from the readings whose code it is.
use Rattle.std.proofs.Common.{◌≡◌, ℕ, ◌-◌, List, ◌∷◌, Some, refl, ap}
use Rattle.codes.proofs.Words.{words, one_byte, indices, captures}
use Rattle.codes.specs.Code.{word}
use Rattle.codes.specs.Decode.{Got, on_some}
use Rattle.grammar.specs.Readings.{Byte as IsByte, Power as IsPower, Index, Capture as IsCapture}
use Rattle.wire.specs.Commands.{first, index_of}
use Rattle.wire.specs.Reading.{placed}
use Rattle.wire.specs.declared.commands.Command.TheVariants.{End, Power, Byte, Step, Child, Range, Capture}
use Rattle.wire.specs.Ahead.{headed, due}

pub due_end : (cs : List ℕ) → due 0 (0 ∷ cs) ≡ End ∷ due 0 cs
unfolding due
due_end cs = refl

pub due_byte : (b : ℕ) (cs : List ℕ) → IsByte b → due 0 (2 ∷ b ∷ cs) ≡ Byte b ∷ due 0 cs
unfolding due
due_byte b cs h = ap (λ (o : Got ℕ). headed (placed 2 (on_some (first o) (λ b. Some (Byte b)))) (λ n. due (n - 1) (b ∷ cs))) (one_byte.back b cs h)

pub due-step : (i : ℕ) (cs : List ℕ) → Index i → due 0 (3 ∷ word i cs) ≡ Step (index_of i) ∷ due 0 cs
unfolding due
due-step i cs h = ap (λ (o : Got ℕ). headed (placed 5 (on_some (on_some o (λ p. Some (index_of p.0))) (λ i. Some (Step i)))) (λ n. due (n - 1) (word i cs))) (indices.back i cs h)

pub due_capture : (k : ℕ) (cs : List ℕ) → IsCapture k → due 0 (6 ∷ word k cs) ≡ Capture k ∷ due 0 cs
unfolding due
due_capture k cs h = ap (λ (o : Got ℕ). headed (placed 5 (on_some (first o) (λ n. Some (Capture n)))) (λ n. due (n - 1) (word k cs))) (captures.back k cs h)

pub due-power : (l r : ℕ) (cs : List ℕ) → IsPower l → IsPower r → due 0 (1 ∷ word l (word r cs)) ≡ Power l r ∷ due 0 cs
unfolding due
due-power l r cs h k =
    λ j. headed (placed 9 (on_some (first (words.back l (word r cs) h j)) (λ l. on_some (first (words.back r cs k j)) (λ r. Some (Power l r))))) (λ n. due (n - 1) (word l (word r cs)))

pub due_child : (i l r : ℕ) (cs : List ℕ) → Index i → IsPower l → IsPower r → due 0 (4 ∷ word i (word l (word r cs))) ≡ Child (index_of i) l r ∷ due 0 cs
unfolding due
due_child i l r cs x h k =
    λ j. headed (placed 13 (on_some (on_some (indices.back i (word l (word r cs)) x j) (λ p. Some (index_of p.0))) (λ i. on_some (first (words.back l (word r cs) h j)) (λ l. on_some (first (words.back r cs k j)) (λ r. Some (Child i l r)))))) (λ n. due (n - 1) (word i (word l (word r cs))))

pub due_range : (f t l a b r : ℕ) (cs : List ℕ) → Index f → Index t → IsPower l → IsPower a → IsPower b → IsPower r
    → due 0 (5 ∷ word f (word t (word l (word a (word b (word r cs)))))) ≡ Range (index_of f) (index_of t) l a b r ∷ due 0 cs
unfolding due
due_range f t l a b r cs hf ht hl ha hb hr =
    λ j. headed (placed 25
    (on_some (on_some (indices.back f (word t (word l (word a (word b (word r cs))))) hf j) (λ p. Some (index_of p.0))) (λ f.
    on_some (on_some (indices.back t (word l (word a (word b (word r cs)))) ht j) (λ p. Some (index_of p.0))) (λ t.
    on_some (first (words.back l (word a (word b (word r cs))) hl j)) (λ l.
    on_some (first (words.back a (word b (word r cs)) ha j)) (λ a.
    on_some (first (words.back b (word r cs) hb j)) (λ b.
    on_some (first (words.back r cs hr j)) (λ r. Some (Range f t l a b r)))))))))
    (λ n. due (n - 1) (word f (word t (word l (word a (word b (word r cs)))))))
