-- A worked line: the terms a, b, plus(a, b), times(plus(a, b), a).
use Rattle.std.specs.Prelude.{◌≡◌, ℕ, zero, suc, ◌<◌, ◌≤◌, Bool, true, false, cond, ◌&&◌, List, [], ◌∷◌, length, Some, None, Ok, Err, codes, Result, ◌==◌, slice_index}
use Rattle.std.proofs.Common.{arith}
use Rattle.grammar.specs.Deep.{DeepFault, deep_at}
use Rattle.grammar.specs.Readings.{Template}
use Rattle.terms.specs.Source.{Source, source_of}
use Rattle.lines.specs.Chosen.{Chosen, Choosing, whole}
use Rattle.lines.specs.Cut.{printing}
use Rattle.lines.specs.declared.error.LineError.TheVariants.{OutputFull}

-- a template that was read
abbrev pub read_or : Result Template DeepFault → Template
read_or (Ok r) = r
read_or (Err e) = record { left = 0; right = 0; pieces = [] }

abbrev pub same_bytes : List ℕ → List ℕ → Bool
same_bytes [] [] = true
same_bytes [] (d ∷ ds) = false
same_bytes (c ∷ cs) [] = false
same_bytes (c ∷ cs) (d ∷ ds) = c == d && same_bytes cs ds

abbrev pub shown_by : List ℕ → List ℕ → Chosen
shown_by name text = record { reading = read_or (deep_at text); spans = whole (length name) }

-- sums and products of two, and every other term by its name with its children in brackets
abbrev pub arithmetic : Choosing
arithmetic name count =
    cond (same_bytes name (codes "plus") && count == 2) (shown_by name (codes "$10$$[#0|10]$ + $[#1|11]$$10$"))
    (cond (same_bytes name (codes "times") && count == 2) (shown_by name (codes "$20$$[#0|20]$ * $[#1|21]$$20$"))
    (shown_by name (codes "$-1$${0}$$(#0..-1$(|, |))$$-1$")))

abbrev pub names : ℕ → List ℕ
names zero = codes "a"
names (suc zero) = codes "b"
names (suc (suc zero)) = codes "plus"
names (suc (suc (suc t))) = codes "times"

abbrev pub parts : ℕ → List ℕ
parts zero = []
parts (suc zero) = []
parts (suc (suc zero)) = 0 ∷ 1 ∷ []
parts (suc (suc (suc t))) = 2 ∷ 0 ∷ []

pub short : (t : ℕ) → t < 4 → length (names t) ≤ 255
short zero l = omega arith
short (suc zero) l = omega arith
short (suc (suc zero)) l = omega arith
short (suc (suc (suc t))) l = omega arith

pub below : (t : ℕ) → t < 4 → (i : ℕ) → i < length (parts t) → slice_index (parts t) i < t
below zero l i h = absurd (omega arith)
below (suc zero) l i h = absurd (omega arith)
below (suc (suc zero)) l zero h = omega arith
below (suc (suc zero)) l (suc zero) h = omega arith
below (suc (suc zero)) l (suc (suc i)) h = absurd (omega arith)
below (suc (suc (suc t))) l zero h = omega arith
below (suc (suc (suc t))) l (suc zero) h = omega arith
below (suc (suc (suc t))) l (suc (suc i)) h = absurd (omega arith)

abbrev pub product : Source
product = source_of 4 names parts short below

-- into a buffer that it fills, and into one that is a byte too short
abbrev pub WorkedLine : Type 0
WorkedLine =
    (printing arithmetic product 3 11 ≡ record { bytes = codes "(a + b) * a"; visits = 5; end = None })
    × (printing arithmetic product 3 10 ≡ record { bytes = codes "(a + b) * "; visits = 5; end = Some OutputFull })
