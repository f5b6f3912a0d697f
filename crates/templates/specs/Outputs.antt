-- The pieces of a text, one after the other.
use Rattle.std.specs.Prelude.{ℕ, zero, suc, ◌+◌, List, [], ◌∷◌, length, drop}
use Rattle.grammar.specs.Results.{on_some}
use Rattle.grammar.specs.Shapes.{Shape}
use Rattle.templates.specs.Views.{output_at}
use Rattle.templates.specs.declared.walk.Outputs.{Outputs}
use Rattle.templates.specs.declared.defns_const.FormatterConst.{FormatterConst}

-- the first n pieces of these bytes, which stand at `place`, or all where there are fewer
abbrev pub first_outputs : ℕ → ℕ → List ℕ → List Shape
first_outputs zero place cs = []
first_outputs (suc n) place cs = on_some (output_at place cs) [] (λ p. p.0 ∷ first_outputs n (place + p.1) (drop p.1 cs))

-- the pieces of a text from a place on, of which there are no more than bytes
abbrev pub outputs_from : ℕ → List ℕ → List Shape
outputs_from place text = first_outputs (length text) place (drop place text)

-- the pieces that are still to come
abbrev pub outputs_left : Outputs → List Shape
outputs_left o = outputs_from o.place o.text.now

-- the pieces of a template
abbrev pub outputs_of : FormatterConst → List Shape
outputs_of f = outputs_from f.start f.text.now
