use Rattle.std.proofs.Common.{◌≡◌, ◌+◌, ◌-◌, length}
use Rattle.grammar.specs.Limits.{step_allowance}
use Rattle.controls.specs.Views.{path_index}
use Rattle.controls.proofs.PathSteps.{ahead}
use Rattle.controls.proofs.paths.parse_path.Given as goal

abbrev pub invariant-loop : goal.invariant-loop
invariant-loop l =
    ahead l.numbers.place (length l.numbers.text.now) (step_allowance + 1 - l.counter) l.rest.place l.rest.text.now ≡ path_index l.part.place l.part.text.now
