use Rattle.std.proofs.Common.{◌≡◌, ◌-◌, true, length, refl, arith}
use Rattle.std.proofs.lemmas.Bool.Decides.{nat_tests}
use Rattle.grammar.specs.Matchers.{slashed}
use Rattle.matchers.proofs.Ends.{begins_by, ends_by}
use Rattle.matchers.proofs.parse.kind_of.Goals as goal
use Rattle.matchers.proofs.parse.kind_of.Goals.{in_default-via-then-text-lt2, in_default-via-else-text-lt2+in-47+in_default-1, in_default-via-else-text-lt2+in_default-1}

pub returns-in-47 : goal.returns-in-47
returns-in-47 c =
    let b = begins_by 47 c.args.text.now in
    let e = ends_by 47 c.args.text.now in
    let yes : slashed c.args.text.now ≡ true = grind (arith, nat_tests) in
    let two : length c.args.text.now - 1 - 1 ≡ length c.args.text.now - 2 = omega arith in
    rw yes (rw two refl)

pub returns-in_default : goal.returns-in_default
returns-in_default c =
    let b = begins_by 47 c.args.text.now in
    let e = ends_by 47 c.args.text.now in
    elim c.in_default.branch [
      | in_default-via-then-text-lt2 w ↦ grind (arith, nat_tests)
      | in_default-via-else-text-lt2+in-47+in_default-1 w ↦ grind (arith, nat_tests)
      | in_default-via-else-text-lt2+in_default-1 w ↦ grind (arith, nat_tests)
    ]
