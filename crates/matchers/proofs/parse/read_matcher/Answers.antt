use Rattle.std.proofs.Common.{◌≡◌, true, false, arith, length-take, length-drop}
use Rattle.std.proofs.lemmas.Bool.Decides.{nat_tests}
use Rattle.grammar.specs.Marks.{begins, ends}
use Rattle.matchers.proofs.Ends.{begins_by, ends_by}
use Rattle.matchers.proofs.Forms.{read_both, read_closed}
use Rattle.matchers.proofs.parse.read_matcher.Goals as goal
use Rattle.matchers.proofs.parse.read_matcher.Goals.{then-text-lt2+in-41-1, else-text-lt2+in_default+in-41-1, then-text-lt2+in-40-1, else-text-lt2+in-40+in_default-1, in_default-via-then-text-lt1, in_default-via-else-text-lt1+then-text-lt2+in_default-1, in_default-via-else-text-lt1+else-text-lt2+in_default+in_default-text-4}

pub returns-in-40 : goal.returns-in-40
returns-in-40 c =
    let b = begins_by 40 c.args.text.now in
    let e = ends_by 41 c.args.text.now in
    let p : begins 40 c.args.text.now ≡ true = grind (arith, nat_tests) in
    let q : ends 41 c.args.text.now ≡ true = grind (arith, nat_tests) in
    read_both c.args.text.now _ _ _ p q c.without_blanks-count.ensures.count c.without_blanks-count.ensures.rest c.kind_of.ensures

pub returns-in-41 : goal.returns-in-41
returns-in-41 c =
    let b = begins_by 40 c.args.text.now in
    let e = ends_by 41 c.args.text.now in
    elim c.in-41-1.branch [
      | then-text-lt2+in-41-1 w ↦ grind (arith, nat_tests)
      | else-text-lt2+in_default+in-41-1 w ↦
          let p : begins 40 c.args.text.now ≡ false = grind (arith, nat_tests) in
          let q : ends 41 c.args.text.now ≡ true = grind (arith, nat_tests) in
          read_closed c.args.text.now _ _ p q c.new.ensures (simp (length-take, length-drop) (omega arith))
    ]

pub returns-in-40-2 : goal.returns-in-40-2
returns-in-40-2 c =
    let b = begins_by 40 c.args.text.now in
    let e = ends_by 41 c.args.text.now in
    elim c.in-40-2-1.branch [ then-text-lt2+in-40-1 w ↦ grind (arith, nat_tests) | else-text-lt2+in-40+in_default-1 w ↦ grind (arith, nat_tests) ]

pub returns-in_default : goal.returns-in_default
returns-in_default c =
    let b = begins_by 40 c.args.text.now in
    let e = ends_by 41 c.args.text.now in
    elim c.in_default.branch [
      | in_default-via-then-text-lt1 w ↦ grind (arith, nat_tests)
      | in_default-via-else-text-lt1+then-text-lt2+in_default-1 w ↦ grind (arith, nat_tests)
      | in_default-via-else-text-lt1+else-text-lt2+in_default+in_default-text-4 w ↦ grind (arith, nat_tests)
    ]
