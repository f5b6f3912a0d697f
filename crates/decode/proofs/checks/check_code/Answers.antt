use Rattle.std.proofs.Common.{sym, refl, ◌∙◌}
use Rattle.decode.proofs.Firsts.{accepted-code, every_code}
use Rattle.std.proofs.lemmas.Bool.{false≢true}
use Rattle.decode.proofs.checks.check_code.Goals as goal

pub returns-then-is_code-clause-exactly : goal.returns-then-is_code-clause-exactly
returns-then-is_code-clause-exactly c = ((λ h. accepted-code c.args.code.now (sym c.if-is_code.ensures)), λ h. refl)

pub returns-else-is_code-clause-exactly : goal.returns-else-is_code-clause-exactly
returns-else-is_code-clause-exactly c = ((λ h. absurd (false≢true h)), λ h. c.if-is_code.ensures ∙ every_code c.args.code.now h.0 h.1)
