-- All that is promised over whole runs.
use Rattle.std.proofs.Common.{◌≡◌, ℕ, List, sym, ap, ◌∙◌}
use Rattle.engine.specs.Rules.{Rule}
use Rattle.lines.proofs.Alike.{alike_holds}
use Rattle.register.specs.Contents.{contents_of, chosen_in}
use Rattle.register.specs.Laws.{PrintAlike, Promises, Reached}
use Rattle.register.specs.Register.{Register, chosen}
use Rattle.register.proofs.Codes.{equal_codes, none-begins, written_again}
use Rattle.register.proofs.Listed.{reached-listed, contents_chosen}
use Rattle.register.proofs.Outcome.{one-outcome}

-- registers that give the same contents choose the same
alike_chosen : (rule : Rule) (g h : Register) → Reached g → Reached h → contents_of g ≡ contents_of h → (name : List ℕ) (n : ℕ) → chosen rule g name n ≡ chosen rule h name n
alike_chosen rule g h a b e name n =
    ap (λ f. f name n) (sym (contents_chosen rule g (reached-listed g a)) ∙ ap (chosen_in rule) e ∙ contents_chosen rule h (reached-listed h b))

pub print_alike : PrintAlike
print_alike rule g h m n a b e s t room = (alike_holds.everywhere (chosen rule g) (chosen rule h) m n t s (alike_chosen rule g h a b e)).prints room

pub promises : Promises
promises = record { outcome = one-outcome; codes = equal_codes; apart = none-begins; again = written_again; alike = print_alike }
