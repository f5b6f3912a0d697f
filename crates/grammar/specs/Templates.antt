-- What a template is, its separators unread.
use Rattle.std.specs.Prelude.{ℕ, zero, suc, ◌+◌, ◌-◌, max, cond, List, [], ◌∷◌, length, take, drop, Some, None, Ok, Option, Result, ◌==◌, nat_le}
use Rattle.refusal.specs.declared.error.ClosingMark.TheVariants.{Dollar}
use Rattle.refusal.specs.declared.error.FormatterError.TheVariants.{MissingControl, TooManyPieces, TemplateTooLong}
use Rattle.grammar.specs.Controls.{control_at}
use Rattle.grammar.specs.Limits.{piece_allowance, template_limit}
use Rattle.grammar.specs.Marks.{first_byte, last_byte, ends, unpaired}
use Rattle.grammar.specs.Numbers.{power_at}
use Rattle.grammar.specs.Results.{on_ok, on_some, refusal, Fault}
use Rattle.grammar.specs.Shapes.{Shape, typed_text, typed_child, typed_repeat, typed_capture}

-- the power of the prefix, and how many bytes it has
abbrev pub prefix_at : List ℕ → Result (ℕ × ℕ) Fault
prefix_at [] = Ok (0, 0)
prefix_at (c ∷ cs) =
    cond (c == 36)
    (on_some (first_byte 36 cs) (refusal (MissingControl Dollar) 1 (length cs)) (λ at. on_ok (power_at 1 (take at cs)) (λ n. Ok (n, at + 2))))
    (Ok (0, 0))

-- the power of the suffix whose closing `$` stands behind these bytes, and how many bytes stand before it
abbrev pub suffix_before : ℕ → List ℕ → Result (ℕ × ℕ) Fault
suffix_before place cs =
    on_some (last_byte 36 cs) (refusal (MissingControl Dollar) place (length cs)) (λ at. on_ok (power_at (place + (at + 1)) (drop (at + 1) cs)) (λ n. Ok (n, at)))

abbrev pub suffix_at : ℕ → List ℕ → Result (ℕ × ℕ) Fault
suffix_at place cs = cond (ends 36 cs) (suffix_before place (take (length cs - 1) cs)) (Ok (0, length cs))

-- the control that stands first, if one does, and its length
abbrev pub leading : ℕ → List ℕ → Result (Option (Shape × ℕ)) Fault
leading place [] = Ok None
leading place (c ∷ cs) = on_ok (control_at (place + 1) cs) (λ p. Ok (Some (p.0, suc p.1)))

-- the first piece and its length. A control is read before the text in front of it counts.
abbrev pub piece_at : ℕ → List ℕ → Result (Option (Shape × ℕ)) Fault
piece_at place cs =
    on_ok (leading (place + unpaired 36 cs) (drop (unpaired 36 cs) cs)) (λ next.
    cond (unpaired 36 cs == 0) (Ok next) (Ok (Some (typed_text (take (unpaired 36 cs) cs), unpaired 36 cs))))

-- the pieces, of which at most `left` may come
abbrev pub body_at : ℕ → ℕ → List ℕ → Result (List Shape) Fault
body_at zero place cs = on_ok (piece_at place cs) (λ o. on_some o (Ok []) (λ p. refusal TooManyPieces place p.1))
body_at (suc left) place cs =
    on_ok (piece_at place cs) (λ o. on_some o (Ok []) (λ p. on_ok (body_at left (place + p.1) (drop p.1 cs)) (λ ss. Ok (p.0 ∷ ss))))

-- a template as typed: its powers, where its body stands, the body's bytes and its pieces
pub record Typed : Type 0 where
  pub left : ℕ
  pub right : ℕ
  pub place : ℕ
  pub body : List ℕ
  pub shapes : List Shape

abbrev pub bodied : ℕ → ℕ → ℕ → List ℕ → Result Typed Fault
bodied l r place body = on_ok (body_at piece_allowance place body) (λ ss. Ok (record { left = l; right = r; place = place; body = body; shapes = ss }))

abbrev pub template_at : List ℕ → Result Typed Fault
template_at cs =
    on_ok (prefix_at cs) (λ p. on_ok (suffix_at p.1 (drop p.1 cs)) (λ s. bodied p.0 s.0 p.1 (take s.1 (drop p.1 cs))))

-- the greater of a number and the greatest so far
abbrev pub greater : Option ℕ → ℕ → Option ℕ
greater None n = Some n
greater (Some m) n = Some (max m n)

-- the greatest capture of the pieces, m being the greatest before them
abbrev pub most_typed : Option ℕ → List Shape → Option ℕ
most_typed m [] = m
most_typed m (typed_text t ∷ ss) = most_typed m ss
most_typed m (typed_child p i b ∷ ss) = most_typed m ss
most_typed m (typed_repeat x ∷ ss) = most_typed m ss
most_typed m (typed_capture n ∷ ss) = most_typed (greater m n) ss

-- a template of any length
abbrev pub formatter_at : List ℕ → Result Typed Fault
formatter_at cs = cond (nat_le (length cs) template_limit) (template_at cs) (refusal TemplateTooLong 0 0)
