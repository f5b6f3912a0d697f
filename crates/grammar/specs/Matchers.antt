-- What a matcher is, and a definition.
use Rattle.std.specs.Prelude.{ℕ, suc, ◌-◌, ◌*◌, Bool, true, false, cond, ◌&&◌, List, [], ◌∷◌, reverse, length, take, drop, Some, None, Ok, Err, Option, Result, ◌==◌, nat_le}
use Rattle.refusal.specs.Refusals.{joint_formatter, joint_matcher}
use Rattle.refusal.specs.declared.error.EitherError.{EitherError}
use Rattle.refusal.specs.declared.error.EitherError.TheVariants.{InvalidCapture}
use Rattle.refusal.specs.declared.error.FormatterError.TheVariants.{TemplateTooLong}
use Rattle.refusal.specs.declared.error.MatcherError.{MatcherError}
use Rattle.refusal.specs.declared.error.MatcherError.TheVariants.{InvalidChildrenSpec, MatcherTooLong}
use Rattle.refusal.specs.declared.error.ParseError.{ParseError}
use Rattle.grammar.specs.Limits.{matcher_limit, template_limit}
use Rattle.grammar.specs.Marks.{begins, ends}
use Rattle.grammar.specs.Results.{on_ok, on_err, on_some, located, refusal}
use Rattle.grammar.specs.Templates.{Typed, template_at, most_typed}

-- exact or a pattern, its data, and its child count if one is given
pub record Matched : Type 0 where
  pub pattern : Bool
  pub bytes : List ℕ
  pub children : Option ℕ

-- how many ` _` stand first, the bytes being in reverse
abbrev pub blanks_back : List ℕ → ℕ
blanks_back [] = 0
blanks_back (c ∷ []) = 0
blanks_back (c ∷ d ∷ cs) = cond (c == 95 && d == 32) (suc (blanks_back cs)) 0

-- how many ` _` stand at the end
abbrev pub blanks : List ℕ → ℕ
blanks cs = blanks_back (reverse cs)

-- two slashes enclose a pattern
abbrev pub slashed : List ℕ → Bool
slashed cs = nat_le 2 (length cs) && (begins 47 cs && ends 47 cs)

abbrev pub kinded : Option ℕ → List ℕ → Matched
kinded n cs = cond (slashed cs) (record { pattern = true; bytes = take (length cs - 2) (drop 1 cs); children = n }) (record { pattern = false; bytes = cs; children = n })

-- what stands between the brackets of a matcher
abbrev pub bracketed : List ℕ → Matched
bracketed cs = kinded (Some (blanks cs)) (take (length cs - 2 * blanks cs) cs)

abbrev pub matcher_read : List ℕ → Result Matched (ParseError MatcherError)
matcher_read cs =
    cond (begins 40 cs)
    (cond (ends 41 cs) (Ok (bracketed (take (length cs - 2) (drop 1 cs)))) (refusal InvalidChildrenSpec 1 (length cs - 1)))
    (cond (ends 41 cs) (refusal InvalidChildrenSpec 0 (length cs - 1)) (Ok (kinded None cs)))

-- a matcher of any length
abbrev pub matcher_at : List ℕ → Result Matched (ParseError MatcherError)
matcher_at cs = cond (nat_le (length cs) matcher_limit) (matcher_read cs) (refusal MatcherTooLong 0 0)

-- an exact matcher has no captures
abbrev pub joined : ℕ → Matched → Typed → Result (Matched × Typed) (ParseError EitherError)
joined n m t = cond m.pattern (Ok (m, t)) (on_some (most_typed None t.shapes) (Ok (m, t)) (λ k. refusal InvalidCapture 0 n))

-- a matcher with its template
abbrev pub definition_at : List ℕ → List ℕ → Result (Matched × Typed) (ParseError EitherError)
definition_at m t =
    cond (nat_le (length m) matcher_limit)
    (cond (nat_le (length t) template_limit)
    (on_ok (on_err joint_matcher (matcher_read m)) (λ a. on_ok (on_err joint_formatter (template_at t)) (λ b. joined (length m) a b)))
    (Err (joint_formatter (located TemplateTooLong 0 0))))
    (Err (joint_matcher (located MatcherTooLong 0 0)))
