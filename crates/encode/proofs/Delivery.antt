-- What is answered of a code that is written beside the buffer first.
use Rattle.std.proofs.Common.{◌≡◌, ℕ, Bool, true, false, cond, leb, List, ◌++◌, length, Some, None, Ok, Err, Result, is_ok, IsErrAnd, sym, refl, ap, ◌∙◌}
use Rattle.std.proofs.lemmas.Result.{err_from_is_err_and}
use Rattle.std.specs.Option.{ok_or}
use Rattle.std.specs.Result.{result_or}
use Rattle.grammar.proofs.Chains.{refused, same_ok}
use Rattle.codes.specs.Acceptable.{code_limit}
use Rattle.codes.specs.Calls.{encoded}
use Rattle.codes.specs.declared.error.CodeError.TheVariants.{CodeTooLong}
use Rattle.codes.specs.declared.error.EncodeError.{EncodeError}
use Rattle.codes.specs.declared.error.EncodeError.TheVariants.{Code}
use Rattle.pen.specs.declared.writing.Full.{Full}
use Rattle.templates.specs.declared.defns_const.FormatterConst.{FormatterConst}
use Rattle.encode.proofs.Readings.{Told, coded}

-- the code has no room, or has
module _ {cs : List ℕ} {f : FormatterConst} (t : Told cs f) {fits : Bool} (room : fits ≡ leb (length (coded f)) code_limit) where
  pub too_long : fits ≡ false → encoded cs ≡ Err (Code CodeTooLong)
  too_long e = t.encodes ∙ ap (λ b. cond b (Ok (coded f)) (Err (Code CodeTooLong))) (sym room ∙ e)

  pub room_for : fits ≡ true → encoded cs ≡ Ok (coded f)
  room_for e = t.encodes ∙ ap (λ b. cond b (Ok (coded f)) (Err (Code CodeTooLong))) (sym room ∙ e)

-- ---- what is handed on
abbrev too_long_so : EncodeError
too_long_so = Code CodeTooLong

pub refused_so : (w : Result ℕ Full) (e : EncodeError) {r : Result ℕ EncodeError} → result_or w (Err too_long_so) ≡ Err e → IsErrAnd r (λ y. y ≡ e) → (is_ok w ≡ false) × (r ≡ Err too_long_so)
refused_so (Ok x) e {r} h k = refused e _ (sym h)
refused_so (Err y) e {r} h k = let p = err_from_is_err_and r k in (refl, cc)

pub written_so : (w : Result ℕ Full) (n : ℕ) → result_or w (Err too_long_so) ≡ Ok n → w ≡ Ok n
written_so (Ok y) n h = ap (λ (k : ℕ). Ok k) (same_ok y n h)
written_so (Err y) n h = refused too_long_so n h

pub delivered_so : {E : Type 0} (b : Bool) (n : ℕ) (e : E) → ok_or (cond b (Some n) None) e ≡ cond b (Ok n) (Err e)
delivered_so true n e = refl
delivered_so false n e = refl
