use Rattle.std.proofs.Common.{◌≡◌, ℕ, List, take, is_ok, IfOk, Ok, sym, refl, ap, ◌∙◌, subst}
use Rattle.std.specs.Option.{ok_or}
use Rattle.codes.specs.Calls.{filled, after, encoded}
use Rattle.codes.specs.declared.error.CodeError.TheVariants.{BufferTooShort}
use Rattle.codes.specs.declared.error.EncodeError.{EncodeError}
use Rattle.codes.specs.declared.error.EncodeError.TheVariants.{Code}
use Rattle.encode.proofs.Delivery.{too_long, room_for, refused_so, written_so, delivered_so}
use Rattle.encode.proofs.Readings.{told, coded}
use Rattle.encode.proofs.whole.encode_template.Goals as goal

pub write_to-requires : goal.write_to-requires
write_to-requires c = (told c.args.template.now c.in_ok-read.read c.in_ok-read.ensures.exact).good

pub returns-in_err-size-clause-answer : goal.returns-in_err-size-clause-answer
returns-in_err-size-clause-answer c =
    let t = told c.args.template.now c.in_ok-read.read c.in_ok-read.ensures.exact in
    let f = refused_so c.write_to.result c.in_err-size.field-0.0 (sym c.or.ensures ∙ c.in_err-size.was) c.from_residual-in_err-size.ensures.1 in
    rw (too_long t c.write_to.ensures.room f.0) f.1

pub returns-in_err-size-clause-buffer : goal.returns-in_err-size-clause-buffer
returns-in_err-size-clause-buffer c =
    let t = told c.args.template.now c.in_ok-read.read c.in_ok-read.ensures.exact in
    let f = refused_so c.write_to.result c.in_err-size.field-0.0 (sym c.or.ensures ∙ c.in_err-size.was) c.from_residual-in_err-size.ensures.1 in
    rw (too_long t c.write_to.ensures.room f.0) refl

pub returns-clause-answer : goal.returns-clause-answer
returns-clause-answer c =
    let t = told c.args.template.now c.in_ok-read.read c.in_ok-read.ensures.exact in
    let w = written_so c.write_to.result c.in_ok-size.size (sym c.or.ensures ∙ c.in_ok-size.was) in
    let b : take c.in_ok-size.size c.write_to.new.out ≡ coded c.in_ok-read.read.parts = subst (λ r. IfOk r (λ n. take n c.write_to.new.out ≡ coded c.in_ok-read.read.parts)) w c.write_to.ensures.bytes in
    let e = room_for t c.write_to.ensures.room (ap is_ok w) ∙ ap (λ (l : List ℕ). Ok l) (sym b) in
    c.ok_or.ensures.value ∙ ap (λ o. ok_or o (Code BufferTooShort)) c.deliver.ensures.answer ∙ delivered_so _ _ (Code BufferTooShort) ∙ sym (ap (λ x. filled (Code BufferTooShort) x c.args.out.now) e)

pub returns-clause-buffer : goal.returns-clause-buffer
returns-clause-buffer c =
    let t = told c.args.template.now c.in_ok-read.read c.in_ok-read.ensures.exact in
    let w = written_so c.write_to.result c.in_ok-size.size (sym c.or.ensures ∙ c.in_ok-size.was) in
    let b : take c.in_ok-size.size c.write_to.new.out ≡ coded c.in_ok-read.read.parts = subst (λ r. IfOk r (λ n. take n c.write_to.new.out ≡ coded c.in_ok-read.read.parts)) w c.write_to.ensures.bytes in
    let e = room_for t c.write_to.ensures.room (ap is_ok w) ∙ ap (λ (l : List ℕ). Ok l) (sym b) in
    c.deliver.ensures.buffer ∙ sym (ap (λ x. after x c.args.out.now) e)
