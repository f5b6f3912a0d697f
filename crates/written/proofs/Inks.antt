-- Bytes written one behind the other.
use Rattle.std.proofs.Common.{◌≡◌, ℕ, Bool, true, false, cond, List, [], ◌∷◌, ◌++◌, sym, refl, ap, ◌∙◌, append_assoc, subst}
use Rattle.grammar.specs.declared.defns.ChildIndex.{ChildIndex}
use Rattle.wire.specs.declared.commands.Command.{Command}
use Rattle.wire.specs.declared.commands.Command.TheVariants.{Range}
use Rattle.written.specs.Spelled.{opened, indexed, powered, spelled}
use Rattle.written.specs.Pens.{State, ink, inks, held, Writes}
use Rattle.written.specs.declared.pen.Pen.{Pen}

pub inks_append : (u v : List ℕ) (s : State) → inks (u ++ v) s ≡ inks v (inks u s)
inks_append [] v s = refl
inks_append (b ∷ u) v s = inks_append u v (ink b s)

-- one list of bytes behind another
pub then : {u v : List ℕ} {a b c : Pen} → Writes u a b → Writes v b c → Writes (u ++ v) a c
then {u} {v} {a} e f = record { wrote = f.wrote ∙ ap (inks v) e.wrote ∙ sym (inks_append u v (held a)); same = f.same ∙ e.same }

-- the second list where t does not hold
pub otherwise : {w : List ℕ} {a b : Pen} (t : Bool) (v : List ℕ) → t ≡ false → Writes w a b → Writes (cond t v w) a b
otherwise {w} {a} {b} t v h e = subst (λ t. Writes (cond t v w) a b) (sym h) e

-- the first where it holds
pub when : {v : List ℕ} {a b : Pen} (t : Bool) (w : List ℕ) → t ≡ true → Writes v a b → Writes (cond t v w) a b
when {v} {a} {b} t w h e = subst (λ t. Writes (cond t v w) a b) (sym h) e

-- what is written for a range, and its powers
pub ranged : {x y z : Pen} (n w : Bool) (f t : ChildIndex) (l a b r : ℕ) (ks : List Command) → Writes (opened w 40 ++ (indexed f ++ (46 ∷ 46 ∷ indexed t))) x y → Writes (powered l a b r) y z → Writes (spelled n w (Range f t l a b r) ks) x z
ranged {x} {y} {z} n w f t l a b r ks e g =
    subst (λ u. Writes u x z) (append_assoc (opened w 40) (indexed f ++ (46 ∷ 46 ∷ indexed t)) (powered l a b r) ∙ ap (λ u. opened w 40 ++ u) (append_assoc (indexed f) (46 ∷ 46 ∷ indexed t) (powered l a b r))) (then e g)
