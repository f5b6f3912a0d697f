-- The greatest capture after one more piece.
use Rattle.std.proofs.Common.{◌≡◌, ℕ, [], ◌∷◌, Option, refl}
use Rattle.grammar.specs.Templates.{most_typed}
use Rattle.controls.specs.Views.{shape}
use Rattle.controls.specs.declared.defns_const.SubFormatterConst.{SubFormatterConst}
use Rattle.controls.specs.declared.defns_const.SubFormatterConst.TheVariants.{String, Single, Repeat, Capture}
use Rattle.templates.specs.Views.{greater_of}

pub greater-most : (m : Option ℕ) (p : SubFormatterConst) → greater_of m p ≡ most_typed m (shape p ∷ [])
greater-most m (String t) = refl
greater-most m (Single p i b) = refl
greater-most m (Repeat p f t l c r x y z) = refl
greater-most m (Capture n) = refl
