-- What is written for the commands of a code, from the first on.
use Rattle.std.specs.Prelude.{ℕ, zero, suc, Bool, true, false, cond, ◌&&◌, ◌||◌, List, [], ◌∷◌, ◌++◌, ◌==◌}
use Rattle.codes.specs.Written.{around, parted}
use Rattle.grammar.specs.Numbers.{numeral, bits}
use Rattle.grammar.specs.declared.defns.ChildIndex.{ChildIndex}
use Rattle.wire.specs.declared.commands.Command.{Command}
use Rattle.wire.specs.declared.commands.Command.TheVariants.{End, Power, Byte, Step, Child, Range, Capture}
use Rattle.wire.specs.Ahead.{is_end, is_range, past}
use Rattle.written.specs.Ahead.{over, is_step, is_text, bare_run, of_first}

-- inside a separator a bar is doubled, and everywhere a `$` of a text
abbrev pub bars : Bool → List ℕ
bars n = cond n (124 ∷ 124 ∷ []) (124 ∷ [])

abbrev pub texted : Bool → ℕ → List ℕ
texted n b = cond (b == 36 || (n && b == 124)) (b ∷ b ∷ []) (b ∷ [])

abbrev pub indexed : ChildIndex → List ℕ
indexed i = numeral (bits i.0)

abbrev pub paired : Bool → ℕ → ℕ → List ℕ
paired n l r = cond (l == 0 && r == 0) [] (bars n ++ (numeral l ++ 44 ∷ numeral r))

abbrev pub powered : ℕ → ℕ → ℕ → ℕ → List ℕ
powered l a b r =
    cond (l == 0 && (a == 0 && (b == 0 && r == 0))) []
    (124 ∷ numeral l ++ (124 ∷ numeral a ++ (44 ∷ numeral b ++ 124 ∷ numeral r)))

-- the bracket that opens a path whose steps stand first
abbrev pub bracket_of : List Command → ℕ
bracket_of [] = 91
bracket_of (k ∷ ks) = cond (is_step k) (bracket_of ks) (cond (is_range k) 40 91)

-- w: the path is open, its steps wait
abbrev pub opened : Bool → ℕ → List ℕ
opened w b = cond w [] (36 ∷ b ∷ 35 ∷ [])

-- n: inside a separator; ks are the commands that follow. Of a range, up to its separators
abbrev pub spelled : Bool → Bool → Command → List Command → List ℕ
spelled n w End ks = []
spelled n w (Power l r) ks = []
spelled n w (Byte b) ks = texted n b
spelled n w (Step i) ks = opened w (bracket_of ks) ++ (indexed i ++ 58 ∷ [])
spelled n w (Child i l r) ks = opened w 91 ++ (indexed i ++ (paired n l r ++ 93 ∷ 36 ∷ []))
spelled n w (Range f t l a b r) ks = opened w 40 ++ (indexed f ++ (46 ∷ 46 ∷ (indexed t ++ powered l a b r)))
spelled n w (Capture k) ks = 36 ∷ 123 ∷ (numeral k ++ 125 ∷ 36 ∷ [])

-- a run in a separator
abbrev pub run_back : Bool → List Command → List ℕ
run_back w [] = []
run_back w (k ∷ ks) = cond (over k) [] (spelled true w k ks ++ run_back (is_step k) ks)

abbrev pub separator_of : List Command → List ℕ
separator_of [] = []
separator_of (End ∷ ks) = []
separator_of (Power l r ∷ ks) = around l r (run_back false ks)
separator_of (Byte b ∷ ks) = []
separator_of (Step i ∷ ks) = []
separator_of (Child i l r ∷ ks) = []
separator_of (Range f t l a b r ∷ ks) = []
separator_of (Capture n ∷ ks) = []

abbrev pub bare_of : List Command → Bool
bare_of [] = false
bare_of (End ∷ ks) = false
bare_of (Power l r ∷ ks) = l == 0 && (r == 0 && bare_run ks)
bare_of (Byte b ∷ ks) = false
bare_of (Step i ∷ ks) = false
bare_of (Child i l r ∷ ks) = false
bare_of (Range f t l a b r ∷ ks) = false
bare_of (Capture n ∷ ks) = false

-- the separator begins with a bar
abbrev pub bar_of : List Command → Bool
bar_of [] = false
bar_of (End ∷ ks) = false
bar_of (Power l r ∷ ks) = l == 0 && of_first (is_text 124) ks
bar_of (Byte b ∷ ks) = false
bar_of (Step i ∷ ks) = false
bar_of (Child i l r ∷ ks) = false
bar_of (Range f t l a b r ∷ ks) = false
bar_of (Capture n ∷ ks) = false

abbrev pub three_of : List Command → List Command → List Command → List ℕ
three_of xs ys zs =
    cond (bare_of xs && bare_of zs) (cond (bare_of ys) [] (36 ∷ separator_of ys))
    (36 ∷ (separator_of xs ++ (124 ∷ (parted (bare_of ys || bar_of ys) (separator_of ys) ++ (124 ∷ parted (bar_of zs) (separator_of zs))))))

-- the separators of a range, which stand behind it
abbrev pub separators_of : List Command → List ℕ
separators_of ks = three_of ks (past ks) (past (past ks))

-- a run that is not in a separator; so many ENDs are passed over first
abbrev pub body_of : ℕ → Bool → List Command → List ℕ
body_of zero w [] = []
body_of (suc n) w [] = []
body_of (suc n) w (k ∷ ks) = cond (is_end k) (body_of n w ks) (body_of (suc n) w ks)
body_of zero w (k ∷ ks) = cond (over k) [] (spelled false w k ks ++ cond (is_range k) (separators_of ks ++ 41 ∷ 36 ∷ body_of 3 false ks) (body_of zero (is_step k) ks))

abbrev pub template_of : List Command → List ℕ
template_of [] = []
template_of (End ∷ ks) = []
template_of (Power l r ∷ ks) = around l r (body_of 0 false ks)
template_of (Byte b ∷ ks) = []
template_of (Step i ∷ ks) = []
template_of (Child i l r ∷ ks) = []
template_of (Range f t l a b r ∷ ks) = []
template_of (Capture n ∷ ks) = []
