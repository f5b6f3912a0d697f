-- A reading of commands one by one: how far it has come.
use Rattle.std.specs.Prelude.{ℕ, ◌+◌, ◌-◌, Bool, true, false, cond, not, ◌&&◌, Some, None, Option, ◌==◌, nat_lt}
use Rattle.grammar.specs.Limits.{step_allowance, piece_allowance}
use Rattle.wire.specs.declared.commands.Command.{Command}
use Rattle.wire.specs.declared.commands.Command.TheVariants.{End, Power, Byte, Step, Child, Range, Capture}
use Rattle.decode.specs.declared.walks.Walk.{Walk}

-- w steps wait, t: the last piece is a text, n pieces may still come
abbrev pub come : ℕ → Bool → ℕ → Walk
come w t n = record { waiting = w; text = t; room = n }

abbrev pub start : Walk
start = come 0 false piece_allowance

abbrev pub one_piece : Walk → Bool → Option Walk
one_piece w t = cond (nat_lt 0 w.room) (Some (come 0 t (w.room - 1))) None

-- with one more command: a step waits for its child or range, and no byte or capture stands between
abbrev pub walked : Walk → Command → Option Walk
walked w End = None
walked w (Power l r) = None
walked w (Byte b) = cond (w.waiting == 0) (cond w.text (Some (come 0 true w.room)) (one_piece w true)) None
walked w (Step i) = cond (nat_lt w.waiting step_allowance) (Some (come (w.waiting + 1) false w.room)) None
walked w (Child i l r) = one_piece w false
walked w (Range f t l a b r) = one_piece w false
walked w (Capture n) = cond (w.waiting == 0) (one_piece w false) None

-- a `)` of a text
abbrev pub closing : Command → Bool
closing End = false
closing (Power l r) = false
closing (Byte b) = b == 41
closing (Step i) = false
closing (Child i l r) = false
closing (Range f t l a b r) = false
closing (Capture n) = false

-- with one more command of a separator, behind a `)` of a text if c
abbrev pub walked_inside : Walk → Bool → Command → Option Walk
walked_inside w c End = None
walked_inside w c (Power l r) = None
walked_inside w c (Byte b) = cond (c && b == 36) None (walked w (Byte b))
walked_inside w c (Step i) = cond c None (walked w (Step i))
walked_inside w c (Child i l r) = cond c None (walked w (Child i l r))
walked_inside w c (Range f t l a b r) = None
walked_inside w c (Capture n) = cond c None (walked w (Capture n))

-- a separator may end here: a `$` follows if m
abbrev pub may_end : Walk → Bool → Bool → Bool
may_end w c m = w.waiting == 0 && not (c && m)
