-- A piece of a template as it was typed.
use Rattle.std.specs.Prelude.{ℕ, List}
use Rattle.grammar.specs.declared.defns.BindPowerPair.{BindPowerPair}
use Rattle.grammar.specs.declared.defns.ChildIndex.{ChildIndex}

-- a repeat: its path with the first index, the last index, the powers, and the separators with their bars still doubled
pub record TypedRepeat : Type 0 where
  pub path : List ℕ
  pub from : ChildIndex
  pub to : ChildIndex
  pub left : ℕ
  pub middle : BindPowerPair
  pub right : ℕ
  pub left_sep : List ℕ
  pub middle_sep : List ℕ
  pub right_sep : List ℕ

pub data Shape : Type 0 where
  typed_text : List ℕ → Shape
  typed_child : List ℕ → ChildIndex → BindPowerPair → Shape
  typed_repeat : TypedRepeat → Shape
  typed_capture : ℕ → Shape
