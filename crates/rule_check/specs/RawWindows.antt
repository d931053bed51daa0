-- Recursion over a window as it is written that computes: what a window gives, by what its parts give.
use Rattle.rule_grammar.specs.declared.raw.windows.RawWindow.{RawWindow, Literal, During, Truth, Same, Compare, Not', And', Or', Shift', Longer', Row_of-RawWindow, end_of-RawWindow, more_of-RawWindow}
use Rattle.rule_grammar.specs.declared.raw.windows.RawWindow.TheOpen.{RawWindow-F}

abbrev mutual
  -- what a window gives, by a step over one level; `nothing` is for a part that is not there, which never comes
  pub raw_window_gives : (A : Type 0) (nothing : A) → (RawWindow-F A → A) → RawWindow → A
  raw_window_gives A nothing step (Literal truth) = step (RawWindow-F.Literal truth)
  raw_window_gives A nothing step (And' _ left _ right) = step (RawWindow-F.And (raw_part_gives A nothing step left) (raw_part_gives A nothing step right))
  raw_window_gives A nothing step (Or' _ left _ right) = step (RawWindow-F.Or (raw_part_gives A nothing step left) (raw_part_gives A nothing step right))
  raw_window_gives A nothing step (Not' _ part) = step (RawWindow-F.Not (raw_part_gives A nothing step part))
  raw_window_gives A nothing step (During name) = step (RawWindow-F.During name)
  raw_window_gives A nothing step (Shift' _ part start end) = step (RawWindow-F.Shift (raw_part_gives A nothing step part) start end)
  raw_window_gives A nothing step (Longer' _ part least) = step (RawWindow-F.Longer (raw_part_gives A nothing step part) least)
  raw_window_gives A nothing step (Truth name) = step (RawWindow-F.Truth name)
  raw_window_gives A nothing step (Same resource with_value equal) = step (RawWindow-F.Same resource with_value equal)
  raw_window_gives A nothing step (Compare left how right) = step (RawWindow-F.Compare left how right)

  raw_part_gives : (A : Type 0) (nothing : A) → (RawWindow-F A → A) → {m : _} → Row_of-RawWindow m → A
  raw_part_gives A nothing step end_of-RawWindow = nothing
  raw_part_gives A nothing step (more_of-RawWindow part rest) = raw_window_gives A nothing step part
