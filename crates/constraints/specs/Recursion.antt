-- Recursion over a window that computes: what a window gives, by what its parts give.
use Rattle.constraints.specs.declared.types.Window.{Window, Literal, During, DuringBound, Truth, Same, Compare, Not', And', Or', Shift', Longer', Row_of-Window, end_of-Window, more_of-Window}
use Rattle.constraints.specs.declared.types.Window.TheOpen.{Window-F}

abbrev mutual
  -- what a window gives, by a step over one level; `nothing` is for a part that is not there, which never comes
  pub window_gives : (A : Type 0) (nothing : A) → (Window-F A → A) → Window → A
  window_gives A nothing step (Literal truth) = step (Window-F.Literal truth)
  window_gives A nothing step (And' _ left _ right) = step (Window-F.And (part_gives A nothing step left) (part_gives A nothing step right))
  window_gives A nothing step (Or' _ left _ right) = step (Window-F.Or (part_gives A nothing step left) (part_gives A nothing step right))
  window_gives A nothing step (Not' _ part) = step (Window-F.Not (part_gives A nothing step part))
  window_gives A nothing step (During kind) = step (Window-F.During kind)
  window_gives A nothing step DuringBound = step Window-F.DuringBound
  window_gives A nothing step (Shift' _ part start end) = step (Window-F.Shift (part_gives A nothing step part) start end)
  window_gives A nothing step (Longer' _ part least) = step (Window-F.Longer (part_gives A nothing step part) least)
  window_gives A nothing step (Truth reading) = step (Window-F.Truth reading)
  window_gives A nothing step (Same resource value equal) = step (Window-F.Same resource value equal)
  window_gives A nothing step (Compare left how right) = step (Window-F.Compare left how right)

  part_gives : (A : Type 0) (nothing : A) → (Window-F A → A) → {m : _} → Row_of-Window m → A
  part_gives A nothing step end_of-Window = nothing
  part_gives A nothing step (more_of-Window part rest) = window_gives A nothing step part
