-- Windows for which a span changes nothing outside of its own times.
use Rattle.std.specs.Prelude.{Bool, true, false, not, ◌&&◌, ◌||◌}
use Rattle.constraints.specs.declared.types.Window.{Window}
use Rattle.constraints.specs.declared.types.Window.TheOpen.{Window-F}
use Rattle.constraints.specs.Recursion.{window_gives}

-- whether the window speaks of the span that a rule is judged for, and whether it does so under no `shift` and no `longer`
abbrev pub marks_step : Window-F (Bool × Bool) → Bool × Bool
marks_step (Window-F.Literal truth) = (false, true)
marks_step (Window-F.And left right) = (left.0 || right.0, left.1 && right.1)
marks_step (Window-F.Or left right) = (left.0 || right.0, left.1 && right.1)
marks_step (Window-F.Not part) = part
marks_step (Window-F.During kind) = (false, true)
marks_step Window-F.DuringBound = (true, true)
marks_step (Window-F.Shift part start end) = (part.0, not part.0)
marks_step (Window-F.Longer part least) = (part.0, not part.0)
marks_step (Window-F.Truth reading) = (false, true)
marks_step (Window-F.Same resource value equal) = (false, true)
marks_step (Window-F.Compare left how right) = (false, true)

unfoldable pub marks : Window → Bool × Bool
marks window = window_gives (Bool × Bool) (false, true) marks_step window

-- whether a span changes nothing outside of its own times
abbrev pub is_local : Window → Bool
is_local window = (marks window).1
