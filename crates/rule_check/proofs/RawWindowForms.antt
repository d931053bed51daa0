-- What the recursion over a window as it is written gives at each form with parts.
use Rattle.std.proofs.Common.{◌≡◌, ℤ, refl}
use Rattle.rule_grammar.specs.declared.raw.windows.RawWindow.{RawWindow, Not, And, Or, Shift, Longer}
use Rattle.rule_grammar.specs.declared.raw.windows.RawWindow.TheOpen.{RawWindow-F}
use Rattle.rule_grammar.specs.declared.raw.windows.RawWindow.TheBlock.{hidden-the_row-RawWindow-0, shape-the_row-RawWindow-0}
use denote.Hole.Carrier.{hidden}
use Rattle.rule_check.specs.RawWindows.{raw_window_gives}

module _ (A : Type 0) (nothing : A) (step : RawWindow-F A → A) where
  pub gives_not : (part : RawWindow) → raw_window_gives A nothing step (Not part) ≡ step (RawWindow-F.Not (raw_window_gives A nothing step part))
  unfolding hidden-the_row-RawWindow-0 shape-the_row-RawWindow-0 hidden
  gives_not part = refl

  pub gives_and : (left right : RawWindow) → raw_window_gives A nothing step (And left right) ≡ step (RawWindow-F.And (raw_window_gives A nothing step left) (raw_window_gives A nothing step right))
  unfolding hidden-the_row-RawWindow-0 shape-the_row-RawWindow-0 hidden
  gives_and left right = refl

  pub gives_or : (left right : RawWindow) → raw_window_gives A nothing step (Or left right) ≡ step (RawWindow-F.Or (raw_window_gives A nothing step left) (raw_window_gives A nothing step right))
  unfolding hidden-the_row-RawWindow-0 shape-the_row-RawWindow-0 hidden
  gives_or left right = refl

  pub gives_shift : (part : RawWindow) (start end : ℤ) → raw_window_gives A nothing step (Shift part start end) ≡ step (RawWindow-F.Shift (raw_window_gives A nothing step part) start end)
  unfolding hidden-the_row-RawWindow-0 shape-the_row-RawWindow-0 hidden
  gives_shift part start end = refl

  pub gives_longer : (part : RawWindow) (least : ℤ) → raw_window_gives A nothing step (Longer part least) ≡ step (RawWindow-F.Longer (raw_window_gives A nothing step part) least)
  unfolding hidden-the_row-RawWindow-0 shape-the_row-RawWindow-0 hidden
  gives_longer part least = refl
