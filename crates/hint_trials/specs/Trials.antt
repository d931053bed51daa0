-- Which hints take a session further.
use Rattle.std.specs.Prelude.{ℕ, ◌≤◌, List, length}
use Rattle.explain.specs.Hints.{applied}
use Rattle.hint_trials.specs.Reached.{IsFurther, reached}
use Rattle.explain.specs.declared.hint.Hint.{Hint}

-- the hint speaks of bytes that are there, and with it in place the judging comes further than without it
pub record TakesFurther (bytes : List ℕ) (hint : Hint) : Type 0 where
  pub rises : hint.from ≤ hint.to
  pub within : hint.to ≤ length bytes
  pub further : IsFurther (reached bytes) (reached (applied bytes hint))
