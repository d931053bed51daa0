-- A wave that was run and is not counted yet.
use Rattle.std.specs.Prelude.{◌≡◌, ℕ}
use Rattle.run_data.specs.declared.steppers.Wave.{Wave}
use Rattle.run_data.specs.declared.steppers.Wave.TheVariants.{Frames, Spent}
use Rattle.run_data.specs.Batches.{cost_of}

-- what its jobs give, and how many statements and tests were run for it
pub record UncountedWave : Type 0 where
  pub wave : Wave
  pub cost : ℕ

-- where frames are given, so many statements and tests were run as these cost together
abbrev pub IsCostOf : Wave → ℕ → Type 0
IsCostOf (Frames frames) cost = cost ≡ cost_of frames
IsCostOf Spent cost = Unit {0}
