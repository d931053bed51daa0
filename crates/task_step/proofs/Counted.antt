-- A wave that is counted at its cost is counted at that of its frames.
use Rattle.std.proofs.Common.{◌≡◌, ℕ, ◌+◌, [], arith}
use Rattle.run_data.specs.declared.steppers.Wave.{Wave}
use Rattle.run_data.specs.declared.steppers.Wave.TheVariants.{Frames, Spent}
use Rattle.run_data.specs.Counts.{unmatched_of_none}
use Rattle.run_data.specs.Waves.{IsFrugal}
use Rattle.task_step.specs.FreshWaves.{IsCostOf}

pub counted : (wave : Wave) (cost before after : ℕ) → IsCostOf wave cost → after ≡ before + cost → IsFrugal wave [] before after
counted (Frames frames) cost before after is rose = omega (arith, is, rose, unmatched_of_none frames)
counted Spent cost before after is rose = tt
