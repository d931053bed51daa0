-- Waves whose fuel is what is left of the bound: they tell the frames that steps under the bound give, or that the batch
-- stops by the limit.
use Rattle.std.specs.Prelude.{◌≡◌, ℕ, suc, ◌+◌, ◌≤◌, List, map, Some}
use Rattle.aerie_base.specs.Paths.{child_limit}
use Rattle.aerie_base.specs.declared.models.model.Parts.{Parts}
use Rattle.effect_cells.specs.declared.effects.CellState.{CellState}
use Rattle.run_data.specs.TaskFrames.{Frame}
use Rattle.run_data.specs.declared.jobs.Job.{Job}
use Rattle.run_data.specs.declared.steppers.Wave.TheVariants.{Frames, Spent}
use Rattle.run_data.specs.Batches.{limit, batch, cost_of}
use Rattle.run_data.specs.Waves.{frames_of, wave_of}
use Rattle.run_data.specs.laws.Generations.{PendingStep, beside_frames, generations, pending_of}
use Rattle.run_data.specs.laws.Orders.{EachTwo, AreApart}

-- the frames of a wave by less are those under the bound, and cost no more than the fuel
abbrev pub WaveTellsFrames : Type 0
WaveTellsFrames =
    (model : Parts) (fuel bound : ℕ) (jobs : List Job) (frames : List Frame) → fuel ≤ bound → wave_of model fuel jobs ≡ Frames frames →
    (frames_of model bound jobs ≡ Some frames) × (cost_of frames ≤ fuel)

-- Where some generations of a batch have made these frames and those steps are due next, and their wave by what is left of
-- the bound is spent, the batch stops by the limit.
abbrev pub SpentIsLimit : Type 0
SpentIsLimit =
    (model : Parts) (bound spent fuel : ℕ) (cells : List CellState) (jobs : List (ℕ × Job)) (made : List Frame) (count : ℕ) (dues : List PendingStep) →
    EachTwo AreApart jobs →
    generations model bound (child_limit + 1) (map pending_of jobs) ≡ beside_frames (Some made) (generations model bound (suc count) dues) →
    fuel ≤ bound → bound ≤ spent + cost_of made + fuel →
    wave_of model fuel (map (λ due. due.job) dues) ≡ Spent →
    batch model bound spent cells jobs ≡ limit
