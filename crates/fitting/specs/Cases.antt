-- Worked cases: what fits a job, and what does not.
use Rattle.std.specs.Prelude.{◌≡◌, ℕ, pos, List, [], ◌∷◌, Some, None, refl}
use Rattle.std.proofs.Common.{subst, arith}
use Rattle.aerie_base.specs.Paths.{root, child_limit}
use Rattle.aerie_base.specs.Ranges.{number_limit}
use Rattle.aerie_base.specs.declared.models.model.Parts.{Parts}
use Rattle.effect_cells.specs.declared.effects.CellState.{CellState}
use Rattle.effect_cells.specs.declared.effects.CellState.TheVariants.{Counter}
use Rattle.effect_cells.specs.declared.effects.Effect.TheVariants as effect
use Rattle.run_data.specs.TaskFrames.{Frame}
use Rattle.run_data.specs.declared.frames.Item.TheVariants as item
use Rattle.run_data.specs.declared.frames.Status.TheVariants.{Done}
use Rattle.run_data.specs.declared.jobs.Job.{Job}
use Rattle.run_data.specs.declared.tasks.BodyId.TheVariants.{Activity}
use Rattle.run_data.specs.laws.FittingFrames.{FitsJob, FitTree}
use Rattle.fitting.specs.Fitting.{AreAmong, Lacks, FitsItem, reach_with}

abbrev seen : List CellState
seen = Counter (pos 4) ∷ Counter (pos 8) ∷ []

-- the task of the directive 1, which begins
abbrev job : Job
job = record { path = root 1; state = record { kind = Activity 0; at = 0; locals = [] }; view = seen }

-- a step of that body to its end, which read some cells
abbrev last_step : List ℕ → List (ℕ × CellState) → Frame
last_step path reads = record { path = path; before = job.state; reads = reads; items = []; status = Done None; cost = 1 }

pub a_read_of_another_state : (model : Parts) → FitsJob model 5 job (last_step (root 1) ((1, Counter (pos 7)) ∷ [])) → ⊥
a_read_of_another_state model fits = (let same = fits.reads.0 in absurd (cc))

pub a_step_of_another_task : (model : Parts) → FitsJob model 5 job (last_step (root 2) []) → ⊥
a_step_of_another_task model fits = (let same = fits.path in absurd (cc))

pub a_step_beyond_the_bound : (model : Parts) → FitsJob model 0 job (last_step (root 1) []) → ⊥
a_step_beyond_the_bound model fits = (let cost = fits.cost in absurd (omega (arith, cost)))

pub nothing_is_found_in_an_empty_batch : (model : Parts) → Lacks (FitTree model 5 0 0 job) []
nothing_is_found_in_an_empty_batch model differ frames fits among = (subst (AreAmong []) fits.are among).0

-- the children behind an effect see it, and count on from the same number
pub an_effect_of_a_maker :
    (model : Parts) → FitsItem model 5 (root 1) [] (item.Emit 0 (effect.Add (pos 1))) 3 seen (Some 3) (Counter (pos 5) ∷ Counter (pos 8) ∷ []) [] []
an_effect_of_a_maker model = (refl, refl, refl)

-- a task that no other made sees no number beyond those of a model
pub a_task_at_the_top : reach_with child_limit ≡ number_limit
a_task_at_the_top = refl
