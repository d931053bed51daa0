-- A weight that falls with each transition of a simulation, so that it ends.
use Rattle.std.specs.Prelude.{◌≡◌, ℕ, ◌+◌, ◌-◌, ◌*◌, ◌<◌, Bool, true, false, List, [], ◌∷◌}
use Rattle.aerie_base.specs.declared.models.model.Parts.{Parts}
use Rattle.aerie_base.specs.declared.plans.Plan.{Plan}
use Rattle.run_data.specs.declared.jobs.Job.{Job}
use Rattle.run_data.specs.Endings.{is_open}
use Rattle.run_data.specs.Fresh.{SimulationState, start, next_state, IsReached}
use Rattle.run_data.specs.Tasks.{Table, ready_jobs}
use Rattle.run_data.specs.Transitions.{more}
use Rattle.run_data.specs.laws.Ending.{enough_transitions}

abbrev pub one_if : Bool → ℕ
one_if true = 1
one_if false = 0

-- how many tasks are open
abbrev pub opens : Table → ℕ
opens [] = 0
opens (entry ∷ rest) = one_if (is_open entry.1.phase) + opens rest

-- whether no task is ready
abbrev pub idle : List (ℕ × Job) → ℕ
idle [] = 1
idle (job ∷ rest) = 0

abbrev pub weigh : ℕ → ℕ → ℕ → ℕ → ℕ
weigh open_ left rest time = 2 * (open_ + left) + rest + time

-- A batch ends more open tasks than it leaves of the bound unspent; a transition without a batch is followed by one, or the time
-- that is left is less.
abbrev pub weight : Plan → ℕ → SimulationState → ℕ
weight plan bound at = weigh (opens at.table) (bound - at.spent) (idle (ready_jobs at.cells at.table)) (plan.duration - at.time)

-- with each transition it falls
abbrev pub WeightFalls : Type 0
WeightFalls =
    (model : Parts) (plan : Plan) (bound : ℕ) (at later : SimulationState) → IsReached model plan bound (more at) →
    next_state model plan bound at ≡ more later → weight plan bound later < weight plan bound at

-- it begins below the transitions that are enough
abbrev pub WeightBegins : Type 0
WeightBegins = (model : Parts) (plan : Plan) (bound : ℕ) → weight plan bound (start model plan) < enough_transitions model plan bound
