-- The simulation of an edited plan may begin in the middle, at a state of the old simulation.
use Rattle.std.specs.Prelude.{◌≡◌, ℕ, ◌<◌, Bool}
use Rattle.aerie_base.specs.declared.models.model.Parts.{Parts}
use Rattle.aerie_base.specs.declared.plans.Plan.{Plan}
use Rattle.run_data.specs.Fresh.{SimulationState, IsReached}
use Rattle.run_data.specs.Tasks.{ready_jobs}
use Rattle.run_data.specs.Transitions.{more}
use Rattle.run_data.specs.laws.LateDifferences.{DifferLate}
use Rattle.run_data.specs.laws.Orders.{EachOf}
use Rattle.parting.specs.Exchanges.{exchanged, exchanged_state}
use Rattle.parting.specs.PlainLateness.{IsPlainlyLate}

-- Two plans differ only in directives that are not due before a time, and those of the new plan plainly. Then each state before
-- that time which the old simulation reaches, with the new plan's differing directives in place of the old plan's, is one that
-- the new simulation reaches.
abbrev pub Resumes : Type 0
Resumes =
    (differs : ℕ → Bool) (until : ℕ) (model : Parts) (plan old_plan : Plan) (bound old_bound : ℕ) → DifferLate differs until model plan old_plan bound old_bound →
    EachOf (IsPlainlyLate differs until) plan.directives → (other : SimulationState) → IsReached model old_plan old_bound (more other) → other.time < until →
    IsReached model plan bound (more (exchanged_state differs model plan other))

-- and the same jobs are ready there
abbrev pub SameJobs : Type 0
SameJobs =
    (differs : ℕ → Bool) (until : ℕ) (model : Parts) (plan old_plan : Plan) (bound old_bound : ℕ) → DifferLate differs until model plan old_plan bound old_bound →
    EachOf (IsPlainlyLate differs until) plan.directives → (other : SimulationState) → IsReached model old_plan old_bound (more other) → other.time < until →
    ready_jobs other.cells (exchanged differs model plan other.table) ≡ ready_jobs other.cells other.table
