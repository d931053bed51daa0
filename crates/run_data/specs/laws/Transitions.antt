-- The laws of a run by its transitions: what so many transitions give is where the run stands, and a plan has one fresh run.
use Rattle.std.specs.Prelude.{◌≡◌, ℕ}
use Rattle.aerie_base.specs.declared.models.model.Parts.{Parts}
use Rattle.aerie_base.specs.declared.plans.Plan.{Plan}
use Rattle.run_data.specs.declared.runs.Run.{Run}
use Rattle.run_data.specs.Fresh.{IsReached, IsFresh, after_transitions}

-- what so many transitions give is where the run stands at some time
abbrev pub TransitionsStand : Type 0
TransitionsStand = (model : Parts) (plan : Plan) (bound count : ℕ) → IsReached model plan bound (after_transitions model plan bound count)

-- a plan has one fresh run
abbrev pub OneFreshRun : Type 0
OneFreshRun = (model : Parts) (plan : Plan) (bound : ℕ) (run other : Run) → IsFresh model plan bound run → IsFresh model plan bound other → run ≡ other
