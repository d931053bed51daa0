-- A simulation ends.
use Rattle.std.specs.Prelude.{◌≡◌, ◌↔◌, ℕ, ◌+◌, ◌*◌, length}
use Rattle.aerie_base.specs.declared.models.model.Parts.{Parts}
use Rattle.aerie_base.specs.declared.plans.Plan.{Plan}
use Rattle.run_data.specs.declared.runs.Run.{Run}
use Rattle.run_data.specs.Transitions.{finished}
use Rattle.run_data.specs.Fresh.{IsFresh, after_transitions}

-- So many transitions are enough: each batch uses up a task that is open or some of the bound, each transition without one is
-- followed by a batch or by a later time, and there are so many times.
abbrev pub enough_transitions : Parts → Plan → ℕ → ℕ
enough_transitions model plan bound = 2 * (length plan.directives + length model.daemons + bound) + plan.duration + 2

-- after so many transitions there is a run, for every model, plan and bound
abbrev pub TransitionsFinish : Type 0
TransitionsFinish =
    (model : Parts) (plan : Plan) (bound : ℕ) → (run : Run) × (after_transitions model plan bound (enough_transitions model plan bound) ≡ finished run)

-- every plan has a fresh run
abbrev pub HasFreshRun : Type 0
HasFreshRun = (model : Parts) (plan : Plan) (bound : ℕ) → (run : Run) × IsFresh model plan bound run

-- so the fresh run of a plan is what these transitions give
abbrev pub FreshRunByTransitions : Type 0
FreshRunByTransitions =
    (model : Parts) (plan : Plan) (bound : ℕ) (run : Run) →
    IsFresh model plan bound run ↔ (after_transitions model plan bound (enough_transitions model plan bound) ≡ finished run)
