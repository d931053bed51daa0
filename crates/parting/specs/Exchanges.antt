-- A simulation that goes on with another plan: the tasks that both plans have in common go on as they are, and the directives in
-- which the plans differ stand there as the new plan has them, none of them begun.
use Rattle.std.specs.Prelude.{ℕ, Bool, List, [], ◌∷◌, if◌then◌else◌}
use Rattle.aerie_base.specs.declared.models.model.Parts.{Parts}
use Rattle.aerie_base.specs.declared.plans.Directive.{Directive}
use Rattle.aerie_base.specs.declared.plans.Plan.{Plan}
use Rattle.run_data.specs.Fresh.{SimulationState}
use Rattle.run_data.specs.Tasks.{Table, with_directives}
use Rattle.run_data.specs.laws.LateDifferences.{common_tasks}

-- the directives in which a plan differs from another, by their ids
abbrev pub differing_directives : (ℕ → Bool) → List Directive → List Directive
differing_directives differs [] = []
differing_directives differs (directive ∷ rest) =
    if differs directive.id then directive ∷ differing_directives differs rest else differing_directives differs rest

-- the tasks in common, and those of the new plan's differing directives as they are planned
abbrev pub exchanged : (ℕ → Bool) → Parts → Plan → Table → Table
exchanged differs model plan table = with_directives model (differing_directives differs plan.directives) (common_tasks differs table)

-- a state of the old simulation with these tasks
abbrev pub exchanged_state : (ℕ → Bool) → Parts → Plan → SimulationState → SimulationState
exchanged_state differs model plan other = record other { table = exchanged differs model plan other.table }
