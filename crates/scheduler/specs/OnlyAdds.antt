-- A schedule only adds to a plan.
use Rattle.std.specs.Prelude.{◌≡◌, ℕ, ◌+◌, List, ◌++◌, length, map}
use Rattle.std.specs.List.{concat, range_with_len}
use Rattle.aerie_base.specs.declared.models.model.Parts.{Parts}
use Rattle.aerie_base.specs.declared.plans.Directive.{Directive}
use Rattle.aerie_base.specs.declared.plans.Plan.{Plan}
use Rattle.aerie_base.specs.plans.OfModel.{ids_of}
use Rattle.constraints.specs.declared.types.Constraint.{Constraint}
use Rattle.goals.specs.declared.types.Goal.{Goal}
use Rattle.goals.specs.declared.status.GoalStatus.{GoalStatus}
use Rattle.scheduler.specs.declared.scheduled.Schedule.{Schedule}
use Rattle.scheduler.specs.Scheduling.{schedule_of}

-- The old directives stand in the new plan as they were and in their order, and behind them those that were added. The added ones
-- have the ids from the old plan's next id on, which are the ids that were placed, each of them once. The next id has risen by
-- their number.
pub record OnlyAdds (old new : Plan) (placed : List ℕ) : Type 0 where
  pub added : List Directive
  pub directives : new.directives ≡ old.directives ++ added
  pub ids : ids_of added ≡ placed
  pub counted : placed ≡ range_with_len old.next_id (length added)
  pub next_id : new.next_id ≡ old.next_id + length added

-- what was placed for some goals: for the first, then for the second, and so on
abbrev pub placed_for_all : List GoalStatus → List ℕ
placed_for_all statuses = concat (map (λ status. status.placed) statuses)

-- the schedule only adds what its statuses have as placed
abbrev pub OnlyAddsTo : Plan → Schedule → Type 0
OnlyAddsTo plan made = OnlyAdds plan made.plan (placed_for_all made.goals)

-- every schedule of every plan does
abbrev pub SchedulesOnlyAdd : Type 0
SchedulesOnlyAdd = (model : Parts) (bound : ℕ) (constraints : List Constraint) (goals : List Goal) (plan : Plan) →
    OnlyAddsTo plan (schedule_of model bound constraints goals plan)
