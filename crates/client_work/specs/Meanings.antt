-- What the commands of a session make of the plans that they fetch.
use Rattle.std.specs.Prelude.{ℕ, Bool, ◌&&◌, nat_eq, List, [], Option, Some, None, Result, Ok, Err, slice_get, if◌then◌else◌}
use Rattle.aerie_base.specs.declared.plans.Plan.{Plan}
use Rattle.run_data.specs.KeptRuns.{KeptRun}
use Rattle.plan_merge.specs.declared.answers.Merged.{Merged}
use Rattle.plan_merge.specs.declared.answers.MergeError.{MergeError}
use Rattle.plan_merge.specs.Merging.{merge_of}
use Rattle.hangar_core.specs.Fits.{Meanings}
use Rattle.scheduler.specs.declared.scheduled.Schedule.{Schedule}
use Rattle.scheduler.specs.FreshRuns.{kept_run}
use Rattle.scheduler.specs.Scheduling.{schedule_of}
use Rattle.client_work.specs.declared.missions.RuledModel.{RuledModel}

-- ---- the model of a plan

-- a model of nothing, without rules; a plan of a session never has it
abbrev pub nothing_ruled : RuledModel
nothing_ruled = record {
  model = record { name = []; enums = []; cells = []; resources = []; activities = []; daemons = [] };
  constraints = [];
  goals = [];
  sequence = record { rules = []; spacings = [] };
}

abbrev pub ruled_or_nothing : Option RuledModel → RuledModel
ruled_or_nothing None = nothing_ruled
ruled_or_nothing (Some ruled) = ruled

-- the model of a plan, with its rules
abbrev pub ruled_by : List RuledModel → Plan → RuledModel
ruled_by models plan = ruled_or_nothing (slice_get models plan.model)

-- ---- simulations and schedules, under a bound

-- the fresh run of a plan for its model
abbrev pub simulated : List RuledModel → ℕ → Plan → KeptRun
simulated models bound plan = kept_run (ruled_by models plan).model bound plan

-- the schedule of a plan by the goals of its model
abbrev pub scheduled : List RuledModel → ℕ → Plan → Schedule
scheduled models bound plan =
    schedule_of (ruled_by models plan).model bound (ruled_by models plan).constraints (ruled_by models plan).goals plan

-- ---- merges

abbrev pub are_of_one_model : Plan → Plan → Plan → Bool
are_of_one_model base source target = nat_eq source.model base.model && nat_eq target.model base.model

abbrev pub plan_if_merged : Result Merged MergeError → Option Plan
plan_if_merged (Ok merged) = Some merged.plan
plan_if_merged (Err error) = None

-- the merged plan of three plans of one model that can be merged
abbrev pub merged_plan : Plan → Plan → Plan → Option Plan
merged_plan base source target = if are_of_one_model base source target then plan_if_merged (merge_of base source target) else None

-- ---- together

abbrev pub meanings_of : List RuledModel → ℕ → Meanings
meanings_of models bound = record {
  simulated = simulated models bound;
  scheduled = λ plan. (scheduled models bound plan).plan;
  merged = merged_plan;
}
