-- Laws of what a schedule is made of: the fresh run as a function, what a trial adds, and when it is accepted.
use Rattle.std.specs.Prelude.{◌≡◌, ℕ, List, Ok, None, is_none}
use Rattle.aerie_base.specs.declared.arguments.RawArgument.{RawArgument}
use Rattle.aerie_base.specs.declared.models.model.Parts.{Parts}
use Rattle.aerie_base.specs.declared.plans.Plan.{Plan}
use Rattle.run_data.specs.declared.runs.Run.{Run}
use Rattle.run_data.specs.Fresh.{IsFresh}
use Rattle.plan_edit.specs.Editing.{add_of, given_of}
use Rattle.constraints.specs.declared.types.Constraint.{Constraint}
use Rattle.goals.specs.declared.gap.Gap.{Gap}
use Rattle.goals.specs.declared.types.Goal.{Goal}
use Rattle.goals.specs.declared.types.Template.{Template}
use Rattle.scheduler.specs.FreshRuns.{fresh_run}
use Rattle.scheduler.specs.Trials.{is_accepted, with_template}
use Rattle.scheduler.specs.Unmet.{rejection_of}

-- the run that the function gives is fresh, and no other is
pub record FreshRunIs : Type 0 where
  pub given : (model : Parts) (bound : ℕ) (plan : Plan) → IsFresh model plan bound (fresh_run model bound plan)
  pub only : (model : Parts) (bound : ℕ) (plan : Plan) (run : Run) → IsFresh model plan bound run → run ≡ fresh_run model bound plan

-- it is of the plan
abbrev pub PlanOfRunIs : Type 0
PlanOfRunIs = (model : Parts) (bound : ℕ) (plan : Plan) → (fresh_run model bound plan).plan ≡ plan

-- where a name and arguments give a template, `add` at a time without an anchor answers what a trial of it does
abbrev pub TrialIsAdd : Type 0
TrialIsAdd =
    (model : Parts) (plan : Plan) (template : Template) (time : ℕ) (name : List ℕ) (arguments : List RawArgument) →
    given_of model name arguments ≡ Ok (record { kind = template.kind; arguments = template.arguments }) →
    add_of model plan (record { start = time; anchor = None }) name arguments ≡ with_template plan template time

-- a trial is accepted exactly where nothing is told against it
abbrev pub AcceptedUnlessRejected : Type 0
AcceptedUnlessRejected =
    (model : Parts) (constraints : List Constraint) (goal : Goal) (gap : Gap) (run : Run) →
    is_accepted model constraints goal gap run ≡ is_none (rejection_of model constraints goal gap run)
