-- What a schedule tells of its goals, and of what it placed for them.
use Rattle.std.specs.Prelude.{◌≡◌, ◌⊎◌, ℕ, true, false, List, [], ◌∷◌, Some, None}
use Rattle.aerie_base.specs.Paths.{root}
use Rattle.aerie_base.specs.declared.models.model.Parts.{Parts}
use Rattle.aerie_base.specs.declared.plans.Directive.{Directive}
use Rattle.aerie_base.specs.declared.plans.Plan.{Plan}
use Rattle.run_data.specs.declared.runs.Outcome.TheVariants.{Completed}
use Rattle.run_data.specs.declared.runs.Run.{Run}
use Rattle.run_data.specs.Spans.{SpanOf, spans_of}
use Rattle.run_data.specs.laws.Orders.{EachOf}
use Rattle.span_table.specs.PlannedSpans.{IsOneOf}
use Rattle.goals.specs.declared.gap.Gap.{Gap}
use Rattle.goals.specs.declared.types.Goal.{Goal}
use Rattle.goals.specs.declared.types.Template.{Template}
use Rattle.goals.specs.declared.status.GoalStatus.{GoalStatus}
use Rattle.goals.specs.Goals.{first_gap}
use Rattle.goals.specs.Matching.{matches}
use Rattle.scheduler.specs.declared.scheduled.Schedule.{Schedule}
use Rattle.scheduler.specs.FreshRuns.{fresh_run}

-- each with the one at the same place of another list, and as many of them
abbrev pub EachWith : {A B : Type 0} → (A → B → Type 0) → List A → List B → Type 0
EachWith P [] [] = Unit {0}
EachWith P [] (other ∷ others) = ⊥
EachWith P (first ∷ rest) [] = ⊥
EachWith P (first ∷ rest) (other ∷ others) = P first other × EachWith P rest others

-- ---- whether a goal is met

-- The status names the goal. Where it tells that the goal is met, the run is completed and has no gap of it; where it tells
-- that it is not, the run is not completed or has a gap.
pub record IsTold (model : Parts) (run : Run) (goal : Goal) (status : GoalStatus) : Type 0 where
  pub name : status.goal ≡ goal.name
  pub met : status.met ≡ true → (run.outcome ≡ Completed) × (first_gap model goal run ≡ None)
  pub unmet : status.met ≡ false → (run.outcome ≡ Completed → ⊥) ⊎ ((gap : Gap) × (first_gap model goal run ≡ Some gap))

-- ---- what was placed

-- the id is that of a directive of the plan, whose span on the run matches the template and starts where the directive stands
pub record IsPlaced (model : Parts) (plan : Plan) (run : Run) (template : Template) (id : ℕ) : Type 0 where
  pub directive : Directive
  pub there : IsOneOf directive plan.directives
  pub id_is : directive.id ≡ id
  pub span : SpanOf
  pub among : IsOneOf span (spans_of model run)
  pub path : span.path ≡ root id
  pub matching : matches template span ≡ true
  pub start : span.start ≡ directive.start

-- each id that a status has is, where the run is completed
abbrev pub AreAllPlaced : Parts → Plan → Run → Goal → GoalStatus → Type 0
AreAllPlaced model plan run goal status = run.outcome ≡ Completed → EachOf (IsPlaced model plan run goal.template) status.placed

-- the plan has the place of its model and the duration of the other
pub record IsLikePlan (plan made : Plan) : Type 0 where
  pub model : made.model ≡ plan.model
  pub duration : made.duration ≡ plan.duration

-- ---- of a schedule

-- what its statuses tell of the goals holds on the fresh run of its plan
abbrev pub TellsOf : Parts → ℕ → List Goal → Schedule → Type 0
TellsOf model bound goals made = EachWith (IsTold model (fresh_run model bound made.plan)) goals made.goals

-- and what they have as placed is in its plan and on that run
abbrev pub HasPlacedFor : Parts → ℕ → List Goal → Schedule → Type 0
HasPlacedFor model bound goals made = EachWith (AreAllPlaced model made.plan (fresh_run model bound made.plan)) goals made.goals
