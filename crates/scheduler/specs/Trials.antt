-- A trial: a goal's template is added to a plan at a time, and the run of that plan is judged.
use Rattle.std.specs.Prelude.{ℕ, zero, suc, Bool, true, false, not, ◌&&◌, ◌||◌, List, [], ◌∷◌, Option, Some, None, Result, Ok, Err}
use Rattle.std.specs.List.{list_all}
use Rattle.std.specs.Option.{option_or}
use Rattle.aerie_base.specs.declared.models.model.Parts.{Parts}
use Rattle.aerie_base.specs.declared.plans.Directive.{Directive}
use Rattle.aerie_base.specs.declared.plans.Plan.{Plan}
use Rattle.run_data.specs.declared.runs.Run.{Run}
use Rattle.plan_edit.specs.declared.errors.EditError.{EditError}
use Rattle.plan_edit.specs.Answers.{then_made_of}
use Rattle.plan_edit.specs.Editing.{directive_placed, with_added}
use Rattle.constraints.specs.declared.types.Constraint.{Constraint}
use Rattle.constraints.specs.Violating.{violations_of}
use Rattle.goals.specs.declared.gap.Gap.{Gap}
use Rattle.goals.specs.declared.types.Goal.{Goal}
use Rattle.goals.specs.declared.types.Template.{Template}
use Rattle.goals.specs.declared.unmet.Rejection.{Rejection}
use Rattle.goals.specs.Goals.{is_filled}
use Rattle.scheduler.specs.Unmet.{is_kept, rejection_of}

-- the template's directive at a time, with the next id and without an anchor
abbrev pub directive_with : Plan → Template → ℕ → Directive
directive_with plan template time =
    record { id = plan.next_id; start = time; anchor = None; kind = template.kind; arguments = template.arguments }

-- the plan with the template at a time, or why it may not stand there: what `add` does once it knows the type and its
-- arguments
abbrev pub with_template : Plan → Template → ℕ → Result Plan EditError
with_template plan template time =
    then_made_of (λ directive. Ok (with_added plan directive))
    (directive_placed plan (record { start = time; anchor = None }) (record { kind = template.kind; arguments = template.arguments }))

abbrev pub unless_refusal : Result Plan EditError → Option Plan
unless_refusal (Ok plan) = Some plan
unless_refusal (Err refusal) = None

-- the plan with the template at a time, unless `add` refuses it
abbrev pub made_with : Plan → Template → ℕ → Option Plan
made_with plan template time = unless_refusal (with_template plan template time)

-- ---- when a trial is accepted

abbrev pub is_unlisted : {A : Type 0} → List A → Bool
is_unlisted [] = true
is_unlisted (item ∷ rest) = false

-- the constraint is not violated, where the goal names it
abbrev pub is_kept_well : Parts → Goal → Run → Constraint → Bool
is_kept_well model goal run constraint = not (is_kept goal constraint) || is_unlisted (violations_of model run constraint)

-- none of the constraints that the goal names after `keeping` is violated
abbrev pub keeps : Parts → List Constraint → Goal → Run → Bool
keeps model constraints goal run = list_all (is_kept_well model goal run) constraints

-- the run is completed, fills the gap and keeps the goal's constraints
abbrev pub is_accepted : Parts → List Constraint → Goal → Gap → Run → Bool
is_accepted model constraints goal gap run = is_filled model goal gap run && keeps model constraints goal run

-- ---- one candidate after another

-- what comes of a candidate: `add` refuses it, which is no trial, or the plan with it is tried
pub data Verdict : Type 0 where
  refused : Verdict
  rejected : Rejection → Verdict
  accepted : Plan → Verdict

-- what is found: the plan with the first accepted trial, if there is one, why the last rejected one was rejected, and how many
-- trials are left
pub record Found : Type 0 where
  pub plan : Option Plan
  pub last : Option Rejection
  pub left : ℕ

-- the same behind trials of which the last rejected one was rejected so
abbrev pub found_behind : Option Rejection → Found → Found
found_behind earlier found = record found { last = option_or found.last earlier }

-- `run_of` gives the run of a plan
module _ (model : Parts) (constraints : List Constraint) (run_of : Plan → Run) where
  -- a trial is accepted where nothing speaks against it
  abbrev pub verdict_by : Option Rejection → Plan → Verdict
  verdict_by None plan = accepted plan
  verdict_by (Some rejection) plan = rejected rejection

  abbrev pub verdict_on : Goal → Gap → Option Plan → Verdict
  verdict_on goal gap None = refused
  verdict_on goal gap (Some plan) = verdict_by (rejection_of model constraints goal gap (run_of plan)) plan

  abbrev pub verdict_of : Goal → Gap → Plan → ℕ → Verdict
  verdict_of goal gap plan time = verdict_on goal gap (made_with plan goal.template time)

  -- by what comes of the first candidate, where a trial is left besides so many: the others are next, or it is found
  abbrev pub found_by : Verdict → (ℕ → Found) → ℕ → Found
  found_by refused others left = others (suc left)
  found_by (rejected rejection) others left = found_behind (Some rejection) (others left)
  found_by (accepted plan) others left = record { plan = Some plan; last = None; left = left }

  -- The candidates are tried in order, as long as a trial is left.
  abbrev pub first_accepted : Goal → Gap → Plan → List ℕ → ℕ → Found
  first_accepted goal gap plan [] left = record { plan = None; last = None; left = left }
  first_accepted goal gap plan (time ∷ rest) zero = record { plan = None; last = None; left = zero }
  first_accepted goal gap plan (time ∷ rest) (suc left) =
      found_by (verdict_of goal gap plan time) (first_accepted goal gap plan rest) left
