-- Why a trial is rejected, and why a schedule leaves a goal unmet.
use Rattle.std.specs.Prelude.{ℕ, Bool, List, [], ◌∷◌, Option, Some, None, if◌then◌else◌}
use Rattle.std.specs.List.{list_any}
use Rattle.aerie_base.specs.TimeOrder.{earlier}
use Rattle.aerie_base.specs.declared.models.model.Parts.{Parts}
use Rattle.aerie_base.specs.models.Names.{same_name}
use Rattle.run_data.specs.declared.runs.Run.{Run}
use Rattle.windows.specs.Times.{Interval}
use Rattle.constraints.specs.declared.types.Constraint.{Constraint}
use Rattle.constraints.specs.declared.violation.Violation.{Violation}
use Rattle.constraints.specs.Violating.{violations_of}
use Rattle.goals.specs.declared.gap.Gap.{Gap}
use Rattle.goals.specs.declared.types.Goal.{Goal}
use Rattle.goals.specs.declared.unmet.OpenGap.{OpenGap}
use Rattle.goals.specs.declared.unmet.Rejection.{Rejection}
use Rattle.goals.specs.declared.unmet.Rejection.TheVariants.{Unfilled, Violates}
use Rattle.goals.specs.declared.unmet.Unmet.{Unmet}
use Rattle.goals.specs.declared.unmet.Unmet.TheVariants.{Open, Broken}
use Rattle.goals.specs.Goals.{is_filled, is_met_or_stopped}

-- ---- a trial

-- whether the goal names the constraint after `keeping`
abbrev pub is_kept : Goal → Constraint → Bool
is_kept goal constraint = list_any (same_name constraint.name) goal.keeping

-- where the first of the intervals begins
abbrev pub first_begin : List Interval → Option ℕ
first_begin [] = None
first_begin (interval ∷ rest) = Some interval.0

-- the first time of all violations
abbrev pub first_violation : List Violation → Option ℕ
first_violation [] = None
first_violation (violation ∷ rest) = earlier (first_begin violation.intervals.intervals) (first_violation rest)

-- when the run violates the constraint first, where the goal names it
abbrev pub violated_at : Parts → Goal → Run → Constraint → Option ℕ
violated_at model goal run constraint = if is_kept goal constraint then first_violation (violations_of model run constraint) else None

-- the constraint, where it is violated; else what the others give
abbrev pub violated_or : Constraint → Option Rejection → Option ℕ → Option Rejection
violated_or constraint others None = others
violated_or constraint others (Some time) = Some (Violates constraint.name time)

-- the first constraint, in their order, that the goal names and the run violates, with the first time of its violation
abbrev pub first_violated : Parts → Goal → Run → List Constraint → Option Rejection
first_violated model goal run [] = None
first_violated model goal run (constraint ∷ rest) =
    violated_or constraint (first_violated model goal run rest) (violated_at model goal run constraint)

-- why a trial with this run is rejected, if it is: the run does not fill the gap, as one that did not complete; or it violates a
-- constraint that the goal names
abbrev pub rejection_of : Parts → List Constraint → Goal → Gap → Run → Option Rejection
rejection_of model constraints goal gap run =
    if is_filled model goal gap run then first_violated model goal run constraints else Some (Unfilled run.outcome)

-- ---- a goal

-- by the gap that was open as the schedule passed on to the next goal: where none was, a later goal broke this one
abbrev pub unmet_by : Option OpenGap → Unmet
unmet_by (Some gap) = Open gap
unmet_by None = Broken

-- Why a goal is unmet on the run of the final plan. Nothing is told where it is met, nor where the run did not complete: then no
-- goal has a gap on it, and nothing was tried.
abbrev pub why_unmet : Parts → Run → Goal → Option OpenGap → Option Unmet
why_unmet model run goal open_gap = if is_met_or_stopped model goal run then None else Some (unmet_by open_gap)
