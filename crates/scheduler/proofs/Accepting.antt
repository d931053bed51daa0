-- A trial is accepted where nothing is told against it.
use Rattle.std.proofs.Common.{◌≡◌, ℕ, Bool, true, false, not, ◌&&◌, ◌||◌, List, [], ◌∷◌, Option, Some, None, is_none, nat_eq, refl, sym, ap, ◌∙◌, if◌then◌else◌}
use Rattle.aerie_base.specs.TimeOrder.{earlier}
use Rattle.aerie_base.specs.declared.models.model.Parts.{Parts}
use Rattle.run_data.specs.declared.runs.Run.{Run}
use Rattle.run_data.specs.Spans.{SpanOf, spans_of}
use Rattle.run_data.specs.laws.Orders.{EachOf}
use Rattle.windows.specs.Times.{Interval}
use Rattle.windows.specs.Intervals.{intervals_of}
use Rattle.constraints.specs.declared.types.Rule.{Rule}
use Rattle.constraints.specs.declared.types.Rule.TheVariants.{Plain, Each, Forbid}
use Rattle.constraints.specs.declared.types.Constraint.{Constraint}
use Rattle.constraints.specs.declared.types.Window.{Window}
use Rattle.constraints.specs.declared.violation.Violation.{Violation}
use Rattle.constraints.specs.Holding.{window_holds, times_of}
use Rattle.constraints.specs.Violating.{listed, meet, violations_of, violations_of_rule, violations_of_span, violations_of_spans}
use Rattle.goals.specs.declared.types.Goal.{Goal}
use Rattle.goals.specs.declared.unmet.Rejection.TheVariants.{Unfilled}
use Rattle.goals.specs.Goals.{is_filled}
use Rattle.scheduler.specs.ScheduleLaws.{AcceptedUnlessRejected}
use Rattle.scheduler.specs.Trials.{is_kept_well, is_unlisted, keeps}
use Rattle.scheduler.specs.Unmet.{first_begin, first_violated, first_violation, is_kept, violated_at, violated_or}
use Rattle.scheduler.proofs.OnlyAdded.{each_more}

-- ---- each violation that is listed has a first time

HasTime : Violation → Type 0
HasTime violation = (time : ℕ) × (first_begin violation.intervals.intervals ≡ Some time)

listed_has : (path : Option (List ℕ)) (reach : ℕ) (intervals : List Interval) → EachOf HasTime (listed path reach intervals)
unfolding HasTime
listed_has path reach [] = tt
listed_has path reach (first ∷ rest) = ((first.0, refl), tt)

module _ (model : Parts) (run : Run) where
  spans_have : (kind : ℕ) (window : Window) (spans : List SpanOf) → EachOf HasTime (violations_of_spans model run kind window spans)
  spans_have kind window [] = tt
  spans_have kind window (span ∷ rest) =
      each_more HasTime (if nat_eq span.kind kind then violations_of_span model run window span else []) (violations_of_spans model run kind window rest)
      (by (nat_eq span.kind kind)) (spans_have kind window rest)
    where
      by : (b : Bool) → EachOf HasTime (if b then violations_of_span model run window span else [])
      by true = listed_has (Some span.path) run.reach (intervals_of run.reach (λ t. not (window_holds model run window (Some (times_of run.reach span)) t)))
      by false = tt

  rule_has : (rule : Rule) → EachOf HasTime (violations_of_rule model run rule)
  rule_has (Plain window) = listed_has None run.reach (intervals_of run.reach (λ t. not (window_holds model run window None t)))
  rule_has (Each kind window) = spans_have kind window (spans_of model run)
  rule_has (Forbid one other) = listed_has None run.reach (intervals_of run.reach (λ t. not (not (meet run.reach one other (spans_of model run) t))))

-- so none is listed where there is no first time
unlisted : (found : List Violation) → EachOf HasTime found → is_unlisted found ≡ is_none (first_violation found)
unfolding HasTime
unlisted [] each = refl
unlisted (violation ∷ rest) each =
    sym (ap (λ (time : Option ℕ). is_none (earlier time (first_violation rest))) each.0.1 ∙ some each.0.0 (first_violation rest))
  where
    some : (time : ℕ) (other : Option ℕ) → is_none (earlier (Some time) other) ≡ false
    some time None = refl
    some time (Some other) = refl

-- ---- a trial

module _ (model : Parts) (goal : Goal) (run : Run) where
  kept_well : (constraint : Constraint) → is_kept_well model goal run constraint ≡ is_none (violated_at model goal run constraint)
  kept_well constraint = by (is_kept goal constraint)
    where
      by : (kept : Bool) → (not kept || is_unlisted (violations_of model run constraint)) ≡ is_none (if kept then first_violation (violations_of model run constraint) else None)
      by true = unlisted (violations_of model run constraint) (rule_has model run constraint.rule)
      by false = refl

  all_kept : (constraints : List Constraint) → keeps model constraints goal run ≡ is_none (first_violated model goal run constraints)
  all_kept [] = refl
  all_kept (constraint ∷ rest) =
      ap (λ (well : Bool). well && keeps model rest goal run) (kept_well constraint) ∙ by (violated_at model goal run constraint) (all_kept rest)
    where
      by : (time : Option ℕ) → keeps model rest goal run ≡ is_none (first_violated model goal run rest) →
          (is_none time && keeps model rest goal run) ≡ is_none (violated_or constraint (first_violated model goal run rest) time)
      by None e = e
      by (Some time) e = refl

pub accepted_unless_rejected : AcceptedUnlessRejected
accepted_unless_rejected model constraints goal gap run = by (is_filled model goal gap run)
  where
    by : (filled : Bool) → (filled && keeps model constraints goal run) ≡ is_none (if filled then first_violated model goal run constraints else Some (Unfilled run.outcome))
    by true = all_kept model goal run constraints
    by false = refl
