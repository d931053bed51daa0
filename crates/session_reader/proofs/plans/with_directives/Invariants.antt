use Rattle.std.proofs.Common.{◌≡◌, ◌+◌, drop}
use Rattle.aerie_base.specs.plans.OfModel.{IsPlanOf}
use Rattle.session_reader.specs.PlanSections.{directives_added}
use Rattle.session_reader.proofs.plans.with_directives.Given as goal

-- the plan so far, and the directives behind
abbrev pub invariant-loop-directive : goal.invariant-loop-directive
invariant-loop-directive l =
    (directives_added l.start l.model 0 l.initial.plan l.raw ≡ directives_added l.start l.model l.directive-index l.plan (drop l.directive-index l.raw))
    × (l.plan.next_id ≡ l.directive-index + 1) × (l.plan.model ≡ l.initial.plan.model) × IsPlanOf l.model l.plan
