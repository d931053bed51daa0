-- What is left of those so far.
use Rattle.std.proofs.Common.{◌≡◌, filter_map, take}
use Rattle.aerie_base.specs.declared.plans.Directive.{Directive}
use Rattle.aerie_base.specs.plans.OfModel.{with_id}
use Rattle.plan_merge.specs.Merging.{left_by}
use Rattle.plan_merge.proofs.left.left.Given as goal

abbrev pub invariant-loop-directive : goal.invariant-loop-directive
invariant-loop-directive l =
    l.directives ≡ filter_map (λ (directive : Directive). left_by l.fn.base l.fn.source l.fn.target directive (with_id l.fn.base.directives directive.id)) (take l.directive-index l.fn.target.directives)
