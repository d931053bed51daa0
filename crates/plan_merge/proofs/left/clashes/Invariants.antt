-- The conflicts of those so far.
use Rattle.std.proofs.Common.{◌≡◌, filter_map, take}
use Rattle.aerie_base.specs.declared.plans.Directive.{Directive}
use Rattle.plan_merge.specs.Merging.{becomes, clash_of}
use Rattle.plan_merge.proofs.left.clashes.Given as goal

abbrev pub invariant-loop-directive : goal.invariant-loop-directive
invariant-loop-directive l =
    l.conflicts ≡ filter_map (λ (directive : Directive). clash_of directive.id (becomes l.fn.base l.fn.source l.fn.target directive)) (take l.directive-index l.fn.base.directives)
