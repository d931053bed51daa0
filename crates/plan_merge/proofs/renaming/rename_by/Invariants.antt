-- Those so far.
use Rattle.std.proofs.Common.{◌≡◌, ℕ, List, map, take}
use Rattle.aerie_base.specs.declared.plans.Directive.{Directive}
use Rattle.aerie_base.specs.plans.OfModel.{ids_of}
use Rattle.plan_merge.specs.Renaming.{new_id, with_new_ids}
use Rattle.plan_merge.proofs.renaming.rename_by.Given as goal

abbrev pub invariant-loop-directive : goal.invariant-loop-directive
invariant-loop-directive l = (base : List Directive) (first : ℕ) → l.fn.ids ≡ map (new_id base first l.fn.source) (ids_of l.fn.source) →
    l.all ≡ map (with_new_ids (new_id base first l.fn.source)) (take l.directive-index l.source)
