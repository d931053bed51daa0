use Rattle.std.proofs.Common.{◌≡◌, Some, slice_get}
use Rattle.aerie_base.specs.declared.plans.Directive.{Directive}
use Rattle.resimulate.specs.Likeness.{IsLikeUnbegun}
use Rattle.resimulate.proofs.Likenesses.{EachBefore}
use Rattle.resimulate.proofs.alike.are_like_unbegun.Given as goal

-- so are the directives before this one
abbrev pub invariant-loop-at : goal.invariant-loop-at
invariant-loop-at l = EachBefore l.at (λ k. (one : Directive) → slice_get l.plan.directives k ≡ Some one → IsLikeUnbegun l.old_plan l.parted l.traces.entries l.others.entries one)
