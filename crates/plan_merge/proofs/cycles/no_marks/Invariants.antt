-- No mark for each so far.
use Rattle.std.proofs.Common.{◌≡◌, false, map, take}
use Rattle.aerie_base.specs.declared.plans.Directive.{Directive}
use Rattle.plan_merge.proofs.cycles.no_marks.Given as goal

abbrev pub invariant-loop-directive : goal.invariant-loop-directive
invariant-loop-directive l = l.marks.items ≡ map (λ (directive : Directive). false) (take l._directive-index l.directives)
