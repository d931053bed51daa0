-- The conflicts of those so far.
use Rattle.std.proofs.Common.{◌≡◌, Bool, map, take}
use Rattle.aerie_base.specs.declared.plans.Directive.{Directive}
use Rattle.plan_merge.specs.declared.answers.ConflictKind.TheVariants.{Cycle}
use Rattle.plan_merge.specs.Merging.{conflicts_of}
use Rattle.plan_merge.proofs.cycles.marked.Given as goal

abbrev pub invariant-loop-at : goal.invariant-loop-at
invariant-loop-at l = (test : Directive → Bool) → l.fn.marks ≡ map test l.fn.directives → l.conflicts ≡ conflicts_of Cycle test (take l.at l.fn.directives)
