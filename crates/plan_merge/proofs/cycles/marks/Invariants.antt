-- Marked are those that are reached so far.
use Rattle.std.proofs.Common.{◌≡◌, length, map, take}
use Rattle.std.specs.List.{list_any}
use Rattle.aerie_base.specs.declared.plans.Directive.{Directive}
use Rattle.plan_merge.specs.Merging.{is_at}
use Rattle.plan_merge.proofs.cycles.marks.Given as goal

abbrev pub invariant-loop-at : goal.invariant-loop-at
invariant-loop-at l = record {
  marked : l.marks.items ≡ map (λ (directive : Directive). list_any (is_at directive.id) (take l.at l.reached)) l.directives;
  count : length l.marks.items ≡ length l.directives;
}
