-- The index of the directives so far.
use Rattle.std.proofs.Common.{take}
use Rattle.std.specs.Ordering.{nat_cmp}
use Rattle.std.specs.BTreeMap.{get as noted_at}
use Rattle.plan_edit.specs.Loading.{IsIndexOf}
use Rattle.plan_edit.proofs.loading.index_of.Given as goal

abbrev pub invariant-loop-position : goal.invariant-loop-position
invariant-loop-position l = IsIndexOf (noted_at nat_cmp l.index) (take l.position l.all)
