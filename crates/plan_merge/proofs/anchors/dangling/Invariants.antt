-- The conflicts of those so far.
use Rattle.std.proofs.Common.{◌≡◌, take}
use Rattle.plan_merge.specs.declared.answers.ConflictKind.TheVariants.{Anchor}
use Rattle.plan_merge.specs.Merging.{has_dangling_anchor, conflicts_of}
use Rattle.plan_merge.proofs.anchors.dangling.Given as goal

abbrev pub invariant-loop-directive : goal.invariant-loop-directive
invariant-loop-directive l = l.conflicts ≡ conflicts_of Anchor (has_dangling_anchor l.fn.directives) (take l.directive-index l.directives)
