-- Those new in the source so far are behind the others.
use Rattle.std.proofs.Common.{◌≡◌, ◌++◌, filter_map, take}
use Rattle.plan_merge.specs.Renaming.{renamed_if_new}
use Rattle.plan_merge.proofs.left.push_added.Given as goal

abbrev pub invariant-loop-at : goal.invariant-loop-at
invariant-loop-at l =
    l.directives ≡ l.fn.directives ++ filter_map (renamed_if_new l.fn.base l.fn.source l.fn.target) (take l.at l.fn.source.directives)
