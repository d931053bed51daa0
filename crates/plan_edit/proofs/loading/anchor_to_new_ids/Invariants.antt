-- Those so far are anew, and those behind as they were.
use Rattle.std.proofs.Common.{◌≡◌, ◌++◌, map, take, drop}
use Rattle.plan_edit.specs.Loading.{anchored_to_new_id}
use Rattle.plan_edit.proofs.loading.anchor_to_new_ids.Given as goal

abbrev pub invariant-loop-at : goal.invariant-loop-at
invariant-loop-at l = l.directives ≡ map (anchored_to_new_id l.first l.all) (take l.at l.initial.directives) ++ drop l.at l.initial.directives
