-- Those before are not anchored to it.
use Rattle.std.proofs.Common.{◌≡◌, find, drop}
use Rattle.plan_edit.specs.Editing.{is_anchored_to as is_anchored}
use Rattle.plan_edit.proofs.removing.anchored_by.Given as goal

abbrev pub invariant-loop-directive : goal.invariant-loop-directive
invariant-loop-directive l = find (is_anchored l.id) l.directives ≡ find (is_anchored l.id) (drop l.directive-index l.directives)
