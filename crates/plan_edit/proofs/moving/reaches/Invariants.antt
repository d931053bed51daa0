-- So many anchors fewer are left to follow from here.
use Rattle.std.proofs.Common.{◌≡◌, ◌-◌, length}
use Rattle.plan_edit.specs.Editing.{reaches_within}
use Rattle.plan_edit.proofs.moving.reaches.Given as goal

abbrev pub invariant-loop-step : goal.invariant-loop-step
invariant-loop-step l =
    reaches_within l.directives l.id (length l.directives) l.from ≡ reaches_within l.directives l.id (length l.directives - l._step) l.here
