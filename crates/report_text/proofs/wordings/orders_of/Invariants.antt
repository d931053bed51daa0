-- The orders of the activity types so far.
use Rattle.std.proofs.Common.{◌≡◌, map, take}
use Rattle.report_text.specs.Wordings.{parameter_order}
use Rattle.report_text.proofs.wordings.orders_of.Given as goal

abbrev pub invariant-loop-activity : goal.invariant-loop-activity
invariant-loop-activity l = l.orders ≡ map parameter_order (take l.activity-index l.activities)
