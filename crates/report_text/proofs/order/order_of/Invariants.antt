-- The order of the names so far.
use Rattle.std.proofs.Common.{◌≡◌}
use Rattle.report_text.specs.ArgumentOrder.{order_up_to, names_of_parameters}
use Rattle.report_text.proofs.order.order_of.Given as goal

abbrev pub invariant-loop-number : goal.invariant-loop-number
invariant-loop-number l = l.order ≡ order_up_to (names_of_parameters l.parameters) l.number
