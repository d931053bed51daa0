-- All names so far are less.
use Rattle.report_text.specs.ArgumentOrder.{names_of_parameters}
use Rattle.report_text.proofs.Placing.{Passes}
use Rattle.report_text.proofs.order.place_of.Given as goal

abbrev pub invariant-loop-at : goal.invariant-loop-at
invariant-loop-at l = Passes (names_of_parameters l.parameters) l.number l.order l.at
