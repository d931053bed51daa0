-- The numbers so far are below the count of the parameters.
use Rattle.std.proofs.Common.{◌<◌, ℕ, arith, length, subst, sym}
use Rattle.std.specs.Prelude.{List}
use Rattle.std.specs.List.{All}
use Rattle.report_text.specs.ArgumentOrder.{names_of_parameters}
use Rattle.report_text.proofs.ArgumentOrders.{order_below}
use Rattle.report_text.proofs.order.order_of.Goals as goal

pub put_number-requires-clause-order : goal.put_number-requires-clause-order
put_number-requires-clause-order c =
    subst (λ (order : List ℕ). All (λ other. other < length c.args.parameters.now) order) (sym c.loop-number.invariant)
    (order_below (names_of_parameters c.args.parameters.now) (length c.args.parameters.now) c.loop-number.number (omega (arith, c.loop-number-test.true)))
