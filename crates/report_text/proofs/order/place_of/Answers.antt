-- A number of the same name is found.
use Rattle.std.proofs.Common.{rules, arith}
use Rattle.report_text.specs.ArgumentOrder.{names_of_parameters}
use Rattle.report_text.proofs.Placing.{same}
use Rattle.report_text.proofs.order.place_of.Goals as goal

pub returns-in-Equal-clause-placed : goal.returns-in-Equal-clause-placed
returns-in-Equal-clause-placed c =
    same (names_of_parameters c.args.parameters.now) c.args.number c.args.order.now c.loop-at.at (omega (arith, c.loop-at-test.true)) c.loop-at.invariant
    (search rules)
