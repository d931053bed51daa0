-- The outlook of a condition is right, where those of its parts are.
use Rattle.std.proofs.Common.{◌∙◌}
use Rattle.wait_solver.proofs.Telling.{tells_literal, tells_flag, tells_same, tells_alike, tells_not, tells_and, tells_or}
use Rattle.wait_solver.proofs.holding.+outlook_by_fold.Goals as goal

pub returns-in-Literal-clause-tells : goal.returns-in-Literal-clause-tells
returns-in-Literal-clause-tells t c = tells_literal c.args.cells.now c.args.dt c.standing.result c.args.condition.now c.in-Literal.truth c.in-Literal.is c.standing.ensures.holds

pub returns-in-Flag-clause-tells : goal.returns-in-Flag-clause-tells
returns-in-Flag-clause-tells t c =
    tells_flag c.args.cells.now c.args.dt c.standing-in-Flag.result c.args.condition.now c.in-Flag.operand c.in-Flag.is (c.standing-in-Flag.ensures.holds ∙ c.flag.ensures)

pub returns-in-Same-clause-tells : goal.returns-in-Same-clause-tells
returns-in-Same-clause-tells t c =
    tells_same c.args.cells.now c.args.dt c.standing-in-Same.result c.args.condition.now c.in-Same.left c.in-Same.right c.in-Same.equal c.in-Same.is c.requires.condition
    (c.standing-in-Same.ensures.holds ∙ c.equality.ensures)

pub returns-in-Compare-clause-tells : goal.returns-in-Compare-clause-tells
returns-in-Compare-clause-tells t c = tells_alike c.args.cells.now c.args.dt c.comparison.result c.args.condition.now _ c.in-Compare.is c.comparison.ensures.tells

pub returns-in-Not-clause-tells : goal.returns-in-Not-clause-tells
returns-in-Not-clause-tells t c =
    tells_not c.args.cells.now c.args.condition.now c.in-Not.part c.get.result.now c.args.dt c.outlook_by_fold.result c.negated.result c.in-Not.is c.get.ensures
    c.outlook_by_fold.ensures.tells c.negated.ensures.value

pub returns-in-And-clause-tells : goal.returns-in-And-clause-tells
returns-in-And-clause-tells t c =
    tells_and c.args.cells.now c.args.condition.now c.in-And.left c.in-And.right c.get-in-And.result.now c.get-in-And-2.result.now c.args.dt
    c.outlook_by_fold-left.result c.outlook_by_fold-right.result c.of_both.result c.in-And.is c.get-in-And.ensures c.get-in-And-2.ensures
    c.outlook_by_fold-left.ensures.tells c.outlook_by_fold-right.ensures.tells c.of_both.ensures.value

pub returns-in-Or-clause-tells : goal.returns-in-Or-clause-tells
returns-in-Or-clause-tells t c =
    tells_or c.args.cells.now c.args.condition.now c.in-Or.left c.in-Or.right c.get-in-Or.result.now c.get-in-Or-2.result.now c.args.dt
    c.outlook_by_fold-left-in-Or.result c.outlook_by_fold-right-in-Or.result c.of_either.result c.in-Or.is c.get-in-Or.ensures c.get-in-Or-2.ensures
    c.outlook_by_fold-left-in-Or.ensures.tells c.outlook_by_fold-right-in-Or.ensures.tells c.of_either.ensures.value
