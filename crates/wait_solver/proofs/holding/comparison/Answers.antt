use Rattle.std.proofs.Common.{◌∙◌, ap}
use Rattle.aerie_base.specs.expressions.Arithmetic.{compared}
use Rattle.wait_solver.specs.Changes.{until_change}
use Rattle.wait_solver.specs.Lines.{line_value, gap_from}
use Rattle.wait_solver.proofs.Telling.{tells_compare}
use Rattle.wait_solver.proofs.holding.comparison.Goals as goal

pub returns-clause-tells : goal.returns-clause-tells
returns-clause-tells c =
    tells_compare c.args.cells.now c.args.dt _ c.args.left.now c.args.how c.args.right.now
    (c.compares_at-holds.ensures ∙ (λ i. compared c.args.how (line_value (c.form_line-left.ensures.value i) c.args.dt) (line_value (c.form_line-right.ensures.value i) c.args.dt)))
    (c.until_change-stays.ensures.value ∙ ap until_change (c.gap_from.ensures.value ∙ (λ i. gap_from c.args.dt (c.form_line-left.ensures.value i) (c.form_line-right.ensures.value i))))
