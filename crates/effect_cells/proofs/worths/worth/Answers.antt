use Rattle.std.proofs.Common.{is_some, sym, ap, ◌∙◌}
use Rattle.effect_cells.specs.Folded.{worth_is}
use Rattle.effect_cells.specs.WorthLaws.{is_some_where_on}
use Rattle.effect_cells.proofs.worths.worth.Goals as goal

pub returns-clause-none : goal.returns-clause-none
returns-clause-none c =
    ap (λ worth. is_some worth) (c.tree_worth.ensures.value ∙ sym (worth_is c.args.tree.now c.args.cell))
    ∙ is_some_where_on c.args.tree.now c.args.cell
