use Rattle.std.proofs.Common.{◌∙◌, sym}
use Rattle.effect_cells.specs.Reads.{kind_on}
use Rattle.effect_cells.specs.SolvableLaws.{may_be_solved_is}
use Rattle.wait_solver.proofs.holding.outlook.Goals as goal

pub outlook_by_fold-requires-clause-condition : goal.outlook_by_fold-requires-clause-condition
outlook_by_fold-requires-clause-condition c = sym (may_be_solved_is (kind_on c.args.cells.now) c.args.condition.now) ∙ c.requires.condition
