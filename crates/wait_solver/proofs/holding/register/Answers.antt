use Rattle.std.proofs.Common.{ap, sym, ◌∙◌, Option}
use Rattle.aerie_base.specs.declared.operands.CellRead.TheVariants.{Register}
use Rattle.effect_cells.specs.Reads.{state_value}
use Rattle.effect_cells.specs.declared.effects.CellState.{CellState}
use Rattle.wait_solver.proofs.holding.register.Goals as goal

pub returns : goal.returns
returns c = c.register_value.ensures c.args.cell ∙ ap (λ (state : Option CellState). state_value (Register c.args.cell) state) (sym c.state.ensures)
