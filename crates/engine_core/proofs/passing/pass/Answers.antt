-- Without accumulators the cells stay.
use Rattle.std.proofs.Common.{◌∙◌, sym}
use Rattle.engine_core.proofs.StillCells.{stay}
use Rattle.engine_core.proofs.passing.pass.Goals as goal

pub returns-then-not-has_accumulator : goal.returns-then-not-has_accumulator
returns-then-not-has_accumulator c =
    stay c.args.model.now c.args.cells.now c.args.dt c.requires.cells c.requires.range (sym c.has_accumulator.ensures ∙ c.if-not-has_accumulator.true)
