-- One more effect in front of what is gathered on its cell.
use Rattle.effect_cells.proofs.GatheredEffects.{effect_gathers}
use Rattle.effect_cells.proofs.gathering.Gathering.gather.Goals as goal

pub returns : goal.returns
returns c =
    effect_gathers c.args.self.now c.self.inside.pending.items c.self.inside.clock c.args.cell c.from-at.result c.args.entered_at c.in-Some.next c.args.effect.now c.index.result.now
    c.gathered_with.result c.self.view_is c.requires c.from-at.ensures c.in-Some.ensures.1 c.index.ensures c.gathered_with.ensures
