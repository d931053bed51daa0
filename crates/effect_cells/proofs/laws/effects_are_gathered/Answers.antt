use Rattle.effect_cells.proofs.GatheredEffects.{begins_ready, enters_with_nothing, child_is_beside, stays_ready}
use Rattle.effect_cells.proofs.laws.effects_are_gathered.Goals as goal

pub returns-clause-begins : goal.returns-clause-begins
returns-clause-begins c = begins_ready

pub returns-clause-enters : goal.returns-clause-enters
returns-clause-enters c = enters_with_nothing

pub returns-clause-child : goal.returns-clause-child
returns-clause-child c = child_is_beside

pub returns-clause-stays : goal.returns-clause-stays
returns-clause-stays c = stays_ready
