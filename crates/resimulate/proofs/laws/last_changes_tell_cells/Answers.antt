use Rattle.resimulate.proofs.LastChanges.{last_changes_tell}
use Rattle.resimulate.proofs.RisingStates.{settled_instants_rise}
use Rattle.resimulate.proofs.laws.last_changes_tell_cells.Goals as goal

pub returns : goal.returns
returns c =
    last_changes_tell c.time_passes_in_parts.ensures c.cells_are_replayed.ensures
    (settled_instants_rise c.simulation_ends.ensures.transitions c.transitions_stand.ensures c.instants_rise.ensures.rise)
