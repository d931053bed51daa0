use Rattle.effect_cells.proofs.KeptWakes.{passes_in_parts}
use Rattle.effect_cells.proofs.laws.time_passes_in_parts.Goals as goal

pub returns : goal.returns
returns c = passes_in_parts
