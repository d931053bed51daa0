use Rattle.run_data.proofs.Trees.{tree_of_frames, committed_by_frames}
use Rattle.run_data.proofs.laws.batches.tree_is_rebuilt.Goals as goal

pub returns : goal.returns
returns c = record { tree = tree_of_frames; committed = committed_by_frames }
