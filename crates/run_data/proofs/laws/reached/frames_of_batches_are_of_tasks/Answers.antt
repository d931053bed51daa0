use Rattle.run_data.proofs.ReachedStates.{batch_frames}
use Rattle.run_data.proofs.laws.reached.frames_of_batches_are_of_tasks.Goals as goal

pub returns : goal.returns
returns c = batch_frames
