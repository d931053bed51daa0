use Rattle.run_data.proofs.EndedByCount.{ended_by_count, live_has_makers, same_has_ended}
use Rattle.run_data.specs.laws.LiveAfterFrames.{live_by_paths}
use Rattle.run_data.proofs.PrunedStates.{pruned_step}
use Rattle.run_data.proofs.laws.live.what_has_ended_may_be_left_out.Goals as goal

pub returns : goal.returns
returns c = record { step = pruned_step; ended = same_has_ended; count = ended_by_count; makers = live_has_makers; paths = live_by_paths }
