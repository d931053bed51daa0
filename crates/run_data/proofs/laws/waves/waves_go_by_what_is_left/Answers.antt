use Rattle.run_data.proofs.WaveFuel.{wave_tells_frames, spent_is_limit}
use Rattle.run_data.proofs.laws.waves.waves_go_by_what_is_left.Goals as goal

pub returns : goal.returns
returns c = record { frames = wave_tells_frames; limit = spent_is_limit }
