use Rattle.run_data.proofs.AlikeGenerations.{alike_by_generations}
use Rattle.run_data.proofs.Generations.{same_by_generations}
use Rattle.run_data.proofs.WaveGenerations.{generation_by_frames}
use Rattle.run_data.proofs.laws.batches.same_by_generations.Goals as goal

pub returns : goal.returns
returns c = record { same = same_by_generations; alike = alike_by_generations; frames = generation_by_frames }
