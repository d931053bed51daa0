-- The pieces into which jobs are cut, and the waves that they give.
use Rattle.std.specs.Prelude.{◌≡◌, ℕ, ◌+◌, ◌/◌, ◌%◌, min, List, [], ◌∷◌, Option, Some, None, Result, Ok, Err, IfOk, take, drop}
use Rattle.aerie_base.specs.declared.models.model.Parts.{Parts}
use Rattle.aerie_base.specs.declared.memory.OutOfMemory.{OutOfMemory}
use Rattle.run_data.specs.declared.jobs.Job.{Job}
use Rattle.run_data.specs.declared.steppers.Wave.{Wave}
use Rattle.run_data.specs.declared.steppers.Wave.TheVariants.{Frames, Spent}
use Rattle.run_data.specs.TaskFrames.{Frame}
use Rattle.run_data.specs.Waves.{unless_spent, wave_of}
use Rattle.run_data.specs.laws.Generations.{beside_frames}
use Rattle.task_step.specs.FreshWaves.{UncountedWave}

-- how many jobs a piece has at least, but for the last
abbrev pub least_jobs : ℕ
least_jobs = 2_048

-- into how many pieces of a size so many jobs are cut
abbrev pub piece_count : ℕ → ℕ → ℕ
piece_count jobs size = jobs / size + min 1 (jobs % size)

-- a wave that was run, of these jobs, which together may cost the whole fuel
abbrev pub IsWaveOf : Parts → ℕ → List Job → UncountedWave → Type 0
IsWaveOf model fuel jobs fresh = fresh.wave ≡ wave_of model fuel jobs

-- each of these is the wave of so many neighbouring jobs, unless memory ended there; together they are those of all jobs
abbrev pub ArePieces : Parts → ℕ → ℕ → List Job → List (Result UncountedWave OutOfMemory) → Type 0
ArePieces model fuel size jobs [] = jobs ≡ []
ArePieces model fuel size jobs (piece ∷ pieces) =
    IfOk piece (IsWaveOf model fuel (take size jobs)) × ArePieces model fuel size (drop size jobs) pieces

-- memory ended in none
abbrev pub HaveNoError : List (Result UncountedWave OutOfMemory) → Type 0
HaveNoError [] = Unit {0}
HaveNoError (Ok fresh ∷ pieces) = HaveNoError pieces
HaveNoError (Err error ∷ pieces) = ⊥

-- ---- the wave of all pieces

abbrev pub frames_in_wave : Wave → Option (List Frame)
frames_in_wave (Frames frames) = Some frames
frames_in_wave Spent = None

abbrev pub frames_in_piece : Result UncountedWave OutOfMemory → Option (List Frame)
frames_in_piece (Ok fresh) = frames_in_wave fresh.wave
frames_in_piece (Err error) = None

-- the frames of all pieces, in their order, or none where a piece has none
abbrev pub frames_in_pieces : List (Result UncountedWave OutOfMemory) → Option (List Frame)
frames_in_pieces [] = Some []
frames_in_pieces (piece ∷ pieces) = beside_frames (frames_in_piece piece) (frames_in_pieces pieces)

abbrev pub joined_wave : ℕ → List (Result UncountedWave OutOfMemory) → Wave
joined_wave fuel pieces = unless_spent fuel (frames_in_pieces pieces)
