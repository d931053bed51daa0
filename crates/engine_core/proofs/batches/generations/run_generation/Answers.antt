-- The wave of the jobs tells their frames as the bound does.
use Rattle.std.proofs.Common.{◌≡◌, ℕ, ◌∙◌, length, sym, ap, arith}
use Rattle.std.proofs.lemmas.List.{length-map}
use Rattle.run_data.specs.declared.jobs.Job.{Job}
use Rattle.run_data.specs.declared.steppers.Wave.TheVariants.{Frames}
use Rattle.run_data.specs.Waves.{wave_of}
use Rattle.engine_core.specs.BatchGenerations.{jobs_of}
use Rattle.engine_core.proofs.FrameByFrame.{as_many, frame_counts}
use Rattle.engine_core.proofs.batches.generations.run_generation.Goals as goal

pub add_frames-requires-clause-as_many : goal.add_frames-requires-clause-as_many
add_frames-requires-clause-as_many g c =
    let wave : wave_of c.args.model.now c.args.fuel (jobs_of c.args.jobs.now) ≡ Frames c.in-Frames.frames = rw c.jobs.ensures at (sym c.in_ok-frames.ensures.wave ∙ c.in-Frames.is) in
    let tells = c.waves_go_by_what_is_left.ensures.frames c.args.model.now c.args.fuel c.args.bound (jobs_of c.args.jobs.now) c.in-Frames.frames c.requires.fuel wave in
    as_many c.args.model.now c.args.bound c.args.jobs.now c.in-Frames.frames tells.0

pub add_frames-requires-clause-seen : goal.add_frames-requires-clause-seen
add_frames-requires-clause-seen g c =
    let wave : wave_of c.args.model.now c.args.fuel (jobs_of c.args.jobs.now) ≡ Frames c.in-Frames.frames = rw c.jobs.ensures at (sym c.in_ok-frames.ensures.wave ∙ c.in-Frames.is) in
    let tells = c.waves_go_by_what_is_left.ensures.frames c.args.model.now c.args.fuel c.args.bound (jobs_of c.args.jobs.now) c.in-Frames.frames c.requires.fuel wave in
    c.requires.jobs.seen c.in-Frames.frames tells.0

pub returns-in_ok-dues-in-Frames-clause-iteration : goal.returns-in_ok-dues-in-Frames-clause-iteration
returns-in_ok-dues-in-Frames-clause-iteration g c =
    let wave : wave_of c.args.model.now c.args.fuel (jobs_of c.args.jobs.now) ≡ Frames c.in-Frames.frames = rw c.jobs.ensures at (sym c.in_ok-frames.ensures.wave ∙ c.in-Frames.is) in
    let tells = c.waves_go_by_what_is_left.ensures.frames c.args.model.now c.args.fuel c.args.bound (jobs_of c.args.jobs.now) c.in-Frames.frames c.requires.fuel wave in
    let costs = rw c.as_slice.ensures at c.cost.ensures in
    (c.in-Frames.frames, wave, c.in_ok-dues-in-Frames.ensures, omega (arith, tells.1, costs, c.ranges.fuel.fits))

pub returns-in_ok-dues-in-Frames-clause-pays : goal.returns-in_ok-dues-in-Frames-clause-pays
returns-in_ok-dues-in-Frames-clause-pays g c =
    let wave : wave_of c.args.model.now c.args.fuel (jobs_of c.args.jobs.now) ≡ Frames c.in-Frames.frames = rw c.jobs.ensures at (sym c.in_ok-frames.ensures.wave ∙ c.in-Frames.is) in
    let tells = c.waves_go_by_what_is_left.ensures.frames c.args.model.now c.args.fuel c.args.bound (jobs_of c.args.jobs.now) c.in-Frames.frames c.requires.fuel wave in
    let many = as_many c.args.model.now c.args.bound c.args.jobs.now c.in-Frames.frames tells.0 in
    let counts = frame_counts c.args.model.now c.args.jobs.now c.in-Frames.frames c.args.made.now.items c.add_frames.new.made.items c.in_ok-dues-in-Frames.dues many c.in_ok-dues-in-Frames.ensures in
    let paid = rw c.in-Frames.is at c.in_ok-frames.ensures.frugal in
    omega (arith, counts.unmatched_too (g.S.Stepper.records c.args.stepper.now), paid)

pub returns-in_ok-dues-in-Frames-clause-few_looks : goal.returns-in_ok-dues-in-Frames-clause-few_looks
returns-in_ok-dues-in-Frames-clause-few_looks g c =
    let wave : wave_of c.args.model.now c.args.fuel (jobs_of c.args.jobs.now) ≡ Frames c.in-Frames.frames = rw c.jobs.ensures at (sym c.in_ok-frames.ensures.wave ∙ c.in-Frames.is) in
    let tells = c.waves_go_by_what_is_left.ensures.frames c.args.model.now c.args.fuel c.args.bound (jobs_of c.args.jobs.now) c.in-Frames.frames c.requires.fuel wave in
    let many = as_many c.args.model.now c.args.bound c.args.jobs.now c.in-Frames.frames tells.0 in
    let counts = frame_counts c.args.model.now c.args.jobs.now c.in-Frames.frames c.args.made.now.items c.add_frames.new.made.items c.in_ok-dues-in-Frames.dues many c.in_ok-dues-in-Frames.ensures in
    let jobs : length c.jobs.result.now ≡ length (jobs_of c.args.jobs.now) = ap length c.jobs.ensures in
    let pairs = length-map c.args.jobs.now (λ (job : ℕ × Job). job.1) in
    omega (arith, counts.many, many, jobs, pairs, c.in_ok-frames.ensures.few_looks)
