-- All frames of the batch are judged.
use Rattle.std.proofs.Common.{Vec, Global}
use Rattle.run_data.specs.TaskFrames.{Frame}
use Rattle.engine_core.proofs.BatchJudging.{due_jobs, all_made, no_frames, end_frugal, end_few_looks}
use Rattle.engine_core.proofs.batches.run_batch.Goals as goal

pub all_frames-requires-clause-jobs : goal.all_frames-requires-clause-jobs
all_frames-requires-clause-jobs g c = due_jobs c.args.model.now c.args.bound c.args.spent c.args.cells.now c.args.ready.now c.requires.spent c.requires.bound c.requires.ready

pub returns-in_default-clause-end : goal.returns-in_default-clause-end
returns-in_default-clause-end g c =
    no_frames (λ (all : Vec Frame Global). all.items) c.in_ok-made.made c.args.model.now c.args.bound c.args.spent c.args.ready.now c.in_default.is c.in_ok-made.ensures.frames c.args.cells.now

pub judge-requires-clause-made : goal.judge-requires-clause-made
judge-requires-clause-made g c =
    all_made (λ (all : Vec Frame Global). all.items) c.in_ok-made.made c.same_by_generations.ensures.alike c.args.model.now c.args.bound c.args.spent c.args.ready.now c.in-Some.frames
    c.requires.ready.apart c.in-Some.is c.in_ok-made.ensures.frames

pub returns-clause-frugal : goal.returns-clause-frugal
returns-clause-frugal g c =
    end_frugal (λ (all : Vec Frame Global). all.items) c.in_ok-made.made c.in-Some.frames (g.S.Stepper.records c.args.stepper.now) c.args.steps.now c.all_frames.new.steps c.in_ok-end.end c.in-Some.is
    c.in_ok-made.ensures.pays c.in_ok-end.ensures.frames

pub returns-clause-few_looks : goal.returns-clause-few_looks
returns-clause-few_looks g c =
    end_few_looks (λ (all : Vec Frame Global). all.items) c.in_ok-made.made c.in-Some.frames c.args.looks.now c.all_frames.new.looks c.in_ok-end.end c.in-Some.is
    c.in_ok-made.ensures.few_looks c.in_ok-end.ensures.frames
