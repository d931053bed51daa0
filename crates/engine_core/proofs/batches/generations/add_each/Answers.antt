-- Frames and jobs are passed side by side.
use Rattle.std.proofs.Common.{◌≤◌, ◌∙◌, sym, length, arith}
use Rattle.engine_core.proofs.FrameByFrame.{frame_iteration, frames_end, pair_here, first_of_rest}
use Rattle.engine_core.proofs.batches.generations.add_each.Goals as goal

pub add_frame-requires : goal.add_frame-requires
add_frame-requires c =
    let here = first_of_rest c.args.frames c.loop-frame.at c.in-Some.frame _ (sym c.in-Some.ensures.steps.0 ∙ c.loop-frame.invariant.left) in
    let job = pair_here c.args.jobs.now c.loop-frame.at c.made.result c.index-jobs-at.result c.made.ensures (rw c.jobs.ensures at c.index-jobs-at.is) in
    c.requires.seen c.loop-frame.at (c.made.result, c.index-jobs-at.result) c.in-Some.frame job here.0

pub loop-frame-preserved : goal.loop-frame-preserved
loop-frame-preserved c =
    let here = first_of_rest c.args.frames c.loop-frame.at c.in-Some.frame _ (sym c.in-Some.ensures.steps.0 ∙ c.loop-frame.invariant.left) in
    let job = pair_here c.args.jobs.now c.loop-frame.at c.made.result c.index-jobs-at.result c.made.ensures (rw c.jobs.ensures at c.index-jobs-at.is) in
    record {
      left = here.1;
      count = omega (arith, c.in-Some.ensures.steps.1, c.loop-frame.invariant.count);
      made =
          frame_iteration c.args.model.now c.args.jobs.now c.args.frames c.loop-frame.made.items c.add_frame.new.made.items c.loop-frame.dues c.in_ok-dues.dues _ c.loop-frame.at
          (c.made.result, c.index-jobs-at.result) c.in-Some.frame job here.0 c.in_ok-dues.ensures c.loop-frame.invariant.made;
    }

pub returns : goal.returns
returns c =
    let past : length c.args.jobs.now ≤ c.loop-frame.at = omega (arith, c.in-None.ensures.steps.0, c.loop-frame.invariant.count, c.requires.as_many) in
    frames_end c.args.model.now c.args.jobs.now c.args.frames c.loop-frame.made.items c.loop-frame.dues _ c.loop-frame.at past c.loop-frame.invariant.made
