-- Neighbours that are in order are all in order.
use Rattle.std.proofs.Common.{◌≡◌, ◌-◌, ◌<◌, ◌∙◌, false, length, sym, arith}
use Rattle.std.proofs.lemmas.List.{get_or_read}
use Rattle.std.proofs.lemmas.List.Sorted.{all_adjacent_more}
use Rattle.run_data.specs.TaskFrames.{Frame}
use Rattle.live_tasks.specs.FrameOrders.{is_before}
use Rattle.engine_core.specs.FrameOrderLaws.{in_order_from_sort}
use Rattle.engine_core.proofs.batches.ordering.are_by_path.Goals as goal

pub loop-at-preserved : goal.loop-at-preserved
loop-at-preserved c =
    let frames = c.args.frames.now in
    let within : c.loop-at.at - 1 < length frames = omega arith in
    all_adjacent_more frames (λ (x : Frame) (y : Frame). is_before y x ≡ false) c.loop-at.at (omega arith) c.loop-at.invariant
    (λ d.
    (λ i. is_before (sym (get_or_read frames c.loop-at.at c.index-frames-at.result c.loop-at-test.true c.index-frames-at.is d) i)
    (sym (get_or_read frames (c.loop-at.at - 1) c.index-frames-at-in-loop-at.result within c.index-frames-at-in-loop-at.is d) i))
    ∙ sym c.is_before.ensures ∙ c.if-is_before.false)

pub returns : goal.returns
returns c = λ yes. in_order_from_sort c.args.frames.now (λ k d low less. c.loop-at.invariant k d (omega (arith, less, c.loop-at-test.false)))
