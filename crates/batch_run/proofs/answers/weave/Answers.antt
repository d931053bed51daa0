-- Each frame stands in its place, and is paid for.
use Rattle.std.proofs.Common.{◌∷◌, [], ◌++◌, List, Option, arith, ap, sym, ◌∙◌}
use Rattle.std.specs.Vec.Iter.{into_iter_items}
use Rattle.run_data.specs.Batches.{cost_of}
use Rattle.run_data.specs.Counts.{cost_append}
use Rattle.run_data.specs.TaskFrames.{Frame}
use Rattle.batch_run.specs.Answers.{woven}
use Rattle.batch_run.proofs.Weaving.{one_woven, past_woven}
use Rattle.batch_run.proofs.answers.weave.Goals as goal

pub returns-then-cost-left : goal.returns-then-cost-left
returns-then-cost-left c =
    past_woven c.args.fuel c.loop-answer.left c.in-Some.answer c.in-Some-next_frame.frame (into_iter_items c.next.new.self) (into_iter_items c.loop-answer.runs) (into_iter_items c.next_frame.new.runs)
    c.loop-answer.frames (woven c.args.answers c.args.fresh) c.in-Some-next_frame.ensures c.loop-answer.invariant.costs (omega (arith, c.cost-cost.ensures, c.if-cost-left.true))
    (ap (λ (items : List (Option Frame)). c.loop-answer.frames ++ woven items (into_iter_items c.loop-answer.runs)) (sym c.in-Some.ensures.steps.0) ∙ c.loop-answer.invariant.whole)

pub loop-answer-preserved : goal.loop-answer-preserved
loop-answer-preserved c = record {
  whole =
      ap (λ (frames : List Frame). frames ++ woven (into_iter_items c.next.new.self) (into_iter_items c.next_frame.new.runs)) c.in_ok-push.ensures.pushed
      ∙ one_woven c.in-Some.answer c.in-Some-next_frame.frame (into_iter_items c.next.new.self) (into_iter_items c.loop-answer.runs) (into_iter_items c.next_frame.new.runs) c.loop-answer.frames
      (woven c.args.answers c.args.fresh) c.in-Some-next_frame.ensures
      (ap (λ (items : List (Option Frame)). c.loop-answer.frames ++ woven items (into_iter_items c.loop-answer.runs)) (sym c.in-Some.ensures.steps.0) ∙ c.loop-answer.invariant.whole);
  costs =
      omega (arith, ap cost_of c.in_ok-push.ensures.pushed, cost_append c.loop-answer.frames (c.in-Some-next_frame.frame ∷ []), c.loop-answer.invariant.costs, c.if-cost-left.false, c.cost-cost.ensures);
}
