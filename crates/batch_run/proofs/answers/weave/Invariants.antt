use Rattle.std.proofs.Common.{◌≡◌, ◌+◌, ◌++◌}
use Rattle.std.specs.Vec.Iter.{into_iter_items}
use Rattle.run_data.specs.Batches.{cost_of}
use Rattle.batch_run.specs.Answers.{woven}
use Rattle.batch_run.proofs.answers.weave.Given as goal

-- the frames so far, with those that come of the answers and the runs that are left, are all; they cost what is missing of the fuel
abbrev pub invariant-loop-answer : goal.invariant-loop-answer
invariant-loop-answer l = record {
  whole : l.frames ++ woven (into_iter_items l.answer-iterator) (into_iter_items l.runs) ≡ woven l.fn.answers l.fn.fresh;
  costs : l.left + cost_of l.frames ≡ l.fuel;
}
