use Rattle.std.proofs.Common.{◌≡◌, ◌+◌, drop}
use Rattle.run_data.specs.laws.RunCosts.{cost_of_batches}
use Rattle.resimulate.proofs.costs.left_after_batches.Given as goal

-- the batches before this one are paid for
abbrev pub invariant-loop-frames : goal.invariant-loop-frames
invariant-loop-frames l = l.less + cost_of_batches l.batches ≡ l.left + cost_of_batches (drop l.frames-index l.batches)
