use Rattle.std.proofs.Common.{◌+◌, ◌-◌, ◌+ℤ◌, ◌*ℤ◌, length, drop}
use Rattle.windows.specs.Linear.{segments_value}
use Rattle.constraints.proofs.Merging.{Merging}
use Rattle.constraints.proofs.sums.plus_times.Given as goal

-- pieces that go on from here make the whole
abbrev pub invariant-loop-at_sum : goal.invariant-loop-at_sum
invariant-loop-at_sum l =
    Merging l.reach (λ t. segments_value l.sum t) (λ t. segments_value l.segments t) (λ t. segments_value l.sum t +ℤ l.fn.coefficient *ℤ segments_value l.segments t)
    l.made (drop l.at_sum l.sum) (drop l.at_more l.segments) l.from

abbrev pub decreases-loop-at_sum : goal.decreases-loop-at_sum
decreases-loop-at_sum l = (length l.sum - l.at_sum) + (length l.segments - l.at_more)
