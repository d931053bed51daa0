use Rattle.std.specs.Int.{w64}
use Rattle.std.proofs.lemmas.Int.{to_z-of_z}
use Rattle.constraints.proofs.IntervalsKept.{shift_kept}
use Rattle.constraints.proofs.evaluation.shifted.Goals as goal

pub returns-clause-times : goal.returns-clause-times
returns-clause-times c =
    shift_kept _ _ c.args.start c.args.end _ _ _ _ (to_z-of_z w64 c.args.start c.ranges.start) (to_z-of_z w64 c.args.end c.ranges.end) c.in_ok-made.ensures.times
