-- The first frame of the path stands there.
use Rattle.std.proofs.Common.{◌∙◌, sym, arith}
use Rattle.engine_core.proofs.ChildPositions.{stands_there}
use Rattle.engine_core.proofs.batches.gathering.stands_at.Goals as goal

pub returns : goal.returns
returns c = λ first.
    stands_there c.args.frames.now c.args.path.now c.args.at c.index-frames-at.result (omega arith) c.index-frames-at.is (sym c.path.ensures ∙ c.is_same.ensures.0 c.if-not-is_same.false)
    (c.is_first.ensures first)
