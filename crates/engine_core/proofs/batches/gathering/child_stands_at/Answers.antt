-- The first frame of the child's path stands there.
use Rattle.std.proofs.Common.{◌∙◌, sym, arith}
use Rattle.aerie_base.specs.Paths.{child_path}
use Rattle.engine_core.proofs.ChildPositions.{stands_there}
use Rattle.engine_core.proofs.batches.gathering.child_stands_at.Goals as goal

pub returns : goal.returns
returns c = λ first.
    stands_there c.args.frames.now (child_path c.args.maker.now c.args.number) c.args.at c.index-frames-at.result (omega arith) c.index-frames-at.is
    (sym c.path.ensures ∙ c.is_child.ensures c.if-not-is_child.false) (c.is_first.ensures first)
