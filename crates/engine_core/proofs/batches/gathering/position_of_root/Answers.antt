-- The likely position, where the frame stands there, and else the one that is found.
use Rattle.std.proofs.Common.{Some, subst}
use Rattle.engine_core.specs.FramePositions.{IsPositionOf}
use Rattle.engine_core.proofs.batches.gathering.position_of_root.Goals as goal

pub returns-then-stands_at : goal.returns-then-stands_at
returns-then-stands_at c = subst (λ path. IsPositionOf c.args.frames.now path (Some c.likely_position-likely.result)) c.get-path.ensures (c.stands_at.ensures c.if-stands_at.true)

pub returns : goal.returns
returns c = subst (λ path. IsPositionOf c.args.frames.now path c.find.result) c.get-path.ensures c.find.ensures
