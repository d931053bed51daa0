-- The position behind the maker's, the likely one, or the one that is found by the child's path.
use Rattle.std.proofs.Common.{◌∙◌, sym, subst}
use Rattle.engine_core.specs.FramePositions.{IsPositionOf}
use Rattle.engine_core.proofs.TreeParts.{is_child, has_child}
use Rattle.engine_core.proofs.batches.gathering.position_of_child.Goals as goal

pub returns-in_default : goal.returns-in_default
returns-in_default c = absurd (has_child c.args.maker.now c.args.number c.requires.room (sym c.in_default.is ∙ c.in_ok-child.ensures.child))

pub returns : goal.returns
returns c =
    subst (λ path. IsPositionOf c.args.frames.now path c.find.result) (is_child c.args.maker.now c.in-Some.child c.args.number (sym c.in-Some.is ∙ c.in_ok-child.ensures.child)) c.find.ensures
