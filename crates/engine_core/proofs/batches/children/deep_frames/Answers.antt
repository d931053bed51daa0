-- The frame of a child more is put behind those before.
use Rattle.engine_core.proofs.ChildViews.{deep_effect, deep_child, all_deep}
use Rattle.engine_core.proofs.batches.children.deep_frames.Goals as goal

pub loop-item-preserved-in_default : goal.loop-item-preserved-in_default
loop-item-preserved-in_default c =
    deep_effect c.args.model.now c.args.maker.now c.args.items.now c.loop-item.item-index c.item-item.result c.loop-item-test.true c.item-item.is
    c.loop-item.deep.items _ c.in_default.field-0 c.in_default.field-1 c.in_default.is c.loop-item.invariant

pub loop-item-preserved : goal.loop-item-preserved
loop-item-preserved c =
    deep_child c.args.model.now c.args.maker.now c.args.items.now c.loop-item.item-index c.item-item.result c.loop-item-test.true c.item-item.is
    c.loop-item.deep.items c.push.new.self.items _ c.in_ok-frame.frame c.in-Child.kind c.in-Child.arguments c.in-Child.is
    (rw c.as_slice.ensures at c.in_ok-frame.ensures) c.in_ok-push.ensures.items c.loop-item.invariant

pub returns : goal.returns
returns c = all_deep c.args.model.now c.args.maker.now c.loop-item.item-index c.args.items.now c.loop-item.deep.items _ c.loop-item-test.false c.loop-item.invariant
