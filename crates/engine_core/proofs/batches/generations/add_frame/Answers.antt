-- By whether the path of the job has room.
use Rattle.std.proofs.Common.{◌∙◌}
use Rattle.engine_core.proofs.FrameByFrame.{adds_due, adds_deep}
use Rattle.engine_core.proofs.batches.generations.add_frame.Goals as goal

pub returns-then-children-lt-CHILD_LIMIT : goal.returns-then-children-lt-CHILD_LIMIT
returns-then-children-lt-CHILD_LIMIT c =
    adds_due c.args.model.now (c.args.number, c.args.job.now) c.args.frame c.args.made.now.items c.push.new.self.items c.args.dues c.in_ok-all.all (rw c.get.ensures at c.children.ensures.path)
    (rw c.get.ensures at (rw c.children.ensures.children at c.if-children-lt-CHILD_LIMIT.true)) c.in_ok-push.ensures.items (rw (c.as_slice.ensures ∙ c.items.ensures) at c.in_ok-all.ensures)

pub returns : goal.returns
returns c =
    adds_deep c.args.model.now (c.args.number, c.args.job.now) c.args.frame c.args.made.now.items c.push-2.new.self.items c.append.new.self.items c.in_ok-deep.deep.items c.args.dues
    (rw c.get.ensures at (rw c.children.ensures.children at c.if-children-lt-CHILD_LIMIT.false)) c.in_ok-push-2.ensures.items (rw (c.as_slice-2.ensures ∙ c.items-2.ensures) at c.in_ok-deep.ensures) c.in_ok-append.ensures.items
