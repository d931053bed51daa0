-- What is under a path, is longer by one number and ends with the number is the path of the child.
use Rattle.std.proofs.Common.{arith}
use Rattle.engine_core.proofs.ChildPositions.{is_its_child}
use Rattle.engine_core.proofs.batches.gathering.is_child.Goals as goal

pub returns : goal.returns
returns c = λ holds.
    is_its_child c.args.maker.now c.args.path.now c.children-children.result.now c.children-depth.result.now c.args.number c.in-Some.last.now c.is_under.result
    c.children-children.ensures.path c.children-depth.ensures.path c.children-children.ensures.children c.children-depth.ensures.children (omega arith) (c.in-Some.ensures.lookup.3.1 c.in-Some.last.now) (omega arith)
    c.is_under.ensures holds
