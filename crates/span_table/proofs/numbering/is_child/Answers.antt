use Rattle.span_table.proofs.NumberedPaths.{child_by}
use Rattle.span_table.proofs.numbering.is_child.Goals as goal

pub returns-then-children : goal.returns-then-children
returns-then-children c =
    child_by c.args.path.now c.args.other.now _ _ c.is_under.result c.children.ensures.path c.children-2.ensures.path c.children.ensures.children c.children-2.ensures.children
    c.if-children.true c.is_under.ensures
