use Rattle.span_table.proofs.NumberedPaths.{is_added}
use Rattle.span_table.proofs.numbering.add.Goals as goal

pub returns : goal.returns
returns c = λ may.
    is_added c.args.tasks.now.entries _ c.args.path.now c.args.above c.requires may c.len-number.result c.len-number.ensures.len
    (rw c.in_ok-path.ensures at c.in_ok-insert.ensures.entries) (rw c.in_ok-path.ensures at c.in_ok-insert.ensures.updates.0)
