use Rattle.span_table.proofs.NumberedPaths.{has_number}
use Rattle.span_table.proofs.numbering.number_below.Goals as goal

pub returns-in-Some : goal.returns-in-Some
returns-in-Some c = λ may.
    has_number c.args.tasks.now.entries c.in-Some.number c.args.path.now _ _ c.in-Some.ensures.key c.in-Some.ensures.entry may.0
