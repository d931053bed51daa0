use Rattle.std.proofs.Common.{subst}
use Rattle.span_table.specs.KnownTasks.{IsPathAt, links_of}
use Rattle.span_table.proofs.NumberedPaths.{numbered_there}
use Rattle.span_table.proofs.numbering.number_of.Goals as goal

pub returns-in-Some : goal.returns-in-Some
returns-in-Some c = λ linked.
    numbered_there c.args.tasks.now.entries c.in-Some.number c.args.path.now linked
    (subst (IsPathAt (links_of c.args.tasks.now.entries) c.in-Some.number) c.get.ensures c.in-Some.ensures)
