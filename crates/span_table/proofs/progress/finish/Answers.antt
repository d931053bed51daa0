use Rattle.std.proofs.Common.{sym}
use Rattle.span_table.proofs.Endings.{is_long}
use Rattle.span_table.proofs.Marking.{finished, not_past, unfinished}
use Rattle.span_table.proofs.progress.finish.Goals as goal

pub returns-in-After : goal.returns-in-After
returns-in-After c = λ frames knows at.
    finished frames c.args.tasks.now.entries knows c.args.number c.args.span.now (is_long c.args.span.now.path c.children-numbers.ensures.path) at _ c.in-Some.task.now
    (sym c.in-Some.ensures.entry) c.in-Some.ensures.value c.in-After.end c.in-After.is c.result_of-span.result c.result_of-span.ensures

pub returns-in_default-ending : goal.returns-in_default-ending
returns-in_default-ending c = λ frames knows at.
    unfinished frames c.args.tasks.now.entries knows c.args.number c.args.span.now (is_long c.args.span.now.path c.children-numbers.ensures.path) at _ c.in-Some.task.now
    (sym c.in-Some.ensures.entry) c.in-Some.ensures.value c.in_default-ending.not-After

pub returns-in_default : goal.returns-in_default
returns-in_default c = λ frames knows at. absurd (not_past c.args.tasks.now.entries c.args.number c.args.span.now.path at (sym c.in_default.ensures.entry))
