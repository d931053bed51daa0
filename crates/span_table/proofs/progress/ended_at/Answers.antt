use Rattle.std.proofs.Common.{subst}
use Rattle.span_table.specs.KnownTasks.{IsMakerOf, links_of}
use Rattle.span_table.specs.Progress.{KnowsLast}
use Rattle.span_table.proofs.Stops.{last_have, maker_have, same_time}
use Rattle.span_table.proofs.progress.ended_at.Goals as goal

pub returns-in-Some-maker_of : goal.returns-in-Some-maker_of
returns-in-Some-maker_of c = λ frames knows last.
    let tasks = c.args.tasks.now.entries in
    maker_have frames tasks knows c.in-Some.frame (subst (KnowsLast frames (links_of tasks)) c.in-Some.is last) c.args.time (same_time c.in-Some.frame.time c.args.time c.ne.result c.ne.ensures c.if-ne.false) c.in-Some-maker_of.maker
    (subst (IsMakerOf tasks c.in-Some.frame.number) c.in-Some-maker_of.is c.maker_of.ensures)

pub returns-in-None : goal.returns-in-None
returns-in-None c = λ frames knows last.
    let tasks = c.args.tasks.now.entries in
    last_have frames tasks knows c.in-Some.frame (subst (KnowsLast frames (links_of tasks)) c.in-Some.is last) c.args.time (same_time c.in-Some.frame.time c.args.time c.ne.result c.ne.ensures c.if-ne.false)
