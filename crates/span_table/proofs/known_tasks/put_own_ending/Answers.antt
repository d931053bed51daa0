use Rattle.span_table.proofs.ByNumber.{none_there, puts_ending}
use Rattle.span_table.proofs.known_tasks.put_own_ending.Goals as goal

pub returns-in-Some : goal.returns-in-Some
returns-in-Some c = λ path above link.
    puts_ending c.args.tasks.now.entries c.args.number c.in-Some.task.now c.in-Some.ensures.unique c.in-Some.ensures.value path above link c.args.ending.now

pub returns-in-None : goal.returns-in-None
returns-in-None c = λ path above link. absurd (none_there c.args.tasks.now.entries c.args.number _ link c.in-None.ensures.value)
