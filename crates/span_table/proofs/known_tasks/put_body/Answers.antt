use Rattle.span_table.proofs.ByNumber.{none_there, puts_body}
use Rattle.span_table.proofs.known_tasks.put_body.Goals as goal

pub returns-in-Some : goal.returns-in-Some
returns-in-Some c = λ path at.
    puts_body c.args.tasks.now.entries c.args.number c.in-Some.task.now c.in-Some.ensures.unique c.in-Some.ensures.value path at.0 at.1 c.args.body

pub returns-in_default : goal.returns-in_default
returns-in_default c = λ path at. absurd (none_there c.args.tasks.now.entries c.args.number _ at.1 c.in_default.ensures.value)
