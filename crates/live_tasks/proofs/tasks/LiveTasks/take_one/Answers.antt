use Rattle.std.proofs.Common.{subst, sym, ℕ}
use Rattle.live_tasks.specs.declared.origins.Origin.{Origin}
use Rattle.live_tasks.specs.Endings.{TakesOne, TakesChild}
use Rattle.live_tasks.proofs.Coming.{or_is}
use Rattle.live_tasks.proofs.tasks.LiveTasks.take_one.Goals as goal

pub returns-in_ok-number-in-Child-clause-takes : goal.returns-in_ok-number-in-Child-clause-takes
returns-in_ok-number-in-Child-clause-takes c =
    subst (λ (o : Origin). TakesOne c.args.now c.args.frame.now o c.args.numbers.now c.args.self.now.tables.slots.slots c.begin_child.new.self.tables.slots.slots c.in_ok-number-in-Child.number) (sym c.in-Child.is)
    (λ parent e.
    subst (λ (p : ℕ). TakesChild c.args.now p c.in-Child.own c.args.frame.now c.args.self.now.tables.slots.slots c.begin_child.new.self.tables.slots.slots c.in_ok-number-in-Child.number)
    (or_is c.args.numbers.now c.in-Child.maker 0 parent e) c.in_ok-number-in-Child.ensures.takes)
