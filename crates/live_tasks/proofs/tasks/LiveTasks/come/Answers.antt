use Rattle.live_tasks.proofs.Settling.{fall_followers}
use Rattle.live_tasks.proofs.tasks.LiveTasks.come.Goals as goal

pub returns-clause-stay : goal.returns-clause-stay
returns-clause-stay c =
    fall_followers c.args.now c.args.to c.args.edge c.args.self.now.tables.slots.slots c.fall_all.new.tables.slots.slots c.args.self.now.followers.items c.in_ok-fall_all.ensures.falls c.requires
