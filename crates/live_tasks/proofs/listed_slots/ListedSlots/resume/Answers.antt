use Rattle.live_tasks.proofs.ListedDelays.{resumed_listed}
use Rattle.std.proofs.Common.{refl}
use Rattle.live_tasks.proofs.KeepsWaits.{keeps_listed, rested_waits}
use Rattle.live_tasks.proofs.listed_slots.ListedSlots.resume.Goals as goal

pub returns-clause-listed : goal.returns-clause-listed
returns-clause-listed c =
    resumed_listed _ _ c.args.number c.args.now c.rest.ensures.is _ _ _ _ c.requires.due (c.end_first.ensures.less c.args.now c.args.number c.requires.due) c.end_first.ensures.heap c.requires.listed c.in_ok-push_if.ensures

pub returns-clause-waits : goal.returns-clause-waits
returns-clause-waits c = keeps_listed c.args.self.now c.rest.new.slots.slots c.rest.new.slots.slots c.args.self.now.waits c.args.number _ c.rest.ensures.is (rested_waits c.args.now _) refl refl
