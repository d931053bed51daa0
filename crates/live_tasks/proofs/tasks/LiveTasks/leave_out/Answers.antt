use Rattle.std.proofs.Common.{refl}
use Rattle.parting.specs.IdRanges.{is_id_between}
use Rattle.live_tasks.specs.InStep.{table_in}
use Rattle.live_tasks.proofs.CommonLeft.{left_idle, left_under_way}
use Rattle.live_tasks.proofs.tasks.LiveTasks.leave_out.Goals as goal

pub leave_out-requires-clause-idle : goal.leave_out-requires-clause-idle
leave_out-requires-clause-idle c =
    left_idle (is_id_between c.args.first c.args.past) (table_in c.args.self.now) c.args.self.now.tables.slots.slots c.requires.in_step.live_ c.requires.unbegun

pub returns-clause-left : goal.returns-clause-left
returns-clause-left c =
    left_under_way (is_id_between c.args.first c.args.past) (table_in c.args.self.now) c.args.self.now.tables.slots.slots c.requires.in_step.live_ c.requires.unbegun
    c.leave_out.new.self.slots.slots c.in_ok-leave_out.ensures.is (record c.args.self.now { tables = c.leave_out.new.self }) refl c.requires.in_step.followers_ c.in_ok-leave_out.ensures.listed.all
