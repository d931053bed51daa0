-- The commands so far are done and told.
use Rattle.std.proofs.Common.{take}
use Rattle.std.specs.String.{string_bytes}
use Rattle.client_work.specs.Working.{client_of, IsLater, IsWorkDone, work_of}
use Rattle.client_work.proofs.client_commands.work.Given as goal

abbrev pub invariant-loop-number : goal.invariant-loop-number
invariant-loop-number g l = record {
  done : IsWorkDone (work_of l.workplace.mission.now (client_of l.client) (take l.number l.commands)) l.fn.worker.pass.now l.worker.pass.now (string_bytes l.text);
  later : IsLater l.fn.worker l.worker;
}
