use Rattle.std.proofs.Common.{◌≡◌, take}
use Rattle.scheduler.proofs.scheduled.copy_statuses.Given as goal

-- so many copies were made as statuses were passed, each equal
abbrev pub invariant-loop-status : goal.invariant-loop-status
invariant-loop-status l = l.copies ≡ take l.status-index l.status-items
