use Rattle.std.proofs.Common.{◌∙◌}
use Rattle.scheduler.proofs.trials.simulated_beside.Goals as goal

pub returns-clause-kept : goal.returns-clause-kept
returns-clause-kept g c = c.in_ok-made.ensures ∙ c.in_ok-kept.ensures.kept
