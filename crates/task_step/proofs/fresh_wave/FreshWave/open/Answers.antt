-- What was run costs what the frames cost.
use Rattle.task_step.proofs.Counted.{counted}
use Rattle.task_step.proofs.fresh_wave.FreshWave.open.Goals as goal

pub returns-clause-frugal : goal.returns-clause-frugal
returns-clause-frugal g c = counted c.self.inside.wave c.self.inside.cost c.args.steps.now c.rise.new.self c.self.invariant c.rise.ensures
