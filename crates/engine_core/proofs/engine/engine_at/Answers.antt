use Rattle.engine_core.proofs.Transitions.{stands_there}
use Rattle.engine_core.proofs.engine.engine_at.Goals as goal

pub returns-clause-stands : goal.returns-clause-stands
returns-clause-stands c = stands_there c.args.model.now c.args.simulation c.requires.course c.requires.has_job
