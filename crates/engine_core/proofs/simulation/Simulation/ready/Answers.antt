use Rattle.std.proofs.Common.{◌∙◌}
use Rattle.engine_core.proofs.SimulationMoves.{stands_ready, ready_at, none_at_end}
use Rattle.engine_core.proofs.simulation.Simulation.ready.Goals as goal

pub returns-in-Some-clause-jobs : goal.returns-in-Some-clause-jobs
returns-in-Some-clause-jobs c = c.clear.ensures ∙ none_at_end c.args.self.now c.in-Some.field-0 c.in-Some.is

pub returns-in_ok-ready-in-None-clause-jobs : goal.returns-in_ok-ready-in-None-clause-jobs
returns-in_ok-ready-in-None-clause-jobs c = ready_at c.args.self.now c.in-None.is c.ready.new.jobs c.in_ok-ready-in-None.ensures.jobs

pub returns-in_ok-ready-in-None-clause-stands : goal.returns-in_ok-ready-in-None-clause-stands
returns-in_ok-ready-in-None-clause-stands c =
    stands_ready c.args.self.now c.ready.new.self c.in-None.is c.requires c.in_ok-ready-in-None.ensures.table c.in_ok-ready-in-None.ensures.in_step c.in_ok-ready-in-None.ensures.waits
