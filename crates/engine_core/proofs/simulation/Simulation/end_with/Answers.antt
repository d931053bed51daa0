use Rattle.std.proofs.Common.{◌++◌, ◌∙◌, ap, List}
use Rattle.run_data.specs.declared.runs.Instant.{Instant}
use Rattle.engine_core.proofs.SimulationBatches.{ended_run, instants_there}
use Rattle.engine_core.proofs.simulation.Simulation.end_with.Goals as goal

pub returns : goal.returns
returns c =
    ended_run c.args.self.request.plan c.args.self.request.bound _ _ _ c.end-reach.ensures
    (c.in_ok-put_shared.ensures ∙ ap (λ (l : List Instant). l ++ c.args.rest.now) (instants_there c.args.self))
