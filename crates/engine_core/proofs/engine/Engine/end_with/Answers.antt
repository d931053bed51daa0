use Rattle.std.proofs.Common.{◌++◌, ◌∙◌, ap}
use Rattle.run_data.specs.laws.RestOfRuns.{completed_run}
use Rattle.engine_core.specs.EngineStates.{EngineState, instants_in}
use Rattle.engine_core.proofs.engine.Engine.end_with.Goals as goal

pub returns : goal.returns
returns c = c.in_ok-run.ensures ∙ ap (λ (s : EngineState). completed_run s.plan s.bound (instants_in s.point ++ c.args.rest.now)) c.self.view_is
