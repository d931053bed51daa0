use Rattle.std.proofs.Common.{◌≡◌, [], Option, ap, subst}
use Rattle.engine_core.specs.EngineStates.{jobs_in, HasJob}
use Rattle.engine_core.specs.Simulations.{point_by}
use Rattle.engine_core.specs.declared.simulation.RunEnd.{RunEnd}
use Rattle.engine_core.proofs.simulation.Simulation.into_run.Goals as goal

pub unreachable-requires : goal.unreachable-requires
unreachable-requires c =
    subst (λ (o : Option RunEnd). HasJob (point_by c.args.self.request c.args.self.history c.args.self.present o)) c.in-None.is c.requires.job
    (subst (λ (o : Option RunEnd). jobs_in (point_by c.args.self.request c.args.self.history c.args.self.present o) ≡ []) c.in-None.is c.requires.none)

pub returns : goal.returns
returns c = ap (point_by c.args.self.request c.args.self.history c.args.self.present) c.in-Some.is
