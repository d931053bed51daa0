use Rattle.std.proofs.Common.{◌≡◌, ◌∙◌, [], ap, sym, subst}
use Rattle.engine_core.specs.EngineStates.{EngineState, jobs_in, time_in}
use Rattle.engine_core.proofs.engine.Engine.time.Goals as goal

pub time-requires : goal.time-requires
time-requires c = subst (λ (s : EngineState). jobs_in s.point ≡ [] → ⊥) (sym c.self.view_is) c.requires

pub returns : goal.returns
returns c = c.time.ensures ∙ ap (λ (s : EngineState). time_in s.point) c.self.view_is
