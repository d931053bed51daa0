use Rattle.std.proofs.Common.{◌≡◌, ◌∙◌, [], ap, sym, subst}
use Rattle.engine_core.specs.EngineStates.{EngineState, jobs_in, spent_in}
use Rattle.engine_core.proofs.engine.Engine.spent.Goals as goal

pub spent-requires : goal.spent-requires
spent-requires c = subst (λ (s : EngineState). jobs_in s.point ≡ [] → ⊥) (sym c.self.view_is) c.requires

pub returns : goal.returns
returns c = c.spent.ensures ∙ ap (λ (s : EngineState). spent_in s.point) c.self.view_is
