use Rattle.std.proofs.Common.{◌≡◌, ◌∙◌, [], ap, sym, subst}
use Rattle.engine_core.specs.EngineStates.{EngineState, jobs_in, batches_in}
use Rattle.engine_core.proofs.engine.Engine.batches.Goals as goal

pub batches-requires : goal.batches-requires
batches-requires c = subst (λ (s : EngineState). jobs_in s.point ≡ [] → ⊥) (sym c.self.view_is) c.requires

pub returns : goal.returns
returns c = c.batches.ensures ∙ ap (λ (s : EngineState). batches_in s.point) c.self.view_is
