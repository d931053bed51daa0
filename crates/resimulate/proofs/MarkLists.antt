-- Lists of bookmarks of one simulation.
use Rattle.std.proofs.Common.{◌≡◌, ◌∙◌, ℕ, Bool, true, false, List, [], ◌∷◌, ◌++◌, ap, sym, if◌then◌else◌}
use Rattle.std.proofs.lemmas.List.Elements.{All-push}
use Rattle.std.specs.List.{All}
use Rattle.aerie_base.specs.declared.models.model.Parts.{Parts}
use Rattle.aerie_base.specs.declared.plans.Plan.{Plan}
use Rattle.engine_core.specs.EngineStates.{EngineState}
use Rattle.resimulate.specs.Bookmarks.{MarkedSimulation, IsMarked, IsMarkIn}

-- one that is put behind the others, if there is memory for it
pub all_pushed : {X : Type 0} (P : X → Type 0) (all : List X) (one : X) (there_is : Bool) → All P all → P one → All P (if there_is then all ++ one ∷ [] else all)
all_pushed P all one true each is = All-push P all one each is
all_pushed P all one false each is = each

-- an engine of the simulation that bookmarks are of
pub engine_in : (model : Parts) (plan : Plan) (bound : ℕ) (of : MarkedSimulation) (engine : EngineState) → IsMarked model plan bound of → engine.model ≡ model → engine.plan ≡ plan → engine.bound ≡ bound → IsMarkIn of engine
engine_in model plan bound of engine is same_model same_plan same_bound = record {
  same_model = same_model ∙ sym (ap (λ (m : MarkedSimulation). m.model) is);
  same_plan = same_plan ∙ sym (ap (λ (m : MarkedSimulation). m.plan) is);
  same_bound = same_bound ∙ sym (ap (λ (m : MarkedSimulation). m.bound) is);
}
