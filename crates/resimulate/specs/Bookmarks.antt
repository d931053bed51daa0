-- When the simulation of a plan may begin at a bookmark of another one.
use Rattle.std.specs.Prelude.{◌≡◌, ℕ, ◌<◌, Option, None, Some}
use Rattle.aerie_base.specs.declared.models.model.Parts.{Parts}
use Rattle.aerie_base.specs.declared.plans.Plan.{Plan}
use Rattle.run_data.specs.declared.runs.Run.{Run}
use Rattle.run_data.specs.laws.LateDifferences.{DifferLate}
use Rattle.run_data.specs.laws.Orders.{EachOf}
use Rattle.parting.specs.IdRanges.{is_id_between}
use Rattle.parting.specs.PlainLateness.{IsPlainlyLate}
use Rattle.engine_core.specs.EngineStates.{EngineState, IsEngineState, time_in}

-- A bookmark of the same model, whose plan differs from this one in directives of a range alone: none of them has an anchor, and none
-- is due before a time behind the bookmark's.
pub record MayResume (bookmark : EngineState) (model : Parts) (plan : Plan) (bound first past until : ℕ) : Type 0 where
  pub same_model : bookmark.model ≡ model
  pub ahead : time_in bookmark.point < until
  pub late : DifferLate (is_id_between first past) until model plan bookmark.plan bound bookmark.bound
  pub plain : EachOf (IsPlainlyLate (is_id_between first past) until) plan.directives
  pub old_plain : EachOf (IsPlainlyLate (is_id_between first past) until) bookmark.plan.directives

-- an engine of a model, a plan and a bound, wherever it stands
pub record IsEngineOf (model : Parts) (plan : Plan) (bound : ℕ) (engine : EngineState) : Type 0 where
  pub same_model : engine.model ≡ model
  pub same_plan : engine.plan ≡ plan
  pub same_bound : engine.bound ≡ bound
  pub stands : IsEngineState engine

-- ---- the bookmarks of one simulation

-- what they are of: the simulation of a plan of a model under a bound
pub record MarkedSimulation : Type 0 where
  pub model : Parts
  pub plan : Plan
  pub bound : ℕ

-- a bookmark of that simulation
pub record IsMarkOf (model : Parts) (plan : Plan) (bound : ℕ) (mark : EngineState) : Type 0 where
  pub same_model : mark.model ≡ model
  pub same_plan : mark.plan ≡ plan
  pub same_bound : mark.bound ≡ bound

abbrev pub IsMarkIn : MarkedSimulation → EngineState → Type 0
IsMarkIn of mark = IsMarkOf of.model of.plan of.bound mark

-- bookmarks of this simulation
abbrev pub IsMarked : Parts → Plan → ℕ → MarkedSimulation → Type 0
IsMarked model plan bound of = of ≡ record { model = model; plan = plan; bound = bound }

-- of the simulation of an old run, which is there
abbrev pub AreOfOld : Parts → Option Run → MarkedSimulation → Type 0
AreOfOld model None of = ⊥
AreOfOld model (Some run) of = IsMarked model run.plan run.bound of
