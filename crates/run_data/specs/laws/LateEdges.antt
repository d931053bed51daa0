-- The edges of directives come once and for all, so one state tells of all those before it.
use Rattle.std.specs.Prelude.{◌≡◌, ◌⊎◌, ℕ, ◌+◌, ◌≤◌, Bool, true, false, IsTrue}
use Rattle.aerie_base.specs.declared.models.model.Parts.{Parts}
use Rattle.aerie_base.specs.declared.plans.Edge.{Edge}
use Rattle.aerie_base.specs.declared.plans.Plan.{Plan}
use Rattle.aerie_base.specs.models.ValidModel.{valid_model}
use Rattle.aerie_base.specs.plans.OfModel.{IsPlanOf}
use Rattle.run_data.specs.declared.runs.Run.{Run}
use Rattle.run_data.specs.Endings.{has_come}
use Rattle.run_data.specs.Fresh.{SimulationState, IsReached, next_state}
use Rattle.run_data.specs.Transitions.{more, finished}
use Rattle.run_data.specs.laws.LateDifferences.{ComesLate}
use Rattle.run_data.specs.laws.UnbegunDirectives.{ComesAt}

-- an edge that has come has come ever after
abbrev pub EdgesStay : Type 0
EdgesStay =
    (model : Parts) (plan : Plan) (bound : ℕ) (at next : SimulationState) → IsTrue (valid_model model) → IsPlanOf model plan →
    IsReached model plan bound (more at) → next_state model plan bound at ≡ more next →
    (to : ℕ) (edge : Edge) → has_come at.table to edge ≡ true → has_come next.table to edge ≡ true

-- an edge that comes at a time comes late where the start so much after it is not before the other time
abbrev pub LateByTime : Type 0
LateByTime =
    (differs : ℕ → Bool) (until : ℕ) (model : Parts) (plan : Plan) (bound : ℕ) (to : ℕ) (edge : Edge) (time start : ℕ) →
    IsTrue (valid_model model) → IsPlanOf model plan → ComesAt model plan bound to edge time → until ≤ time + start →
    ComesLate differs until model plan bound to edge start

-- so does one that has not come in a state which is not before the time, or is the last of the simulation
abbrev pub LateByAbsence : Type 0
LateByAbsence =
    (differs : ℕ → Bool) (until : ℕ) (model : Parts) (plan : Plan) (bound : ℕ) (to : ℕ) (edge : Edge) (start : ℕ) (last : SimulationState) →
    IsTrue (valid_model model) → IsPlanOf model plan → IsReached model plan bound (more last) → has_come last.table to edge ≡ false →
    (until ≤ last.time) ⊎ ((run : Run) × (next_state model plan bound last ≡ finished run)) →
    ComesLate differs until model plan bound to edge start
