-- Behind a settled instant that is alike in two simulations, the new one comes to where the old one comes.
use Rattle.std.specs.Prelude.{◌≡◌, ℕ, suc, ◌+◌, ◌<◌, ◌≤◌, List, ◌∷◌, ◌++◌, length, drop}
use Rattle.aerie_base.specs.declared.models.model.Parts.{Parts}
use Rattle.aerie_base.specs.declared.plans.Plan.{Plan}
use Rattle.run_data.specs.declared.runs.Instant.{Instant}
use Rattle.run_data.specs.Fresh.{SimulationState, instant_at, IsReached}
use Rattle.run_data.specs.Transitions.{more}
use Rattle.run_data.specs.laws.AlikeSteps.{Alike, BothReach}
use Rattle.run_data.specs.laws.RestOfRuns.{AlikeSettled}

-- the instants of a later state that are settled behind the one at hand
abbrev pub settled_since : SimulationState → SimulationState → List Instant
settled_since at later = drop (suc (length at.instants)) later.instants

-- The new simulation reaches a state that is alike with the later one of the old simulation: behind the instant at hand it has the
-- instants of that one, and it spent as much since.
pub record IsFollowed (model : Parts) (plan : Plan) (bound : ℕ) (at other later : SimulationState) : Type 0 where
  pub next : SimulationState
  pub reached : IsReached model plan bound (more next)
  pub alike : Alike next later
  pub instants : next.instants ≡ at.instants ++ (instant_at at ∷ settled_since other later)
  pub spent : next.spent + other.spent ≡ at.spent + later.spent

-- So it is from settled states that are alike on, at each later instant of the old simulation, where what was spent in between fits
-- what is left of the new bound.
abbrev pub SettledIsFollowed : Type 0
SettledIsFollowed =
    (model : Parts) (plan old_plan : Plan) (bound old_bound : ℕ) (at other later : SimulationState) →
    BothReach model plan old_plan bound old_bound at other → AlikeSettled at other →
    IsReached model old_plan old_bound (more later) → length other.instants < length later.instants →
    at.spent + later.spent ≤ bound + other.spent → IsFollowed model plan bound at other later
