-- What stands in front of an instant: the settled state of the one before.
use Rattle.std.specs.Prelude.{◌≡◌, ◌⊎◌, ℕ, [], ◌∷◌, ◌++◌}
use Rattle.aerie_base.specs.declared.models.model.Parts.{Parts}
use Rattle.aerie_base.specs.declared.plans.Plan.{Plan}
use Rattle.run_data.specs.Fresh.{SimulationState, instant_at, IsReached}
use Rattle.run_data.specs.Transitions.{more}
use Rattle.run_data.specs.laws.SettledInstants.{IsSettled}

-- a state follows on one that is settled, and is that of the last instant so far
pub record FollowsSettled (model : Parts) (plan : Plan) (bound : ℕ) (later : SimulationState) : Type 0 where
  pub at : SimulationState
  pub is_reached : IsReached model plan bound (more at)
  pub is_settled : IsSettled at
  pub instants : later.instants ≡ at.instants ++ (instant_at at ∷ [])
  pub spent : later.spent ≡ at.spent

-- so it is wherever no batch stands yet, but at the start
abbrev pub InstantsFollowSettled : Type 0
InstantsFollowSettled =
    (model : Parts) (plan : Plan) (bound : ℕ) (later : SimulationState) → IsReached model plan bound (more later) → later.batches ≡ [] →
    (later.instants ≡ []) ⊎ FollowsSettled model plan bound later
