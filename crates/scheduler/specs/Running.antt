-- What running plans leaves of a simulator.
use Rattle.std.specs.Prelude.{◌≡◌, ℕ, ◌≤◌}
use Rattle.aerie_base.specs.declared.models.model.Parts.{Parts}

-- a simulator with the two counts of its work: of statements and tests, and of searches
abbrev pub WithCounts : Type 0 → Type 0
WithCounts S = S × ℕ × ℕ

-- Between these two states plans were run at most: the simulator is of the same model, under the same bound and over the same
-- borrowed data, and neither count fell.
pub record OnlyRanPlans {S : Type 0} (model_of : S → Parts) (bound_of address_of : S → ℕ) (before after : WithCounts S) : Type 0 where
  pub model : model_of after.0 ≡ model_of before.0
  pub bound : bound_of after.0 ≡ bound_of before.0
  pub address : address_of after.0 ≡ address_of before.0
  pub steps : before.1 ≤ after.1
  pub looks : before.2 ≤ after.2
