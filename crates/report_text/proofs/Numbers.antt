-- A whole number of a model as a number of JSON.
use Rattle.std.proofs.Common.{◌≡◌, refl}
use Rattle.std.specs.Prelude.{ℤ, pos, negsuc}
use Rattle.serde_json.specs.Data.{number}
use Rattle.serde_json.specs.Find.{of_integer}
use Rattle.plan_edit.specs.ShownPlan.{json_of_number}

pub numbers_are_integers : (z : ℤ) → json_of_number z ≡ number (of_integer z)
numbers_are_integers (pos n) = refl
numbers_are_integers (negsuc n) = refl
