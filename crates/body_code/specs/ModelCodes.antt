-- The list of a model's codes: those of its activity types and then those of its daemons, in the model's order.
use Rattle.std.specs.Prelude.{◌≡◌, ℕ, ◌+◌, List, ◌++◌, length, map, slice_get, Some}
use Rattle.aerie_base.specs.declared.models.Activity.{Activity}
use Rattle.aerie_base.specs.declared.models.Daemon.{Daemon}
use Rattle.aerie_base.specs.declared.models.model.Parts.{Parts}
use Rattle.body_code.specs.FlatCode.{body_code}
use Rattle.body_code.specs.Denoting.{IsCodeOf}
use Rattle.body_code.specs.declared.instructions.Instruction.{Instruction}

abbrev pub activity_codes : List Activity → List (List Instruction)
activity_codes activities = map (λ activity. body_code activity.body) activities

abbrev pub daemon_codes : List Daemon → List (List Instruction)
daemon_codes daemons = map (λ daemon. body_code daemon.body) daemons

-- the codes of a model's bodies
abbrev pub model_codes : Parts → List (List Instruction)
model_codes model = activity_codes model.activities ++ daemon_codes model.daemons

-- Each activity type's code stands at its number, and each daemon's code at its number behind those of all activity
-- types, and each stands for the statements left in its body.
pub record AreCodesOf (model : Parts) (codes : List (List Instruction)) : Type 0 where
  pub activities : (kind : ℕ) (activity : Activity) → slice_get model.activities kind ≡ Some activity →
      (code : List Instruction) × (slice_get codes kind ≡ Some code) × IsCodeOf activity.body code
  pub daemons : (number : ℕ) (daemon : Daemon) → slice_get model.daemons number ≡ Some daemon →
      (code : List Instruction) × (slice_get codes (length model.activities + number) ≡ Some code) × IsCodeOf daemon.body code
