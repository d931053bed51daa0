-- A stepper that runs one job after another: what contracts see of it, and the steps of a wave.
use Rattle.std.specs.Prelude.{◌≡◌, ℕ, ◌+◌, List, [], ◌∷◌, ◌++◌, Option, Some, None, length}
use Rattle.aerie_base.specs.declared.models.model.Parts.{Parts}
use Rattle.body_code.specs.declared.instructions.Instruction.{Instruction}
use Rattle.run_data.specs.declared.tasks.BodyId.{BodyId}
use Rattle.run_data.specs.declared.tasks.BodyId.TheVariants as body
use Rattle.run_data.specs.TaskFrames.{Frame}

-- its codes, how many statements and tests it ran, and where its codes lie
pub record DirectStepper : Type 0 where
  pub codes : List (List Instruction)
  pub opened : ℕ
  pub codes_at : ℕ

-- where the code of a body stands among a model's codes: those of the daemons behind those of all activity types
abbrev pub code_place : Parts → BodyId → ℕ
code_place model (body.Activity kind) = kind
code_place model (body.Daemon number) = length model.activities + number

-- the frame of a step, where there is one, is put behind others and its cost is known; else no cost is
abbrev pub PutsFrame : Option Frame → Option ℕ → List Frame → List Frame → Type 0
PutsFrame None cost before after = cost ≡ None
PutsFrame (Some frame) cost before after = (cost ≡ Some frame.cost) × (after ≡ before ++ frame ∷ [])
