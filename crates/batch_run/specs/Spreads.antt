-- What contracts see of a stepper over two books.
use Rattle.std.specs.Prelude.{◌≡◌, ℕ, List}
use Rattle.std.specs.List.{All}
use Rattle.aerie_base.specs.declared.models.model.Parts.{Parts}
use Rattle.body_code.specs.declared.instructions.Instruction.{Instruction}
use Rattle.body_code.specs.ModelCodes.{AreCodesOf}
use Rattle.batch_run.specs.Answers.{stored_by}
use Rattle.record_book.specs.StoredSteps.{StoredSteps}
use Rattle.run_data.specs.declared.frames.Record.{Record}
use Rattle.run_data.specs.Records.{IsValid}

-- its two books, its codes, how many statements and tests it ran, and where its codes lie
pub record SpreadStepper : Type 0 where
  pub book : StoredSteps
  pub kept : StoredSteps
  pub codes : List (List Instruction)
  pub opened : ℕ
  pub codes_at : ℕ

-- the steps of both books
abbrev pub stored_in : SpreadStepper → List Record
stored_in spread = stored_by spread.book spread.kept

-- It is of a model where both books are and its codes are those of the model's bodies, so that each stored step is valid for
-- the model.
pub record IsSpreadOf (spread : SpreadStepper) (model : Parts) : Type 0 where
  pub book : spread.book.model ≡ model
  pub kept : spread.kept.model ≡ model
  pub codes : AreCodesOf model spread.codes
  pub valid : All (IsValid model) (stored_in spread)

-- all but the count stays
pub record IsSameSpread (before after : SpreadStepper) : Type 0 where
  pub book : after.book ≡ before.book
  pub kept : after.kept ≡ before.kept
  pub codes : after.codes ≡ before.codes
  pub codes_at : after.codes_at ≡ before.codes_at
