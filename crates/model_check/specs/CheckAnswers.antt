-- What a check of a model answers: the first refusal, or the model that is meant.
use Rattle.std.specs.Prelude.{◌≡◌, ℕ, List, codes, Option, Some, None, Result, Ok, Err}
use Rattle.aerie_base.specs.declared.models.model.Parts.{Parts}
use Rattle.aerie_base.specs.declared.places.Place.{Place}
use Rattle.model_reader.specs.declared.raw.models.RawModel.{RawModel}
use Rattle.model_check.specs.declared.check_error.CheckError.{CheckError}
use Rattle.model_check.specs.declared.check_error.CheckError.TheVariants as error
use Rattle.model_check.specs.declared.causes.Cause.{Cause}
use Rattle.model_check.specs.declared.causes.Cause.TheVariants as cause
use Rattle.diagnostics.specs.declared.diagnostic.Diagnostic.{Diagnostic}
use Rattle.model_check.specs.declared.parts.CheckedParts.{CheckedParts}
use Rattle.model_check.specs.ModelDiagnostics.{first_refused}
use Rattle.model_check.specs.ModelMeaning.{model_of}

-- the error that tells a cause at its place
abbrev pub error_at : Cause → Place → CheckError
error_at cause.Unknown at = error.Unknown at
error_at cause.Duplicate at = error.Duplicate at
error_at cause.WrongType at = error.WrongType at
error_at cause.NotLinear at = error.NotLinear at
error_at cause.OutOfRange at = error.OutOfRange at
error_at cause.TooManyLocals at = error.TooMany (codes "locals") at
error_at cause.TooManyTerms at = error.TooMany (codes "terms") at

-- what is refused, or else this model
abbrev pub told : Option (Diagnostic Cause) → Parts → Result Parts CheckError
told None model = Ok model
told (Some diagnostic) model = Err (error_at diagnostic.cause diagnostic.place)

-- the answer is this one, unless memory ran out
abbrev pub ToldUnlessOutOfMemory : Result Parts CheckError → Result Parts CheckError → Type 0
ToldUnlessOutOfMemory answer (Ok model) = answer ≡ Ok model
ToldUnlessOutOfMemory answer (Err (error.Unknown place)) = answer ≡ Err (error.Unknown place)
ToldUnlessOutOfMemory answer (Err (error.Duplicate place)) = answer ≡ Err (error.Duplicate place)
ToldUnlessOutOfMemory answer (Err (error.WrongType place)) = answer ≡ Err (error.WrongType place)
ToldUnlessOutOfMemory answer (Err (error.NotLinear place)) = answer ≡ Err (error.NotLinear place)
ToldUnlessOutOfMemory answer (Err (error.OutOfRange place)) = answer ≡ Err (error.OutOfRange place)
ToldUnlessOutOfMemory answer (Err (error.TooMany what place)) = answer ≡ Err (error.TooMany what place)
ToldUnlessOutOfMemory answer (Err error.OutOfMemory) = Unit {0}

-- the answer of a check: the first refusal of the model as it is written, or the model that it means
abbrev pub IsCheckOf : RawModel → Result Parts CheckError → Type 0
IsCheckOf raw result = ToldUnlessOutOfMemory (told (first_refused raw) (model_of raw)) result

-- the model of this name with these parts
abbrev pub named_model : List ℕ → CheckedParts → Parts
named_model name parts =
    record {
      name = name;
      enums = parts.enums;
      cells = parts.cells;
      resources = parts.resources;
      activities = parts.activities;
      daemons = parts.daemons;
    }
