-- The models of a session, each as its own check says.
use Rattle.std.specs.Prelude.{IsTrue, List, [], ◌∷◌, Result, Ok, Err}
use Rattle.std.specs.List.{AllByRecursion}
use Rattle.aerie_base.specs.declared.models.model.Parts.{Parts}
use Rattle.aerie_base.specs.models.ValidModel.{valid_model}
use Rattle.model_check.specs.declared.check_error.CheckError.{CheckError}
use Rattle.model_check.specs.declared.check_error.CheckError.TheVariants as error
use Rattle.model_check.specs.CheckAnswers.{told}
use Rattle.model_check.specs.ModelDiagnostics.{first_refused}
use Rattle.model_check.specs.ModelMeaning.{model_of}
use Rattle.model_reader.specs.declared.raw.models.RawModel.{RawModel}
use Rattle.session_reader.specs.declared.session_error.SessionError.{SessionError}
use Rattle.session_reader.specs.declared.session_error.SessionError.TheVariants.{Check, OutOfMemory}
use Rattle.session_reader.specs.Answers.{Answer, in_front}

abbrev pub of_check : Result Parts CheckError → Answer Parts
of_check (Ok model) = Ok model
of_check (Err refusal) = Err (Check refusal)

-- want of memory in a check is that of the session
abbrev pub check_refusal : CheckError → SessionError
check_refusal (error.Unknown place) = Check (error.Unknown place)
check_refusal (error.Duplicate place) = Check (error.Duplicate place)
check_refusal (error.WrongType place) = Check (error.WrongType place)
check_refusal (error.NotLinear place) = Check (error.NotLinear place)
check_refusal (error.OutOfRange place) = Check (error.OutOfRange place)
check_refusal (error.TooMany what place) = Check (error.TooMany what place)
check_refusal error.OutOfMemory = OutOfMemory

-- the model that is meant, or the first refusal of its own check
abbrev pub model_answer : RawModel → Answer Parts
model_answer raw = of_check (told (first_refused raw) (model_of raw))

-- the models, or the refusal of the first one that is refused
abbrev pub models_answer : List RawModel → Answer (List Parts)
models_answer [] = Ok []
models_answer (raw ∷ rest) = in_front (model_answer raw) (models_answer rest)

-- each of them is a valid model
abbrev pub AreValid : List Parts → Type 0
AreValid = AllByRecursion (λ model. IsTrue (valid_model model))
