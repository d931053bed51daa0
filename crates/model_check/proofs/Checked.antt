-- What a check answers, by what was noted and what was made.
use Rattle.std.proofs.Common.{◌≡◌, ℕ, true, List, [], ◌∷◌, Option, Some, None, Result, IsTrue, refl, sym, ◌∙◌, subst}
use Rattle.aerie_base.specs.declared.models.model.Parts.{Parts}
use Rattle.aerie_base.specs.models.ValidModel.{valid_model}
use Rattle.model_reader.specs.declared.raw.models.RawModel.{RawModel}
use Rattle.model_check.specs.declared.check_error.CheckError.{CheckError}
use Rattle.diagnostics.specs.declared.diagnostic.Diagnostic.{Diagnostic}
use Rattle.model_check.specs.declared.causes.Cause.{Cause}
use Rattle.model_check.specs.declared.parts.CheckedParts.{CheckedParts}
use Rattle.model_check.specs.CheckAnswers.{told, ToldUnlessOutOfMemory, IsCheckOf, named_model}
use Rattle.model_check.specs.CheckedParts.{checked_parts}
use Rattle.model_check.specs.Diagnostics.{number_of_cause, first_diagnostic}
use Rattle.diagnostics.specs.NotedInTurn.{none_found}
use Rattle.model_check.specs.ModelDiagnostics.{model_diagnostics}
use Rattle.model_check.specs.ModelMeaning.{model_of}

named_is : (raw : RawModel) → named_model raw.name.name (checked_parts raw) ≡ model_of raw
unfolding model_of
named_is raw = refl

module _ (raw : RawModel) (name : List ℕ) (parts : CheckedParts) (found : Option (Diagnostic Cause)) (its_name : name ≡ raw.name.name) (its_parts : parts ≡ checked_parts raw)
    (first : found ≡ first_diagnostic (model_diagnostics raw)) where
  its_model : named_model name parts ≡ model_of raw
  its_model = (λ i. named_model (its_name i) (its_parts i)) ∙ named_is raw

  -- where nothing is found the model is valid
  pub valid_if : (model_diagnostics raw ≡ [] → valid_model (model_of raw) ≡ true) → found ≡ None → IsTrue (valid_model (named_model name parts))
  valid_if law nothing = subst (λ (model : Parts). valid_model model ≡ true) (sym its_model) (law (none_found number_of_cause (model_diagnostics raw) (sym first ∙ nothing)))

  -- what is told is the answer of a check
  pub told_if : (result : Result Parts CheckError) → ToldUnlessOutOfMemory (told found (named_model name parts)) result → IsCheckOf raw result
  told_if result = subst (λ (answer : Result Parts CheckError). ToldUnlessOutOfMemory answer result) (λ i. told (first i) (its_model i))
