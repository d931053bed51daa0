-- A model answers a check only where nothing is refused, and is then the one that is meant.
use Rattle.std.proofs.Common.{◌≡◌, true, List, [], ◌∷◌, ◌++◌, Option, Some, None, Ok, refl, sym, ◌∙◌, subst}
use Rattle.aerie_base.specs.declared.models.model.Parts.{Parts}
use Rattle.aerie_base.specs.models.ValidModel.{valid_model}
use Rattle.model_reader.specs.Limits.{IsWithinLimits}
use Rattle.model_reader.specs.declared.raw.models.RawModel.{RawModel}
use Rattle.diagnostics.specs.declared.diagnostic.Diagnostic.{Diagnostic}
use Rattle.model_check.specs.declared.causes.Cause.{Cause}
use Rattle.model_check.specs.CheckAnswers.{told, IsCheckOf}
use Rattle.model_check.specs.Diagnostics.{number_of_cause, first_diagnostic}
use Rattle.diagnostics.specs.FirstTold.{StandsAmong}
use Rattle.diagnostics.specs.NotedInTurn.{none_found}
use Rattle.model_check.specs.ModelDiagnostics.{model_diagnostics}
use Rattle.model_check.specs.ModelMeaning.{model_of}
use Rattle.model_check.proofs.Sound.Models.{is_valid}

answered : (first : Option (Diagnostic Cause)) (meant model : Parts) → told first meant ≡ Ok model → (first ≡ None) × (model ≡ meant)
answered None meant model e = (refl, cc)
answered (Some one) meant model e = cc

pub nothing_refused : (raw : RawModel) (model : Parts) → IsCheckOf raw (Ok model) → model_diagnostics raw ≡ []
nothing_refused raw model is = none_found number_of_cause (model_diagnostics raw) (answered (first_diagnostic (model_diagnostics raw)) (model_of raw) model is).0

one_is_some : (one : Diagnostic Cause) (front behind : List (Diagnostic Cause)) → front ++ (one ∷ behind) ≡ [] → ⊥
one_is_some one [] behind e = cc
one_is_some one (other ∷ front) behind e = cc

pub no_answer : (raw : RawModel) (one : Diagnostic Cause) (model : Parts) → StandsAmong one (model_diagnostics raw) → IsCheckOf raw (Ok model) → ⊥
no_answer raw one model stands is = one_is_some one stands.0 stands.1 (sym stands.2 ∙ nothing_refused raw model is)

pub is_meant : (raw : RawModel) (model : Parts) → IsCheckOf raw (Ok model) → model ≡ model_of raw
is_meant raw model is = (answered (first_diagnostic (model_diagnostics raw)) (model_of raw) model is).1

pub is_valid_too : (raw : RawModel) (model : Parts) → IsWithinLimits raw → IsCheckOf raw (Ok model) → valid_model model ≡ true
is_valid_too raw model within is =
    subst (λ (one : Parts). valid_model one ≡ true) (sym (is_meant raw model is)) (is_valid raw within (nothing_refused raw model is))
