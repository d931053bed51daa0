-- A session of which nothing is refused is well formed.
use Rattle.std.proofs.Common.{◌≡◌, ℕ, ℤ, ◌≤◌, true, List, [], ◌++◌, length, map, sym, ap, ◌∙◌, subst}
use Rattle.std.specs.List.{AllByRecursion}
use Rattle.aerie_base.specs.declared.models.model.Parts.{Parts}
use Rattle.aerie_base.specs.declared.plans.Plan.{Plan}
use Rattle.aerie_base.specs.models.Names.{are_distinct}
use Rattle.diagnostics.specs.NotedInTurn.{front_empty, back_empty, each_empty}
use Rattle.model_check.proofs.Sound.Empty.{four}
use Rattle.model_reader.specs.declared.raw.models.RawModel.{RawModel}
use Rattle.session_grammar.specs.declared.raw.sessions.RawSession.{RawSession}
use Rattle.session_grammar.specs.SessionLimits.{IsLimitedSession}
use Rattle.session_reader.specs.DatasetAnswers.{AreSeries, NamedSeries}
use Rattle.session_reader.specs.DatasetNames.{datasets_diagnostics}
use Rattle.diagnostics.specs.Diagnostics.{all_of}
use Rattle.session_reader.specs.MappingDiagnostics.{mapping_diagnostics, mappings_diagnostics, repeated_mappings}
use Rattle.session_reader.specs.MeantMappings.{mapping_meant}
use Rattle.session_reader.specs.RepeatedNames.{repeated_diagnostics}
use Rattle.session_reader.specs.Beginnings.{plan_diagnostics}
use Rattle.session_reader.specs.Sessions.{all_sections, all_sections_diagnostics, session_diagnostics, session_made}
use Rattle.commands.specs.SessionModels.{AreModels, IsMappingIn, model_limit}
use Rattle.session_reader.specs.WellFormed.{IsPlanOfFirst, IsSession, HasSectionsWithin, MayBeMade}
use Rattle.session_reader.proofs.BegunModels.{names_of_plan, number_of_plan}
use Rattle.session_reader.proofs.DifferentNames.{as_many, different, names_kept}
use Rattle.session_reader.proofs.Fits.{mappings_good}
use Rattle.session_reader.proofs.SectionRanges.{models_kept, parts_within}

module _ (models : List Parts) (raw : RawSession) (good : MayBeMade models raw) where
  empty_parts : repeated_diagnostics [] (map (λ (model : RawModel). model.name) raw.models)
      ++ (mappings_diagnostics models raw.mappings ++ (datasets_diagnostics models raw.datasets ++ all_sections_diagnostics models raw.sections)) ≡ []
  empty_parts = four (repeated_diagnostics [] (map (λ (model : RawModel). model.name) raw.models)) (mappings_diagnostics models raw.mappings) (datasets_diagnostics models raw.datasets) (all_sections_diagnostics models raw.sections)
      (back_empty (plan_diagnostics raw.plan.beginnings good.written) (session_diagnostics models raw) good.nothing)

  -- the models of the plan have the names of those as they are written, and are as many
  same_names : map (λ (model : Parts). model.name) models ≡ map (λ (model : Parts). model.name) good.written
  same_names = ap (map (λ (model : Parts). model.name)) good.begun ∙ names_of_plan raw.plan.beginnings good.written

  pub same_number : length models ≡ length raw.models
  same_number = ap length good.begun ∙ (number_of_plan raw.plan.beginnings good.written ∙ as_many raw.models good.written good.checked)

  names_differ : are_distinct (map (λ (model : Parts). model.name) models) ≡ true
  names_differ = ap are_distinct (same_names ∙ names_kept raw.models good.written good.checked)
      ∙ different (map (λ (model : RawModel). model.name) raw.models) (front_empty (repeated_diagnostics [] (map (λ (model : RawModel). model.name) raw.models)) _ empty_parts)

  mappings_fit : AllByRecursion (IsMappingIn models) (map (mapping_meant models) raw.mappings)
  mappings_fit =
      let behind = back_empty (repeated_diagnostics [] (map (λ (model : RawModel). model.name) raw.models)) _ empty_parts in
      let of_mappings = front_empty (mappings_diagnostics models raw.mappings) _ behind in
      let each = each_empty (mapping_diagnostics models) raw.mappings (back_empty (repeated_mappings [] raw.mappings) (all_of (mapping_diagnostics models) raw.mappings) of_mappings) in
      mappings_good models good.valid (subst (λ (n : ℕ). n ≤ 4) (sym same_number) good.limits.limits.few_models) raw.mappings good.limits.limits.literals each

  pub session_good : (start : ℤ) (plan : Plan) (datasets : List NamedSeries) → IsPlanOfFirst models plan → AreSeries datasets → IsSession (session_made models raw start plan datasets)
  session_good start plan datasets of_first series =
      let sections = all_sections models raw.sections in
      let kept = models_kept sections 0 models in
      let among : AreModels models (map (mapping_meant models) raw.mappings) = record {
        some_model = subst (λ (n : ℕ). 1 ≤ n) (sym same_number) good.limits.limits.some_models;
        few_models = subst (λ (n : ℕ). n ≤ model_limit) (sym same_number) good.limits.limits.few_models;
        names = names_differ;
        between = mappings_fit;
      } in
      record {
        among = subst (λ (ms : List Parts). AreModels ms (map (mapping_meant models) raw.mappings)) (sym kept) among;
        plan = subst (λ (ms : List Parts). IsPlanOfFirst ms plan) (sym kept) of_first;
        datasets = series;
      }

  pub sections_good : (count : ℕ) → IsLimitedSession count raw → (start : ℤ) (plan : Plan) (datasets : List NamedSeries) →
      AllByRecursion (HasSectionsWithin count) (session_made models raw start plan datasets).models
  sections_good count limits start plan datasets = parts_within count models raw.sections limits.constraints limits.goals limits.sequences 0 models
