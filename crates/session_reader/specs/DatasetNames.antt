-- The names of datasets: none is that of an earlier one or of a resource of any model.
use Rattle.std.specs.Prelude.{ℕ, Bool, not, List, [], ◌++◌, map}
use Rattle.std.specs.List.{list_any}
use Rattle.aerie_base.specs.declared.models.model.Parts.{Parts}
use Rattle.aerie_base.specs.models.Names.{same_name}
use Rattle.session_grammar.specs.declared.raw.plans.RawDataset.{RawDataset}
use Rattle.session_reader.specs.declared.causes.Cause.TheVariants.{Duplicate}
use Rattle.diagnostics.specs.declared.diagnostic.Diagnostic.{Diagnostic}
use Rattle.session_reader.specs.declared.causes.Cause.{Cause}
use Rattle.diagnostics.specs.Diagnostics.{refused_unless, all_of}
use Rattle.session_reader.specs.RepeatedNames.{repeated_diagnostics}

-- whether a resource of a model has the name
abbrev pub has_resource : List ℕ → Parts → Bool
has_resource name model = list_any (λ resource. same_name resource.0 name) model.resources

-- whether a resource of one of the models has the name
abbrev pub is_resource_name : List Parts → List ℕ → Bool
is_resource_name models name = list_any (has_resource name) models

abbrev pub dataset_diagnostics : List Parts → RawDataset → List (Diagnostic Cause)
dataset_diagnostics models raw = refused_unless (not (is_resource_name models raw.name.name)) Duplicate raw.name.at

abbrev pub datasets_diagnostics : List Parts → List RawDataset → List (Diagnostic Cause)
datasets_diagnostics models datasets =
    repeated_diagnostics [] (map (λ raw. raw.name) datasets) ++ all_of (dataset_diagnostics models) datasets
