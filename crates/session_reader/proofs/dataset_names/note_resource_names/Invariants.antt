use Rattle.std.proofs.Common.{◌≡◌, drop}
use Rattle.diagnostics.specs.Diagnostics.{all_of}
use Rattle.session_reader.specs.Diagnostics.{noted}
use Rattle.session_reader.specs.DatasetNames.{dataset_diagnostics}
use Rattle.session_reader.proofs.dataset_names.note_resource_names.Given as goal

abbrev pub invariant-loop-dataset : goal.invariant-loop-dataset
invariant-loop-dataset l =
    noted l.found (all_of (dataset_diagnostics l.models) (drop l.dataset-index l.datasets)) ≡ noted l.initial.found (all_of (dataset_diagnostics l.models) l.datasets)
