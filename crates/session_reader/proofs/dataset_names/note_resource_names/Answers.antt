use Rattle.std.proofs.Common.{Bool, not, ap, ◌∙◌}
use Rattle.session_reader.specs.DatasetNames.{dataset_diagnostics}
use Rattle.diagnostics.specs.Diagnostics.{refused_unless}
use Rattle.session_reader.specs.Diagnostics.{number_of_cause, noted}
use Rattle.session_reader.specs.declared.causes.Cause.TheVariants.{Duplicate}
use Rattle.diagnostics.specs.Iterations.{each_iteration}
use Rattle.session_reader.proofs.dataset_names.note_resource_names.Goals as goal

pub loop-dataset-preserved : goal.loop-dataset-preserved
loop-dataset-preserved c =
    each_iteration number_of_cause (dataset_diagnostics c.args.models.now)
    c.args.datasets.now c.loop-dataset.dataset-index c.dataset-item.result c.loop-dataset-test.true c.dataset-item.is
    c.loop-dataset.found _ _
    (c.note_unless.ensures ∙ ap (λ (taken : Bool). noted c.loop-dataset.found (refused_unless (not taken) Duplicate c.dataset-item.result.name.at)) c.is_resource_name-is_free.ensures)
    c.loop-dataset.invariant
