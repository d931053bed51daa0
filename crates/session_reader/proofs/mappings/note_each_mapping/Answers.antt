use Rattle.session_reader.specs.MappingDiagnostics.{mapping_diagnostics}
use Rattle.session_reader.specs.Diagnostics.{number_of_cause}
use Rattle.diagnostics.specs.Iterations.{each_iteration}
use Rattle.session_reader.proofs.mappings.note_each_mapping.Goals as goal

pub loop-mapping-preserved : goal.loop-mapping-preserved
loop-mapping-preserved c =
    each_iteration number_of_cause (mapping_diagnostics c.args.models.now)
    c.args.mappings.now c.loop-mapping.mapping-index c.mapping-item.result c.loop-mapping-test.true c.mapping-item.is
    _ _ _ c.in_ok-note_mapping.ensures c.loop-mapping.invariant
