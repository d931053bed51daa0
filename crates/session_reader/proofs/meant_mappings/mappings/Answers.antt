use Rattle.session_reader.specs.MeantMappings.{mapping_meant}
use Rattle.diagnostics.specs.Iterations.{map_iteration}
use Rattle.session_reader.proofs.meant_mappings.mappings.Goals as goal

pub loop-one-preserved : goal.loop-one-preserved
loop-one-preserved c =
    map_iteration (mapping_meant c.args.models.now)
    c.args.raw.now c.loop-one.one-index c.one-item.result c.loop-one-test.true c.one-item.is
    _ _ _ _ c.in_ok-mapping.ensures c.in_ok-push.ensures.pushed c.loop-one.invariant
