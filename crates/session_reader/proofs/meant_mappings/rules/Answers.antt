use Rattle.session_reader.specs.MeantMappings.{rule_meant}
use Rattle.diagnostics.specs.Iterations.{map_iteration}
use Rattle.session_reader.proofs.meant_mappings.rules.Goals as goal

pub loop-one-preserved : goal.loop-one-preserved
loop-one-preserved c =
    map_iteration (rule_meant c.args.old.now c.args.new.now)
    c.args.raw.now c.loop-one.one-index c.one-item.result c.loop-one-test.true c.one-item.is
    _ _ _ _ c.in_ok-rule.ensures c.in_ok-push.ensures.pushed c.loop-one.invariant
