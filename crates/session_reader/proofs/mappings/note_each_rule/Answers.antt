use Rattle.session_reader.specs.MappingDiagnostics.{rule_diagnostics}
use Rattle.session_reader.specs.Diagnostics.{number_of_cause}
use Rattle.diagnostics.specs.Iterations.{each_iteration}
use Rattle.session_reader.proofs.mappings.note_each_rule.Goals as goal

pub loop-rule-preserved : goal.loop-rule-preserved
loop-rule-preserved c =
    each_iteration number_of_cause (rule_diagnostics c.args.old.now c.args.new.now)
    c.args.rules.now c.loop-rule.rule-index c.rule-item.result c.loop-rule-test.true c.rule-item.is
    _ _ _ c.in_ok-note_rule.ensures c.loop-rule.invariant
