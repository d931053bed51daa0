use Rattle.std.proofs.Common.{◌≡◌, drop}
use Rattle.diagnostics.specs.Diagnostics.{all_of}
use Rattle.session_reader.specs.Diagnostics.{noted}
use Rattle.session_reader.specs.MappingDiagnostics.{rule_diagnostics}
use Rattle.session_reader.proofs.mappings.note_each_rule.Given as goal

abbrev pub invariant-loop-rule : goal.invariant-loop-rule
invariant-loop-rule l =
    noted l.found (all_of (rule_diagnostics l.old l.new) (drop l.rule-index l.rules)) ≡ noted l.initial.found (all_of (rule_diagnostics l.old l.new) l.rules)
