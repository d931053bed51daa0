-- The table of the types so far.
use Rattle.std.proofs.Common.{◌≡◌, length}
use Rattle.plan_edit.specs.Migrating.{IsRuleTable}
use Rattle.plan_edit.proofs.migrating.rule_table.Given as goal

abbrev pub invariant-loop-kind : goal.invariant-loop-kind
invariant-loop-kind l = record {
  table : IsRuleTable l.rules l.table.items;
  count : length l.table.items ≡ l.kind;
}
