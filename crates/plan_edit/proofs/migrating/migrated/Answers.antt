use Rattle.std.proofs.Common.{List, ap, sym, ◌∙◌}
use Rattle.plan_edit.specs.declared.mappings.TypeRule.{TypeRule}
use Rattle.plan_edit.specs.Migrating.{rule_of}
use Rattle.plan_edit.proofs.Migrations.{rule_is}
use Rattle.plan_edit.proofs.migrating.migrated.Goals as goal

pub by_rule-requires-clause-rule : goal.by_rule-requires-clause-rule
by_rule-requires-clause-rule c =
    (rule_is c.args.old.now c.args.new.now c.args.mapping.now.rules c.args.directive.now.kind c.in-Some.rule.now c.requires.mapping
    (ap (λ (rules : List TypeRule). rule_of rules c.args.directive.now.kind) (sym c.as_slice.ensures) ∙ sym c.in-Some.ensures)).0

pub by_rule-requires-clause-kind : goal.by_rule-requires-clause-kind
by_rule-requires-clause-kind c =
    (rule_is c.args.old.now c.args.new.now c.args.mapping.now.rules c.args.directive.now.kind c.in-Some.rule.now c.requires.mapping
    (ap (λ (rules : List TypeRule). rule_of rules c.args.directive.now.kind) (sym c.as_slice.ensures) ∙ sym c.in-Some.ensures)).1
