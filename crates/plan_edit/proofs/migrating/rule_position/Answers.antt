use Rattle.std.proofs.Common.{ap, sym, ◌∙◌, length, refl, eq-eqb, Bool, Some, drop, ◌+◌, if◌then◌else◌}
use Rattle.std.proofs.lemmas.Option.{slice_get_read}
use Rattle.plan_edit.specs.declared.mappings.TypeRule.{TypeRule}
use Rattle.plan_edit.specs.Migrating.{rule_of}
use Rattle.plan_edit.proofs.Fillings.{cut}
use Rattle.plan_edit.proofs.migrating.rule_position.Goals as goal

pub returns-then-from-kind : goal.returns-then-from-kind
returns-then-from-kind c =
    let rules = c.args.rules.now in
    let rule = c.index-rules-position.result in
    slice_get_read rules (length rules) c.loop-position.position rule refl c.loop-position-test.true c.index-rules-position.is
    ∙ sym (c.loop-position.invariant
    ∙ ap (λ rs. rule_of rs c.args.kind) (cut rules c.loop-position.position rule c.loop-position-test.true c.index-rules-position.is)
    ∙ ap (λ (t : Bool). if t then Some rule else rule_of (drop (c.loop-position.position + 1) rules) c.args.kind) (eq-eqb rule.old c.args.kind (ap (λ (r : TypeRule). r.old) c.index-rules-position.is ∙ sym c.from.ensures ∙ c.if-from-kind.true)))
