use Rattle.std.proofs.Common.{◌≡◌, ◌≤◌, ℕ, IsTrue, List, Option, length, map, ap, sym, subst, ◌∙◌}
use Rattle.std.specs.List.{list_all}
use Rattle.aerie_base.specs.declared.models.Parameter.{Parameter}
use Rattle.aerie_base.specs.declared.expressions.Expr.{Expr}
use Rattle.aerie_base.specs.declared.values.Value.{Value}
use Rattle.aerie_base.specs.models.Limits.{require_limit}
use Rattle.plan_edit.specs.declared.mappings.Feed.{Feed}
use Rattle.plan_edit.specs.Migrating.{mapped_arguments, is_feed_within, unless_misfit, retyped_directive}
use Rattle.plan_edit.specs.Requires.{first_unmet, is_typed_for}
use Rattle.plan_edit.proofs.Migrations.{ready_there, is_ready, by_values}
use Rattle.plan_edit.proofs.Types.{type_good, requires_typed}
use Rattle.plan_edit.proofs.migrating.by_rule.Goals as goal

pub mapped_arguments-requires-clause-count : goal.mapped_arguments-requires-clause-count
mapped_arguments-requires-clause-count c =
    let there = ready_there c.args.old.now c.args.new.now c.args.rule.now c.args.directive.now.kind c.args.directive.now.arguments c.activities.result.now c.from.result c.index-activities-from.result
    c.requires.rule c.requires.kind c.requires.takes c.activities.ensures.value c.from.ensures c.index-activities-from.is in
    let ready = is_ready c.args.old.now c.args.new.now c.args.rule.now c.args.directive.now.kind c.args.directive.now.arguments c.index-activities-from.result c.requires.rule c.requires.kind c.requires.takes there in
    ap length c.as_slice-2.ensures ∙ ready.count ∙ sym (ap length c.as_slice.ensures)

pub mapped_arguments-requires-clause-within : goal.mapped_arguments-requires-clause-within
mapped_arguments-requires-clause-within c =
    let there = ready_there c.args.old.now c.args.new.now c.args.rule.now c.args.directive.now.kind c.args.directive.now.arguments c.activities.result.now c.from.result c.index-activities-from.result
    c.requires.rule c.requires.kind c.requires.takes c.activities.ensures.value c.from.ensures c.index-activities-from.is in
    let ready = is_ready c.args.old.now c.args.new.now c.args.rule.now c.args.directive.now.kind c.args.directive.now.arguments c.index-activities-from.result c.requires.rule c.requires.kind c.requires.takes there in
    subst (λ (feeds : List Feed). IsTrue (list_all (is_feed_within (length c.as_slice-3.result.now)) feeds)) (sym c.as_slice-2.ensures)
    (subst (λ (arguments : List Value). IsTrue (list_all (is_feed_within (length arguments)) c.args.rule.now.feeds)) (sym c.as_slice-3.ensures) ready.within)

-- the values that were made
made : (arguments some : List Value) (parameters others : List Parameter) (feeds given : List Feed) → some ≡ arguments → others ≡ parameters → given ≡ feeds →
    mapped_arguments some (map (λ (parameter : Parameter). parameter.kind) others) given ≡ mapped_arguments arguments (map (λ (parameter : Parameter). parameter.kind) parameters) feeds
made arguments some parameters others feeds given e f g =
    ap (λ (vs : List Value). mapped_arguments vs (map (λ (parameter : Parameter). parameter.kind) others) given) e
    ∙ ap (λ (ps : List Parameter). mapped_arguments arguments (map (λ (parameter : Parameter). parameter.kind) ps) given) f
    ∙ ap (mapped_arguments arguments (map (λ (parameter : Parameter). parameter.kind) parameters)) g

pub first_unmet-requires-clause-typed : goal.first_unmet-requires-clause-typed
first_unmet-requires-clause-typed c =
    let there = ready_there c.args.old.now c.args.new.now c.args.rule.now c.args.directive.now.kind c.args.directive.now.arguments c.activities.result.now c.from.result c.index-activities-from.result
    c.requires.rule c.requires.kind c.requires.takes c.activities.ensures.value c.from.ensures c.index-activities-from.is in
    let ready = is_ready c.args.old.now c.args.new.now c.args.rule.now c.args.directive.now.kind c.args.directive.now.arguments c.index-activities-from.result c.requires.rule c.requires.kind c.requires.takes there in
    let values = c.as_slice-5.ensures ∙ c.in_ok-values.ensures
    ∙ made c.args.directive.now.arguments c.as_slice-3.result.now c.index-activities-from.result.parameters c.as_slice.result.now c.args.rule.now.feeds c.as_slice-2.result.now c.as_slice-3.ensures c.as_slice.ensures c.as_slice-2.ensures in
    subst (λ (exprs : List Expr). IsTrue (list_all (is_typed_for c.as_slice-5.result.now) exprs)) (sym c.as_slice-4.ensures)
    (subst (λ (vs : List Value). IsTrue (list_all (is_typed_for vs) c.index-activities-from.result.requires_)) (sym values)
    (requires_typed c.args.new.now c.index-activities-from.result _ ready.good (type_good c.args.new.now c.activities.ensures.valid c.args.rule.now.new c.index-activities-from.result there)))

pub first_unmet-requires-clause-few : goal.first_unmet-requires-clause-few
first_unmet-requires-clause-few c =
    let there = ready_there c.args.old.now c.args.new.now c.args.rule.now c.args.directive.now.kind c.args.directive.now.arguments c.activities.result.now c.from.result c.index-activities-from.result
    c.requires.rule c.requires.kind c.requires.takes c.activities.ensures.value c.from.ensures c.index-activities-from.is in
    subst (λ (exprs : List Expr). length exprs ≤ require_limit) (sym c.as_slice-4.ensures)
    (type_good c.args.new.now c.activities.ensures.valid c.args.rule.now.new c.index-activities-from.result there).few

pub returns-in-Some : goal.returns-in-Some
returns-in-Some c =
    let there = ready_there c.args.old.now c.args.new.now c.args.rule.now c.args.directive.now.kind c.args.directive.now.arguments c.activities.result.now c.from.result c.index-activities-from.result
    c.requires.rule c.requires.kind c.requires.takes c.activities.ensures.value c.from.ensures c.index-activities-from.is in
    let values = c.as_slice-5.ensures ∙ c.in_ok-values.ensures
    ∙ made c.args.directive.now.arguments c.as_slice-3.result.now c.index-activities-from.result.parameters c.as_slice.result.now c.args.rule.now.feeds c.as_slice-2.result.now c.as_slice-3.ensures c.as_slice.ensures c.as_slice-2.ensures in
    by_values c.args.new.now c.args.directive.now c.args.rule.now c.index-activities-from.result c.as_slice-5.result.now there values
    ∙ ap (λ (o : Option ℕ). unless_misfit c.args.directive.now.id o (retyped_directive c.args.directive.now c.args.rule.now.new c.as_slice-5.result.now))
    (ap (first_unmet 0 c.as_slice-5.result.now) (sym c.as_slice-4.ensures) ∙ sym c.in-Some.ensures)

pub returns-in-None : goal.returns-in-None
returns-in-None c =
    let there = ready_there c.args.old.now c.args.new.now c.args.rule.now c.args.directive.now.kind c.args.directive.now.arguments c.activities.result.now c.from.result c.index-activities-from.result
    c.requires.rule c.requires.kind c.requires.takes c.activities.ensures.value c.from.ensures c.index-activities-from.is in
    let values = c.in_ok-values.ensures
    ∙ made c.args.directive.now.arguments c.as_slice-3.result.now c.index-activities-from.result.parameters c.as_slice.result.now c.args.rule.now.feeds c.as_slice-2.result.now c.as_slice-3.ensures c.as_slice.ensures c.as_slice-2.ensures in
    by_values c.args.new.now c.args.directive.now c.args.rule.now c.index-activities-from.result c.in_ok-values.values there values
    ∙ ap (λ (o : Option ℕ). unless_misfit c.args.directive.now.id o (retyped_directive c.args.directive.now c.args.rule.now.new c.in_ok-values.values))
    (ap (λ (vs : List Value). first_unmet 0 vs c.index-activities-from.result.requires_) (sym (c.as_slice-5.ensures))
    ∙ ap (first_unmet 0 c.as_slice-5.result.now) (sym c.as_slice-4.ensures) ∙ sym c.in-None.ensures)
