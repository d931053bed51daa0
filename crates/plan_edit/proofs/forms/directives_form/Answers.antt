use Rattle.std.proofs.Common.{List, map, drop, ◌+◌, ap, sym, ◌∙◌}
use Rattle.std.proofs.lemmas.Result.{err_from_is_err_and}
use Rattle.serde_json.specs.View.{view}
use Rattle.plan_edit.specs.declared.forms.WrittenDirective.{WrittenDirective}
use Rattle.plan_edit.specs.PlanForm.{directive_of_json as directive_by, directives_of_json as directives_by}
use Rattle.plan_edit.proofs.WrittenForms.{joined_forms, not_formed, formed_so, no_directive, one_more_directive}
use Rattle.plan_edit.proofs.forms.directives_form.Goals as goal

pub returns-in_err-directive : goal.returns-in_err-directive
returns-in_err-directive c =
    let p = err_from_is_err_and c.from_residual-in_err-directive.result c.from_residual-in_err-directive.ensures.1 in
    rw (p.1, p.2)
    (not_formed (directive_by (view c.value-item.result)) (directives_by (map view c.args.values.now)) c.in_err-directive.field-0.0
    (λ e. c.loop-value.invariant ∙ no_directive c.loop-value.all c.args.values.now c.loop-value.value-index c.value-item.result c.loop-value-test.true c.value-item.is e)
    c.in_err-directive.ensures)

pub loop-value-preserved : goal.loop-value-preserved
loop-value-preserved c =
    c.loop-value.invariant
    ∙ one_more_directive c.loop-value.all c.args.values.now c.loop-value.value-index c.value-item.result c.loop-value-test.true c.value-item.is c.in_ok-directive.directive
    (formed_so (directive_by (view c.value-item.result)) c.in_ok-directive.directive c.in_ok-directive.ensures)
    ∙ ap (λ (all : List WrittenDirective). joined_forms all (directives_by (map view (drop (c.loop-value.value-index + 1) c.args.values.now)))) (sym c.in_ok-push.ensures.pushed)
