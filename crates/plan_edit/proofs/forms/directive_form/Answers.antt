use Rattle.std.proofs.Common.{ap, sym, ◌∙◌}
use Rattle.std.proofs.lemmas.Result.{err_from_is_err_and}
use Rattle.serde_json.specs.View.{view}
use Rattle.plan_edit.specs.PlanForm.{if_formed, checked_timing, type_of_json, given_of_json, directive_of_json}
use Rattle.plan_edit.proofs.WrittenForms.{not_formed, formed_so, directive_untyped, directive_ungiven, directive_made}
use Rattle.plan_edit.proofs.forms.directive_form.Goals as goal

pub returns-in_err-kind : goal.returns-in_err-kind
returns-in_err-kind c =
    let p = err_from_is_err_and c.from_residual.result c.from_residual.ensures.1 in
    let value = view c.args.value.now in
    rw (p.1, p.2)
    (not_formed (type_of_json value) (directive_of_json value) c.in_err-kind.field-0.0
    (directive_untyped (checked_timing value) (type_of_json value) (given_of_json value) c.in-Some.timing (sym c.checked_timing.ensures ∙ c.in-Some.is)) c.in_err-kind.ensures)

pub returns-in_err-arguments : goal.returns-in_err-arguments
returns-in_err-arguments c =
    let p = err_from_is_err_and c.from_residual-in_err-arguments.result c.from_residual-in_err-arguments.ensures.1 in
    let value = view c.args.value.now in
    rw (p.1, p.2)
    (not_formed (given_of_json value) (directive_of_json value) c.in_err-arguments.field-0.0
    (directive_ungiven (checked_timing value) (type_of_json value) (given_of_json value) c.in-Some.timing (sym c.checked_timing.ensures ∙ c.in-Some.is)
    c.in_ok-kind.kind (formed_so (type_of_json value) c.in_ok-kind.kind c.in_ok-kind.ensures)) c.in_err-arguments.ensures)

pub returns : goal.returns
returns c =
    let value = view c.args.value.now in
    ap if_formed (directive_made (checked_timing value) (type_of_json value) (given_of_json value) c.in-Some.timing (sym c.checked_timing.ensures ∙ c.in-Some.is)
    c.in_ok-kind.kind c.in_ok-arguments.arguments (formed_so (type_of_json value) c.in_ok-kind.kind c.in_ok-kind.ensures) (formed_so (given_of_json value) c.in_ok-arguments.arguments c.in_ok-arguments.ensures))
