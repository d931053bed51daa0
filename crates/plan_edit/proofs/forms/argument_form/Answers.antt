use Rattle.std.proofs.Common.{Option, ap}
use Rattle.std.proofs.lemmas.Result.{err_from_is_err_and}
use Rattle.serde_json.specs.View.{view}
use Rattle.aerie_base.specs.declared.arguments.RawValue.{RawValue}
use Rattle.plan_edit.specs.PlanForm.{if_formed, free_name as free_name_by, one_argument, value_of_json as value_by}
use Rattle.plan_edit.proofs.WrittenForms.{not_formed, formed_so, argument_made, argument_unnamed}
use Rattle.plan_edit.proofs.forms.argument_form.Goals as goal

pub returns-in_err-value : goal.returns-in_err-value
returns-in_err-value c =
    let p = err_from_is_err_and c.from_residual.result c.from_residual.ensures.1 in
    rw (p.1, p.2)
    (not_formed (value_by (view c.args.given.now)) (one_argument (value_by (view c.args.given.now)) c.args.name.now) c.in_err-value.field-0.0
    (λ e. ap (λ (o : Option RawValue). one_argument o c.args.name.now) e) c.in_err-value.ensures)

pub returns-in_err-name : goal.returns-in_err-name
returns-in_err-name c =
    let p = err_from_is_err_and c.from_residual-in_err-name.result c.from_residual-in_err-name.ensures.1 in
    let given = value_by (view c.args.given.now) in
    rw (p.1, p.2)
    (not_formed (free_name_by c.args.name.now) (one_argument given c.args.name.now) c.in_err-name.field-0.0
    (λ e. argument_unnamed given c.args.name.now c.in_ok-value.value (formed_so given c.in_ok-value.value c.in_ok-value.ensures) e) c.in_err-name.ensures)

pub returns : goal.returns
returns c =
    let given = value_by (view c.args.given.now) in
    ap if_formed (argument_made given c.args.name.now c.in_ok-value.value c.in_ok-name.name (formed_so given c.in_ok-value.value c.in_ok-value.ensures)
    (formed_so (free_name_by c.args.name.now) c.in_ok-name.name c.in_ok-name.ensures))
