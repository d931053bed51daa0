use Rattle.std.proofs.Common.{List, ℕ, ap, sym, ◌∙◌}
use Rattle.std.proofs.lemmas.Result.{err_from_is_err_and}
use Rattle.serde_json.specs.View.{view, members_view}
use Rattle.aerie_base.specs.declared.arguments.RawArgument.{RawArgument}
use Rattle.plan_edit.specs.PlanForm.{arguments_of_members, one_argument, value_of_json as value_by}
use Rattle.plan_edit.proofs.WrittenForms.{joined_forms, not_formed, formed_so, no_argument, one_more_argument, begun_arguments, ended_arguments}
use Rattle.plan_edit.proofs.forms.arguments_form.Goals as goal

pub returns-in_err-argument : goal.returns-in_err-argument
returns-in_err-argument c =
    let p = err_from_is_err_and c.from_residual.result c.from_residual.ensures.1 in
    let given = value_by (view c.in-Some.given.now) in
    rw (p.1, p.2)
    (not_formed (one_argument given c.as_str.result.now) (arguments_of_members (members_view c.args.members.now.entries)) c.in_err-argument.field-0.0
    (λ e. c.loop-name.invariant
    ∙ no_argument c.loop-name.arguments c.loop-name.name-iterator c.in-Some.name.now c.in-Some.given.now c.next.new.self c.in-Some.ensures.steps
    (ap (λ (n : List ℕ). one_argument given n) (sym c.as_str.ensures.value) ∙ e)) c.in_err-argument.ensures)

pub loop-name-preserved : goal.loop-name-preserved
loop-name-preserved c =
    let given = value_by (view c.in-Some.given.now) in
    c.loop-name.invariant
    ∙ one_more_argument c.loop-name.arguments c.loop-name.name-iterator c.in-Some.name.now c.in-Some.given.now c.next.new.self c.in-Some.ensures.steps c.in_ok-argument.argument
    (ap (λ (n : List ℕ). one_argument given n) (sym c.as_str.ensures.value) ∙ formed_so (one_argument given c.as_str.result.now) c.in_ok-argument.argument c.in_ok-argument.ensures)
    ∙ ap (λ (all : List RawArgument). joined_forms all (arguments_of_members (members_view c.next.new.self))) (sym c.in_ok-push.ensures.pushed)

pub loop-name-init : goal.loop-name-init
loop-name-init c =
    begun_arguments c.args.members.now.entries c.into_iter-name-iterator.result c.new-arguments.result c.into_iter-name-iterator.ensures.into_iter_gives.0 c.new-arguments.ensures

pub returns : goal.returns
returns c = ended_arguments c.loop-name.name-iterator c.loop-name.arguments (arguments_of_members (members_view c.args.members.now.entries)) c.loop-name.invariant c.in-None.ensures.steps.0
