use Rattle.std.proofs.Common.{◌∙◌, ℕ, length, subst}
use Rattle.std.proofs.lemmas.Result.{err_from_is_err_and}
use Rattle.plan_edit.specs.Answers.{IsRefusal}
use Rattle.plan_edit.specs.Loading.{load_one, load_all}
use Rattle.plan_edit.proofs.Given.{refused_too}
use Rattle.plan_edit.proofs.Loads.{load_stops}
use Rattle.plan_edit.proofs.loading.load_all.Goals as goal

pub returns-in_err-directive : goal.returns-in_err-directive
returns-in_err-directive c =
    let p = err_from_is_err_and c.from_residual-in_err-directive.result c.from_residual-in_err-directive.ensures.1 in
    let model = c.args.model.now in
    let plan = c.args.plan.now in
    let all = c.args.all.now in
    let written = c.written-item.result in
    rw (p.1, p.2)
    (refused_too (load_one model plan all (length c.loop-written.directives) written) (load_all model plan all 0 all) c.in_err-directive.field-0.0
    (λ r e. c.loop-written.invariant ∙ load_stops model plan all c.loop-written.directives all c.loop-written.written-index written r c.loop-written-test.true c.written-item.is e)
    (subst (λ (n : ℕ). IsRefusal (load_one model plan all n written) c.in_err-directive.field-0.0) c.len-number.ensures c.in_err-directive.ensures))
