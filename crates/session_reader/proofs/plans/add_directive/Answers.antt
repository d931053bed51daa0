use Rattle.std.proofs.Common.{sym, subst}
use Rattle.session_reader.specs.Answers.{IsRefusal}
use Rattle.session_reader.specs.PlanSections.{directive_added}
use Rattle.session_reader.proofs.Refusals.{edit_refused}
use Rattle.session_reader.proofs.plans.add_directive.Goals as goal

pub returns-in-Err-clause-refused : goal.returns-in-Err-clause-refused
returns-in-Err-clause-refused c =
    subst (IsRefusal (directive_added c.args.start c.args.model.now c.args.number c.args.plan.now c.args.raw.now)) (sym c.refusal.ensures)
    (edit_refused c.args.number _ c.in-Err.edit c.in-Err.ensures.refused)
