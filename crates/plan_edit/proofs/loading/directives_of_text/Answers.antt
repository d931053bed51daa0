use Rattle.plan_edit.proofs.Loads.{made_plan, made_fit}
use Rattle.plan_edit.proofs.loading.directives_of_text.Goals as goal

pub returns-clause-plan : goal.returns-clause-plan
returns-clause-plan c =
    made_plan c.args.model.now c.args.plan.now c.requires.plan c.as_slice.result.now c.load_written.result c.load_written.ensures.made c.load_written.ensures.valid

pub returns-clause-ids : goal.returns-clause-ids
returns-clause-ids c =
    made_fit c.args.model.now c.args.plan.now c.requires.plan c.as_slice.result.now c.load_written.result c.load_written.ensures.made c.load_written.ensures.valid
