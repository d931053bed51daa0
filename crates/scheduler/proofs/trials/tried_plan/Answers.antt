use Rattle.scheduler.proofs.Templates.{template_of}
use Rattle.scheduler.proofs.MadePlans.{made_is_of_model}
use Rattle.scheduler.proofs.trials.tried_plan.Goals as goal

pub returns-clause-of_model : goal.returns-clause-of_model
returns-clause-of_model c =
    made_is_of_model c.args.request.now.model.now c.args.plan.now c.args.request.now.goal.now.template c.args.time c.in_ok-made.made c.requires.plan
    (template_of c.args.request.now c.requires.request) c.in_ok-made.ensures
