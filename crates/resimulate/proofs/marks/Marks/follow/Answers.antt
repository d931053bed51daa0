use Rattle.std.proofs.Common.{◌∙◌, ap, sym}
use Rattle.run_data.specs.laws.RunCosts.{cost_of_instants}
use Rattle.engine_core.specs.EngineStates.{instants_in, spent_in}
use Rattle.resimulate.proofs.InstantCosts.{cost_behind}
use Rattle.resimulate.proofs.marks.Marks.follow.Goals as goal

pub cost_of_others-requires-clause-spent : goal.cost_of_others-requires-clause-spent
cost_of_others-requires-clause-spent c =
    c.spent-spent.ensures
    ∙ cost_behind c.rest_of_old_run_is_taken_over.ensures.costs c.args.model.now c.args.self.now.plan c.args.old.now.plan c.args.self.now.bound c.args.old.now.bound (instants_in c.args.engine.now.point)
    (spent_in c.args.engine.now.point) c.args.old_instants.now c.requires.alike
    ∙ ap cost_of_instants (sym c.instants-instants.ensures)
