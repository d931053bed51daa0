use Rattle.std.proofs.Common.{ap, ◌∙◌}
use Rattle.run_data.specs.KeptRuns.{KeptRun}
use Rattle.bench.proofs.Making.{fresh_as_is, fresh_of, plan_as_is}
use Rattle.bench.proofs.simulating.keep.Goals as goal

pub new-requires-clause-fresh : goal.new-requires-clause-fresh
new-requires-clause-fresh c =
    fresh_as_is c.fresh_runs.ensures.plan c.args.setting.now.compiled c.in_ok-model.model c.args.plan.now c.args.setting.now.bound c.args.made.run
    (c.in_ok-model.ensures ∙ c.model.ensures) c.requires.fresh

pub new-requires-clause-plan : goal.new-requires-clause-plan
new-requires-clause-plan c =
    plan_as_is c.fresh_runs.ensures.plan c.args.setting.now.compiled c.in_ok-model.model c.args.plan.now c.args.setting.now.bound c.args.made.run
    (c.in_ok-model.ensures ∙ c.model.ensures) c.requires.fresh c.requires.plan

pub returns-clause-model : goal.returns-clause-model
returns-clause-model c = ap (λ (kept : KeptRun). kept.model) c.in_ok-kept.ensures ∙ c.in_ok-model.ensures ∙ c.model.ensures

pub returns-clause-run : goal.returns-clause-run
returns-clause-run c = ap (λ (kept : KeptRun). kept.run) c.in_ok-kept.ensures

pub returns-clause-fresh : goal.returns-clause-fresh
returns-clause-fresh c =
    fresh_of c.fresh_runs.ensures.plan c.args.setting.now.compiled c.args.plan.now c.args.setting.now.bound c.args.made.run c.in_ok-kept.kept
    (returns-clause-model c) (returns-clause-run c) c.requires.fresh
