use Rattle.std.proofs.Common.{List, [], sym, subst, ◌∙◌}
use Rattle.aerie_base.specs.declared.models.model.Parts.{Parts}
use Rattle.aerie_base.specs.plans.OfModel.{IsPlanOf}
use Rattle.batch_run.specs.Spreads.{IsSpreadOf}
use Rattle.run_data.specs.declared.frames.Record.{Record}
use Rattle.run_data.specs.declared.runs.Run.{Run}
use Rattle.run_data.specs.Fresh.{IsFresh}
use Rattle.run_data.specs.RunFrames.{PaysForRun}
use Rattle.resimulate.specs.SharedEnds.{SharesEnds}
use Rattle.bench.proofs.Paying.{counted}
use Rattle.bench.proofs.SharedInstants.{shares_none}
use Rattle.bench.proofs.simulating.simulate_alone.Goals as goal

pub simulate_with_bookmarks-requires-clause-plan : goal.simulate_with_bookmarks-requires-clause-plan
simulate_with_bookmarks-requires-clause-plan g c = subst (λ (of : Parts). IsPlanOf of c.args.plan.now) (sym c.model-model.ensures) c.requires.plan

pub simulate_with_bookmarks-requires-clause-bound : goal.simulate_with_bookmarks-requires-clause-bound
simulate_with_bookmarks-requires-clause-bound g c = c.requires.setting.bound

pub simulate_with_bookmarks-requires-clause-stepper : goal.simulate_with_bookmarks-requires-clause-stepper
simulate_with_bookmarks-requires-clause-stepper g c = subst (IsSpreadOf c.stepper_over-stepper.result) (sym c.model-model.ensures) c.stepper_over-stepper.ensures.of

pub keep-requires-clause-fresh : goal.keep-requires-clause-fresh
keep-requires-clause-fresh g c =
    subst (λ (of : Parts). IsFresh of c.args.plan.now c.args.setting.now.bound c.in_ok-run.run') c.model-model.ensures c.in_ok-run.ensures.fresh

pub returns-clause-frugal : goal.returns-clause-frugal
returns-clause-frugal g c =
    subst (λ (run : Run). PaysForRun run c.args.stock.now.records c.args.steps.now c.simulate_with_bookmarks.new.steps) (sym c.in_ok-made.ensures.run)
    (subst (λ (records : List Record). PaysForRun c.in_ok-run.run' records c.args.steps.now c.simulate_with_bookmarks.new.steps) c.stepper_over-stepper.ensures.records
    c.in_ok-run.ensures.frugal)

pub returns-clause-shares : goal.returns-clause-shares
returns-clause-shares g c =
    subst (λ n. SharesEnds [] c.in_ok-made.made.kept.run.instants n c.in_ok-made.made.last) (sym c.in_ok-made.ensures.first)
    (subst (λ n. SharesEnds [] c.in_ok-made.made.kept.run.instants 0 n) (sym c.in_ok-made.ensures.last) (shares_none [] c.in_ok-made.made.kept.run.instants))

pub returns-clause-counted : goal.returns-clause-counted
returns-clause-counted g c =
    counted c.stepper_over-stepper.result.opened c.simulate_with_bookmarks.new.stepper.opened c.opened.result c.in_ok-made.made.statements c.args.steps.now c.simulate_with_bookmarks.new.steps
    c.stepper_over-stepper.ensures.opened c.opened.ensures c.full_count-statements.ensures.most
    (c.in_ok-made.ensures.statements ∙ c.full_count-statements.ensures.same) c.in_ok-run.ensures.opened
