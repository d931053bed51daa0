use Rattle.std.proofs.Common.{List, sym, subst, ◌∙◌}
use Rattle.aerie_base.specs.declared.models.model.Parts.{Parts}
use Rattle.aerie_base.specs.plans.OfModel.{IsPlanOf}
use Rattle.batch_run.specs.Spreads.{IsSpreadOf, stored_in}
use Rattle.run_data.specs.declared.frames.Record.{Record}
use Rattle.run_data.specs.declared.runs.Run.{Run}
use Rattle.run_data.specs.Fresh.{IsFresh}
use Rattle.run_data.specs.RunFrames.{PaysForRun}
use Rattle.resimulate.specs.EvenInstants.{LooksForUneven}
use Rattle.resimulate.specs.SharedEnds.{SharesEnds}
use Rattle.bench.proofs.Paying.{counted, pays_for_all}
use Rattle.bench.proofs.simulating.simulate_beside.Goals as goal

pub resimulate_sharing-requires-clause-plan : goal.resimulate_sharing-requires-clause-plan
resimulate_sharing-requires-clause-plan g c = subst (λ (of : Parts). IsPlanOf of c.args.plan.now) (sym (c.get-model.ensures ∙ c.model.ensures)) c.requires.plan

pub resimulate_sharing-requires-clause-bound : goal.resimulate_sharing-requires-clause-bound
resimulate_sharing-requires-clause-bound g c = c.requires.setting.bound

pub resimulate_sharing-requires-clause-stepper : goal.resimulate_sharing-requires-clause-stepper
resimulate_sharing-requires-clause-stepper g c = subst (IsSpreadOf c.stepper_over-stepper.result) (sym (c.get-model.ensures ∙ c.model.ensures)) c.stepper_over-stepper.ensures.of

pub resimulate_sharing-requires-clause-old : goal.resimulate_sharing-requires-clause-old
resimulate_sharing-requires-clause-old g c = c.requires.old ∙ sym (c.get-model.ensures ∙ c.model.ensures)

pub keep-requires-clause-fresh : goal.keep-requires-clause-fresh
keep-requires-clause-fresh g c =
    subst (λ (of : Parts). IsFresh of c.args.plan.now c.args.setting.now.bound c.in_ok-run.run'.run) (c.get-model.ensures ∙ c.model.ensures) c.in_ok-run.ensures.fresh

pub returns-clause-frugal : goal.returns-clause-frugal
returns-clause-frugal g c =
    subst (λ (run : Run). PaysForRun run c.args.stock.now.records c.args.steps.now c.resimulate_sharing.new.steps) (sym c.in_ok-made.ensures.run)
    (subst (λ (records : List Record). PaysForRun c.in_ok-run.run'.run records c.args.steps.now c.resimulate_sharing.new.steps) c.stepper_over-stepper.ensures.records
    (pays_for_all c.args.old.now.run c.in_ok-run.run'.run (stored_in c.stepper_over-stepper.result) c.args.steps.now c.resimulate_sharing.new.steps c.in_ok-run.ensures.frugal))

pub returns-clause-few_looks : goal.returns-clause-few_looks
returns-clause-few_looks g c =
    subst (λ (run : Run). LooksForUneven c.args.old.now.run run c.args.looks.now c.resimulate_sharing.new.looks) (sym c.in_ok-made.ensures.run) c.in_ok-run.ensures.few_looks

pub returns-clause-shares : goal.returns-clause-shares
returns-clause-shares g c =
    subst (λ n. SharesEnds c.args.old.now.run.instants c.in_ok-made.made.kept.run.instants n c.in_ok-made.made.last) (sym c.in_ok-made.ensures.first)
    (subst (λ n. SharesEnds c.args.old.now.run.instants c.in_ok-made.made.kept.run.instants c.in_ok-run.run'.first n) (sym c.in_ok-made.ensures.last)
    (subst (λ (run : Run). SharesEnds c.args.old.now.run.instants run.instants c.in_ok-run.run'.first c.in_ok-run.run'.last) (sym c.in_ok-made.ensures.run) c.in_ok-run.ensures.shares))

pub returns-clause-counted : goal.returns-clause-counted
returns-clause-counted g c =
    counted c.stepper_over-stepper.result.opened c.resimulate_sharing.new.stepper.opened c.opened.result c.in_ok-made.made.statements c.args.steps.now c.resimulate_sharing.new.steps
    c.stepper_over-stepper.ensures.opened c.opened.ensures c.full_count-statements.ensures.most
    (c.in_ok-made.ensures.statements ∙ c.full_count-statements.ensures.same) c.in_ok-run.ensures.opened
