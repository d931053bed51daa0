use Rattle.std.proofs.Common.{◌++◌, ap, sym, subst, take, ◌∙◌}
use Rattle.aerie_base.specs.declared.models.model.Parts.{Parts}
use Rattle.aerie_base.specs.plans.OfModel.{IsPlanOf}
use Rattle.record_book.specs.StoredSteps.{book_limit}
use Rattle.run_data.specs.RunFrames.{PaysForRun}
use Rattle.bench.specs.Benches.{BenchOf}
use Rattle.bench.specs.Chapters.{GainsChapters, PublishesWhatRan}
use Rattle.bench.specs.HeldSteps.{HoldsAll, records_of_kept}
use Rattle.bench.proofs.Extending.{firsts_hold, holds_then}
use Rattle.bench.proofs.Making.{made_for, some_model}
use Rattle.bench.proofs.Paying.{pays_front}
use Rattle.bench.proofs.PublishedChapters.{gains_nothing}
use Rattle.bench.proofs.bench.Bench.simulate_plan.Goals as goal

-- ---- after want of memory while it learns

pub invariant_of-self : goal.invariant_of-self
invariant_of-self g c = (c.self.invariant.0, c.learn.ensures.model ∙ c.self.invariant.1)

pub returns-in_err-next-clause-same_bench : goal.returns-in_err-next-clause-same_bench
returns-in_err-next-clause-same_bench g c = record {
  model = ap (λ (bench : BenchOf). bench.model) c.self.view_is;
  bound = ap (λ (bench : BenchOf). bench.bound) c.self.view_is;
}

pub returns-in_err-next-clause-held : goal.returns-in_err-next-clause-held
returns-in_err-next-clause-held g c =
    subst (λ (bench : BenchOf). HoldsAll bench.records (take book_limit c.learn.new.self.records)) c.self.view_is
    (firsts_hold book_limit c.self.inside.stock.records c.learn.new.self.records c.learn.ensures.extends)

pub returns-in_err-next-clause-gained : goal.returns-in_err-next-clause-gained
returns-in_err-next-clause-gained g c =
    gains_nothing c.args.store.now c.args.self.now.model c.args.self.now.receipts c.self.inside.publisher (ap (λ (bench : BenchOf). bench.receipts) c.self.view_is)

-- ---- the simulation

pub run_over-requires-clause-setting : goal.run_over-requires-clause-setting
run_over-requires-clause-setting g c κs within = c.self.invariant.0

pub run_over-requires-clause-model : goal.run_over-requires-clause-model
run_over-requires-clause-model g c κs within = c.in_ok-next.ensures.model ∙ c.self.invariant.1

pub run_over-requires-clause-old : goal.run_over-requires-clause-old
run_over-requires-clause-old g c κs within =
    some_model c.args.kept c.args.self.now.model c.self.inside.setting.compiled (sym (ap (λ (bench : BenchOf). bench.model) c.self.view_is)) c.requires.kept

pub run_over-requires-clause-plan : goal.run_over-requires-clause-plan
run_over-requires-clause-plan g c κs within =
    subst (λ (model : Parts). IsPlanOf model c.args.plan.now) (sym (ap (λ (bench : BenchOf). bench.model) c.self.view_is)) c.requires.plan

pub invariant_of-self-in_err-made : goal.invariant_of-self-in_err-made
invariant_of-self-in_err-made g c = (c.self.invariant.0, c.run_over.ensures.model ∙ c.learn.ensures.model ∙ c.self.invariant.1)

pub returns-in_err-made-clause-same_bench : goal.returns-in_err-made-clause-same_bench
returns-in_err-made-clause-same_bench g c = record {
  model = ap (λ (bench : BenchOf). bench.model) c.self.view_is;
  bound = ap (λ (bench : BenchOf). bench.bound) c.self.view_is;
}

pub returns-in_err-made-clause-held : goal.returns-in_err-made-clause-held
returns-in_err-made-clause-held g c =
    subst (λ (bench : BenchOf). HoldsAll bench.records (take book_limit c.run_over.new.stock.records)) c.self.view_is
    (holds_then (take book_limit c.self.inside.stock.records) (take book_limit c.learn.new.self.records) (take book_limit c.run_over.new.stock.records)
    (firsts_hold book_limit c.self.inside.stock.records c.learn.new.self.records c.learn.ensures.extends) c.run_over.ensures.held)

pub returns-in_err-made-clause-gained : goal.returns-in_err-made-clause-gained
returns-in_err-made-clause-gained g c =
    subst (λ (bench : BenchOf). GainsChapters c.args.store.now bench.model bench.receipts c.run_over.new.publisher) c.self.view_is
    (subst (λ (model : Parts). GainsChapters c.args.store.now model c.self.inside.publisher c.run_over.new.publisher)
    (c.learn.ensures.model ∙ c.self.invariant.1) c.run_over.ensures.gained)

-- ---- what was made

pub invariant_of-self-2 : goal.invariant_of-self-2
invariant_of-self-2 g c = (c.self.invariant.0, c.run_over.ensures.model ∙ c.learn.ensures.model ∙ c.self.invariant.1)

pub returns-clause-made : goal.returns-clause-made
returns-clause-made g c =
    made_for c.args.self.now c.self.inside.setting.compiled c.self.inside.setting.bound c.args.plan.now c.in_ok-made.made.kept
    (ap (λ (bench : BenchOf). bench.model) c.self.view_is) (ap (λ (bench : BenchOf). bench.bound) c.self.view_is) c.in_ok-made.ensures.of_model c.in_ok-made.ensures.fresh

pub returns-clause-frugal : goal.returns-clause-frugal
returns-clause-frugal g c =
    subst (λ (bench : BenchOf). PaysForRun c.in_ok-made.made.kept.run (bench.records ++ records_of_kept c.args.kept) c.args.steps.now c.run_over.new.steps) c.self.view_is
    (pays_front c.in_ok-made.made.kept.run book_limit c.self.inside.stock.records c.learn.new.self.records (records_of_kept c.args.kept) c.args.steps.now c.run_over.new.steps
    c.in_ok-next.ensures.extends c.in_ok-made.ensures.frugal)

pub returns-clause-same_bench : goal.returns-clause-same_bench
returns-clause-same_bench g c = record {
  model = ap (λ (bench : BenchOf). bench.model) c.self.view_is;
  bound = ap (λ (bench : BenchOf). bench.bound) c.self.view_is;
}

pub returns-clause-held : goal.returns-clause-held
returns-clause-held g c =
    subst (λ (bench : BenchOf). HoldsAll bench.records (take book_limit c.run_over.new.stock.records)) c.self.view_is
    (holds_then (take book_limit c.self.inside.stock.records) (take book_limit c.learn.new.self.records) (take book_limit c.run_over.new.stock.records)
    (firsts_hold book_limit c.self.inside.stock.records c.learn.new.self.records c.in_ok-next.ensures.extends) c.in_ok-made.ensures.held)

pub returns-clause-gained : goal.returns-clause-gained
returns-clause-gained g c =
    subst (λ (bench : BenchOf). GainsChapters c.args.store.now bench.model bench.receipts c.run_over.new.publisher) c.self.view_is
    (subst (λ (model : Parts). GainsChapters c.args.store.now model c.self.inside.publisher c.run_over.new.publisher)
    (c.in_ok-next.ensures.model ∙ c.self.invariant.1) c.in_ok-made.ensures.gained)

pub returns-clause-published : goal.returns-clause-published
returns-clause-published g c =
    subst (λ (bench : BenchOf). PublishesWhatRan c.in_ok-made.made.kept.run bench.receipts c.run_over.new.publisher c.args.steps.now c.run_over.new.steps) c.self.view_is
    c.in_ok-made.ensures.published
