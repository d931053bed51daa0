use Rattle.std.proofs.Common.{refl, sym, subst, take, ◌∙◌}
use Rattle.aerie_base.specs.declared.models.model.Parts.{Parts}
use Rattle.record_book.specs.StoredSteps.{book_limit}
use Rattle.bench.specs.Chapters.{GainsChapters}
use Rattle.bench.proofs.Extending.{firsts_hold, holds_then}
use Rattle.bench.proofs.Making.{some_model}
use Rattle.bench.proofs.Paying.{pays_known, published_ran}
use Rattle.bench.proofs.PublishedChapters.{gains_nothing}
use Rattle.bench.proofs.taking.run_over.Goals as goal

pub hold_old-requires : goal.hold_old-requires
hold_old-requires g c = some_model c.args.old c.args.setting.now.compiled c.args.stock.now.model (sym c.requires.model) c.requires.old

pub simulate_over-requires-clause-model : goal.simulate_over-requires-clause-model
simulate_over-requires-clause-model g c κs within = c.in_ok-hold_old.ensures.model ∙ c.requires.model

pub take_run-requires-clause-model : goal.take_run-requires-clause-model
take_run-requires-clause-model g c = c.in_ok-made.ensures.model ∙ sym (c.in_ok-hold_old.ensures.model ∙ c.requires.model)

pub returns-in_err-hold_old-clause-held : goal.returns-in_err-hold_old-clause-held
returns-in_err-hold_old-clause-held g c = firsts_hold book_limit c.args.stock.now.records c.hold_old.new.self.records c.hold_old.ensures.extends

pub returns-in_err-hold_old-clause-gained : goal.returns-in_err-hold_old-clause-gained
returns-in_err-hold_old-clause-gained g c = gains_nothing c.args.store.now c.args.stock.now.model c.args.publisher.now c.args.publisher.now refl

pub returns-in_err-made-clause-held : goal.returns-in_err-made-clause-held
returns-in_err-made-clause-held g c = firsts_hold book_limit c.args.stock.now.records c.hold_old.new.self.records c.hold_old.ensures.extends

pub returns-in_err-made-clause-gained : goal.returns-in_err-made-clause-gained
returns-in_err-made-clause-gained g c = gains_nothing c.args.store.now c.args.stock.now.model c.args.publisher.now c.args.publisher.now refl

pub returns-in_err-take_run-clause-model : goal.returns-in_err-take_run-clause-model
returns-in_err-take_run-clause-model g c = c.take_run.ensures.model ∙ c.hold_old.ensures.model

pub returns-in_err-take_run-clause-held : goal.returns-in_err-take_run-clause-held
returns-in_err-take_run-clause-held g c =
    holds_then (take book_limit c.args.stock.now.records) (take book_limit c.hold_old.new.self.records) (take book_limit c.take_run.new.stock.records)
    (firsts_hold book_limit c.args.stock.now.records c.hold_old.new.self.records c.hold_old.ensures.extends) c.take_run.ensures.held

pub returns-in_err-take_run-clause-gained : goal.returns-in_err-take_run-clause-gained
returns-in_err-take_run-clause-gained g c =
    subst (λ (model : Parts). GainsChapters c.args.store.now model c.args.publisher.now c.take_run.new.publisher) c.hold_old.ensures.model c.take_run.ensures.gained

pub returns-clause-frugal : goal.returns-clause-frugal
returns-clause-frugal g c =
    pays_known c.in_ok-made.made.kept.run c.args.stock.now.records c.hold_old.new.self c.args.old c.args.steps.now c.simulate_over.new.steps
    c.in_ok-hold_old.ensures.extends c.in_ok-hold_old.ensures.known c.in_ok-made.ensures.frugal

pub returns-clause-model : goal.returns-clause-model
returns-clause-model g c = c.in_ok-take_run.ensures.model ∙ c.in_ok-hold_old.ensures.model

pub returns-clause-held : goal.returns-clause-held
returns-clause-held g c =
    holds_then (take book_limit c.args.stock.now.records) (take book_limit c.hold_old.new.self.records) (take book_limit c.take_run.new.stock.records)
    (firsts_hold book_limit c.args.stock.now.records c.hold_old.new.self.records c.hold_old.ensures.extends) c.in_ok-take_run.ensures.held

pub returns-clause-gained : goal.returns-clause-gained
returns-clause-gained g c =
    subst (λ (model : Parts). GainsChapters c.args.store.now model c.args.publisher.now c.take_run.new.publisher) c.hold_old.ensures.model c.take_run.ensures.gained

pub returns-clause-published : goal.returns-clause-published
returns-clause-published g c =
    published_ran c.in_ok-made.made.kept.run c.hold_old.new.self.records c.args.publisher.now c.take_run.new.publisher c.args.steps.now c.simulate_over.new.steps
    c.in_ok-made.ensures.frugal c.in_ok-take_run.ensures.published
