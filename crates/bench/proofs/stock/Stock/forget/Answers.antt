use Rattle.std.proofs.Common.{ap, ◌∙◌, take}
use Rattle.record_book.specs.StoredSteps.{StoredSteps, book_limit}
use Rattle.bench.proofs.KnownRuns.{nothing_known}
use Rattle.bench.proofs.stock.Stock.forget.Goals as goal

pub invariant_of-self : goal.invariant_of-self
invariant_of-self c =
    nothing_known c.self.inside.book c.keep_first.new.self c.self.inside.none c.self.inside.latest c.self.inside.earlier c.self.invariant c.keep_first.ensures.model

pub returns-clause-model : goal.returns-clause-model
returns-clause-model c = c.keep_first.ensures.model ∙ ap (λ (book : StoredSteps). book.model) c.self.view_is

pub returns-clause-records : goal.returns-clause-records
returns-clause-records c = c.keep_first.ensures.records ∙ ap (λ (book : StoredSteps). take book_limit book.records) c.self.view_is
