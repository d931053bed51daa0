use Rattle.std.proofs.Common.{ap, ◌∙◌, take}
use Rattle.record_book.specs.StoredSteps.{StoredSteps, book_limit}
use Rattle.bench.proofs.Extending.{twice_first}
use Rattle.bench.proofs.stock.Stock.settle.Goals as goal

pub returns-then-is_long-clause-model : goal.returns-then-is_long-clause-model
returns-then-is_long-clause-model c = c.forget.ensures.model ∙ ap (λ (book : StoredSteps). book.model) c.remember.ensures

pub returns-then-is_long-clause-own : goal.returns-then-is_long-clause-own
returns-then-is_long-clause-own c =
    ap (take book_limit) c.forget.ensures.records ∙ twice_first book_limit c.remember.new.self.records
    ∙ ap (λ (book : StoredSteps). take book_limit book.records) c.remember.ensures
