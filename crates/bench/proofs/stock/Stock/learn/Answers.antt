use Rattle.std.proofs.Common.{ap, subst, ◌∙◌}
use Rattle.record_book.specs.StoredSteps.{StoredSteps}
use Rattle.bench.specs.HeldSteps.{Extends}
use Rattle.bench.proofs.Extending.{learnt_model, learnt_more}
use Rattle.bench.proofs.KnownRuns.{stock_on}
use Rattle.bench.proofs.stock.Stock.learn.Goals as goal

pub invariant_of-self : goal.invariant_of-self
invariant_of-self c =
    stock_on c.self.inside.book c.learn.new.book c.self.inside.none c.self.inside.latest c.self.inside.earlier c.self.invariant
    (learnt_model c.self.inside.book c.learn.new.book c.learn.ensures.learnt) (learnt_more c.self.inside.book c.learn.new.book c.learn.ensures.learnt)

pub returns-clause-model : goal.returns-clause-model
returns-clause-model c = learnt_model c.self.inside.book c.learn.new.book c.learn.ensures.learnt ∙ ap (λ (book : StoredSteps). book.model) c.self.view_is

pub returns-clause-extends : goal.returns-clause-extends
returns-clause-extends c =
    subst (λ (book : StoredSteps). Extends book.records c.learn.new.book.records) c.self.view_is (learnt_more c.self.inside.book c.learn.new.book c.learn.ensures.learnt)
