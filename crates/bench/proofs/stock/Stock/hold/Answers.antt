use Rattle.std.proofs.Common.{refl, ap, sym, subst, ◌∙◌}
use Rattle.record_book.specs.StoredSteps.{StoredSteps}
use Rattle.bench.specs.HeldSteps.{Extends}
use Rattle.bench.specs.Stocks.{IsKnownIn}
use Rattle.bench.proofs.Extending.{nothing_more}
use Rattle.bench.proofs.KnownRuns.{is_known}
use Rattle.bench.proofs.stock.Stock.hold.Goals as goal

pub returns-then-knows-clause-extends : goal.returns-then-knows-clause-extends
returns-then-knows-clause-extends c = nothing_more c.args.self.now.records c.args.self.now.records refl

pub returns-then-knows-clause-known : goal.returns-then-knows-clause-known
returns-then-knows-clause-known c = is_known c.args.self.now c.args.kept.now c.get.result.now c.get.ensures c.requires (c.knows.ensures c.if-knows.true)

pub remember-requires-clause-made : goal.remember-requires-clause-made
remember-requires-clause-made c =
    is_known c.take_in.new.self c.args.kept.now c.get-2.result.now c.get-2.ensures (c.requires ∙ sym c.in_ok-take_in.ensures.model) c.in_ok-take_in.ensures.held

pub returns-clause-model : goal.returns-clause-model
returns-clause-model c = ap (λ (book : StoredSteps). book.model) c.remember.ensures ∙ c.in_ok-take_in.ensures.model

pub returns-clause-extends : goal.returns-clause-extends
returns-clause-extends c = subst (λ (book : StoredSteps). Extends c.args.self.now.records book.records) (sym c.remember.ensures) c.in_ok-take_in.ensures.extends

pub returns-clause-known : goal.returns-clause-known
returns-clause-known c = subst (λ (book : StoredSteps). IsKnownIn book c.args.kept.now) (sym c.remember.ensures)
    (is_known c.take_in.new.self c.args.kept.now c.get-2.result.now c.get-2.ensures (c.requires ∙ sym c.in_ok-take_in.ensures.model) c.in_ok-take_in.ensures.held)
