use Rattle.std.proofs.Common.{◌++◌, ap, sym, subst, ◌∙◌}
use Rattle.std.proofs.lemmas.List.{append-nil}
use Rattle.record_book.specs.StoredSteps.{StoredSteps}
use Rattle.batch_run.specs.Spreads.{IsSpreadOf}
use Rattle.bench.proofs.Paying.{codes_of}
use Rattle.bench.proofs.simulating.stepper_over.Goals as goal

pub new-requires-clause-pieces : goal.new-requires-clause-pieces
new-requires-clause-pieces g c κs within = (c.requires.setting.some, c.requires.setting.few)

pub new-requires-clause-model : goal.new-requires-clause-model
new-requires-clause-model g c κs within =
    ap (λ (book : StoredSteps). book.model) c.none.ensures ∙ sym (ap (λ (book : StoredSteps). book.model) c.book.ensures)

pub new-requires-clause-codes : goal.new-requires-clause-codes
new-requires-clause-codes g c κs within =
    codes_of c.args.setting.now.compiled c.book.result.now.model c.codes-codes.result.now (ap (λ (book : StoredSteps). book.model) c.book.ensures ∙ c.requires.model)
    c.codes-codes.ensures

pub returns-clause-of : goal.returns-clause-of
returns-clause-of g c = subst (IsSpreadOf c.new.result) (ap (λ (book : StoredSteps). book.model) c.book.ensures ∙ c.requires.model) c.new.ensures.of

pub returns-clause-records : goal.returns-clause-records
returns-clause-records g c =
    (λ i. (c.new.ensures.book i).records ++ (c.new.ensures.kept i).records)
    ∙ (λ i. (c.book.ensures i).records ++ (c.none.ensures i).records)
    ∙ append-nil c.args.stock.now.records
