-- Which runs a stock knows: those of its model, all of whose frames it holds.
use Rattle.std.specs.Prelude.{◌≡◌, [], Option, IfSome}
use Rattle.bench.specs.HeldSteps.{HoldsRun}
use Rattle.record_book.specs.StoredSteps.{StoredSteps}
use Rattle.run_data.specs.KeptRuns.{KeptRun}

pub record IsKnownIn (steps : StoredSteps) (kept : KeptRun) : Type 0 where
  pub model : kept.model ≡ steps.model
  pub held : HoldsRun steps.records kept.run

-- a stock: a book, a book of its model without records, and runs that are known
pub record IsStock (book none : StoredSteps) (latest earlier : Option KeptRun) : Type 0 where
  pub none_ : none ≡ record { model = book.model; records = [] }
  pub latest_ : IfSome latest (IsKnownIn book)
  pub earlier_ : IfSome earlier (IsKnownIn book)
