-- The chapters that a bench gains in a simulation.
use Rattle.std.specs.Prelude.{◌≡◌, ◌⊎◌, ℕ, ◌+◌, ◌<◌, ◌≤◌, List, [], ◌∷◌, ◌++◌, drop, length, map}
use Rattle.std.specs.List.{All}
use Rattle.aerie_base.specs.declared.models.model.Parts.{Parts}
use Rattle.boxcar.specs.Table.{Shelves}
use Rattle.history_store.specs.Publishing.{PublishedChapter, most_published}
use Rattle.record_book.specs.StoredSteps.{StoredSteps, chapter_limit}
use Rattle.run_data.specs.Records.{record_of}
use Rattle.run_data.specs.declared.frames.Record.{Record}
use Rattle.run_data.specs.declared.runs.Outcome.TheVariants.{Completed}
use Rattle.run_data.specs.declared.runs.Run.{Run}
use Rattle.run_data.specs.Batches.{cost_of}
use Rattle.run_data.specs.TaskFrames.{Frame}

-- the receipts behind those of before
abbrev pub gained : List PublishedChapter → List PublishedChapter → List PublishedChapter
gained before after = drop (length before) after

-- a receipt of this store, for a chapter of this model
pub record IsReceiptOf (store : Shelves) (model : Parts) (receipt : PublishedChapter) : Type 0 where
  pub store_ : receipt.store ≡ store
  pub model_ : receipt.chapter.model ≡ model

-- each chapter but the last has 4,096 records, and none is empty
abbrev pub AreFull : List PublishedChapter → Type 0
AreFull [] = Unit {0}
AreFull (last ∷ []) = 1 ≤ length last.chapter.records
AreFull (receipt ∷ next ∷ rest) = (length receipt.chapter.records ≡ chapter_limit) × AreFull (next ∷ rest)

-- more receipts stand behind the others, of chapters of this model in this store
pub record GainsChapters (store : Shelves) (model : Parts) (before after : List PublishedChapter) : Type 0 where
  pub earlier_stay : after ≡ before ++ gained before after
  pub own : All (IsReceiptOf store model) (gained before after)
  pub full : AreFull (gained before after)

-- the chapter of the steps of frames
abbrev pub chapter_of : Parts → List Frame → StoredSteps
chapter_of model frames = record { model = model; records = map record_of frames }

-- where the chapter ends that begins at a place, among so many frames
pub record EndsChapter (from all to : ℕ) : Type 0 where
  pub onward : from < to
  pub within : to ≤ all
  pub whole : (to ≡ from + chapter_limit) ⊎ ((to ≡ all) × (all ≤ from + chapter_limit))

-- the costs of records together
abbrev pub cost_of_records : List Record → ℕ
cost_of_records [] = 0
cost_of_records (of ∷ rest) = of.cost + cost_of_records rest

-- the costs of the records of chapters together
abbrev pub cost_of_chapters : List PublishedChapter → ℕ
cost_of_chapters [] = 0
cost_of_chapters (receipt ∷ rest) = cost_of_records receipt.chapter.records + cost_of_chapters rest

-- the chapters that were gained have what frames cost, unless as many were published as may be
abbrev pub PublishesFrames : List Frame → List PublishedChapter → List PublishedChapter → Type 0
PublishesFrames frames before after = (cost_of frames ≤ cost_of_chapters (gained before after)) ⊎ (length after ≡ most_published)

-- if the run was completed, the chapters that were gained have what a count rose by, unless as many were published as may be
abbrev pub PublishesWhatRan : Run → List PublishedChapter → List PublishedChapter → ℕ → ℕ → Type 0
PublishesWhatRan run before after steps steps_after =
    run.outcome ≡ Completed → (steps_after ≤ steps + cost_of_chapters (gained before after)) ⊎ (length after ≡ most_published)
