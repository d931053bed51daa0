-- What is published, and why a chapter is not.
use Rattle.std.specs.Prelude.{◌≡◌, ◌≢◌, ℕ}
use Rattle.boxcar.specs.Table.{Shelves}
use Rattle.record_book.specs.StoredSteps.{StoredSteps}
use Rattle.history_store.specs.declared.store.Cause.{Cause}
use Rattle.history_store.specs.declared.store.Cause.TheVariants.{Full, OutOfMemory}

-- a receipt: the store that took a chapter, and that chapter
pub record PublishedChapter : Type 0 where
  pub store : Shelves
  pub chapter : StoredSteps

-- what the receipt of a chapter shows
abbrev pub receipt_of : Shelves → StoredSteps → PublishedChapter
receipt_of store chapter = record { store = store; chapter = chapter }

-- how many chapters one shelf may publish
abbrev pub most_published : ℕ
most_published = 16

-- A shelf that has published so many refuses a chapter for this cause: it is Full exactly where they are as many as it may, and tells
-- their number.
abbrev pub IsCause : ℕ → Cause → Type 0
IsCause published (Full told) = (published ≡ most_published) × (told ≡ most_published)
IsCause published OutOfMemory = published ≢ most_published
