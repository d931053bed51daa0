-- What holds of a book that has learnt.
use Rattle.std.specs.Prelude.{◌≡◌, ◌⊎◌}
use Rattle.std.specs.List.{Contains}
use Rattle.run_data.specs.declared.frames.Record.{Record}
use Rattle.record_book.specs.StoredSteps.{StoredSteps}
use Rattle.history_store.specs.Learning.{HasLearnt}

-- it is of the same model
abbrev pub ModelStays : Type 0
ModelStays = (before after : StoredSteps) → HasLearnt before after → after.model ≡ before.model

-- all that it held it still holds
abbrev pub LearntStay : Type 0
LearntStay = (before after : StoredSteps) (of : Record) → HasLearnt before after → Contains before.records of → Contains after.records of

-- what else it holds is of a chapter that it took in, and that chapter is of its model
abbrev pub LearntComeFromChapters : Type 0
LearntComeFromChapters = (before after : StoredSteps) (of : Record) (learnt : HasLearnt before after) → Contains after.records of →
    Contains before.records of ⊎ ((chapter : StoredSteps) × Contains learnt.chapters chapter × (chapter.model ≡ before.model) × Contains chapter.records of)
