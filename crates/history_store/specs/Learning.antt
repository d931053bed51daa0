-- What a book learns from a store: chapters of its model, each of them valid. Which chapters there were to find, it does not say.
use Rattle.std.specs.Prelude.{◌≡◌, List, [], ◌∷◌}
use Rattle.std.specs.List.{All}
use Rattle.run_data.specs.Records.{IsValid}
use Rattle.record_book.specs.StoredSteps.{StoredSteps, MayTakeIn, with_chapter}

-- a book with several chapters, one after another
abbrev pub with_chapters : StoredSteps → List StoredSteps → StoredSteps
with_chapters book [] = book
with_chapters book (chapter ∷ rest) = with_chapters (with_chapter book chapter) rest

-- each of them may be taken in when it is its turn
abbrev pub MayTakeInAll : StoredSteps → List StoredSteps → Type 0
MayTakeInAll book [] = Unit {0}
MayTakeInAll book (chapter ∷ rest) = MayTakeIn book chapter × MayTakeInAll (with_chapter book chapter) rest

-- each record of a chapter is valid for its model
abbrev pub IsValidChapter : StoredSteps → Type 0
IsValidChapter chapter = All (IsValid chapter.model) chapter.records

-- a book that has taken in some chapters
pub record HasLearnt (before after : StoredSteps) : Type 0 where
  pub chapters : List StoredSteps
  pub valid : All IsValidChapter chapters
  pub may : MayTakeInAll before chapters
  pub taken : after ≡ with_chapters before chapters
