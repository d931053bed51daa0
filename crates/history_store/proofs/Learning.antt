-- Chapters that are taken in one after another.
use Rattle.std.proofs.Common.{◌≡◌, ◌⊎◌, List, [], ◌∷◌, ◌++◌, inl, inr, refl, ap, sym, subst, ◌∙◌}
use Rattle.std.specs.List.{Contains}
use Rattle.std.proofs.lemmas.List.Elements.{All-append, All-nil, All-push, Contains-append_left, Contains-append_right, Contains-push}
use Rattle.aerie_base.specs.declared.models.model.Parts.{Parts}
use Rattle.run_data.specs.declared.frames.Record.{Record}
use Rattle.record_book.specs.StoredSteps.{StoredSteps, MayTakeIn, with_chapter}
use Rattle.record_book.specs.laws.TakenIn.{HeldStay, NoOthersAreHeld}
use Rattle.history_store.specs.laws.Learnt.{LearntComeFromChapters, LearntStay, ModelStays}
use Rattle.history_store.specs.Learning.{HasLearnt, IsValidChapter, MayTakeInAll, with_chapters}

-- ---- learning more

may_then : (before : StoredSteps) (first rest : List StoredSteps) → MayTakeInAll before first →
    MayTakeInAll (with_chapters before first) rest → MayTakeInAll before (first ++ rest)
may_then before [] rest one two = two
may_then before (chapter ∷ first) rest one two = (one.0, may_then (with_chapter before chapter) first rest one.1 two)

chapters_then : (before : StoredSteps) (first rest : List StoredSteps) →
    with_chapters (with_chapters before first) rest ≡ with_chapters before (first ++ rest)
chapters_then before [] rest = refl
chapters_then before (chapter ∷ first) rest = chapters_then (with_chapter before chapter) first rest

pub learnt_then : (before between after : StoredSteps) → HasLearnt before between → HasLearnt between after → HasLearnt before after
learnt_then before between after one two = record {
  chapters = one.chapters ++ two.chapters;
  valid = All-append IsValidChapter one.chapters two.chapters one.valid two.valid;
  may = may_then before one.chapters two.chapters one.may (subst (λ (book : StoredSteps). MayTakeInAll book two.chapters) one.taken two.may);
  taken = two.taken ∙ (ap (λ (book : StoredSteps). with_chapters book two.chapters) one.taken ∙ chapters_then before one.chapters two.chapters);
}

pub learnt_nothing : (before after : StoredSteps) → after ≡ before → HasLearnt before after
learnt_nothing before after same = record { chapters = []; valid = All-nil IsValidChapter; may = tt; taken = same }

pub learnt_one : (before chapter after : StoredSteps) → IsValidChapter chapter → MayTakeIn before chapter → after ≡ with_chapter before chapter →
    HasLearnt before after
learnt_one before chapter after valid may taken = record {
  chapters = chapter ∷ [];
  valid = All-push IsValidChapter [] chapter (All-nil IsValidChapter) valid;
  may = (may, tt);
  taken = taken;
}

-- ---- what is held then

model_of_taken : (before : StoredSteps) (chapters : List StoredSteps) → (with_chapters before chapters).model ≡ before.model
model_of_taken before [] = refl
model_of_taken before (chapter ∷ rest) = model_of_taken (with_chapter before chapter) rest

pub model_stays : ModelStays
model_stays before after learnt = ap (λ (book : StoredSteps). book.model) learnt.taken ∙ model_of_taken before learnt.chapters

taken_stay : HeldStay → (before : StoredSteps) (chapters : List StoredSteps) (of : Record) → Contains before.records of →
    Contains (with_chapters before chapters).records of
taken_stay stay before [] of held = held
taken_stay stay before (chapter ∷ rest) of held = taken_stay stay (with_chapter before chapter) rest of (stay before.records chapter.records of held)

pub learnt_stay : HeldStay → LearntStay
learnt_stay stay before after of learnt held =
    subst (λ (book : StoredSteps). Contains book.records of) (sym learnt.taken) (taken_stay stay before learnt.chapters of held)

-- a chapter among several, of a model, with a record
abbrev Gives : Parts → List StoredSteps → Record → Type 0
Gives model chapters of = (chapter : StoredSteps) × Contains chapters chapter × (chapter.model ≡ model) × Contains chapter.records of

gives_later : (model : Parts) (chapter : StoredSteps) (rest : List StoredSteps) (of : Record) → Gives model rest of → Gives model (chapter ∷ rest) of
gives_later model chapter rest of given = (given.0, Contains-append_right (chapter ∷ []) rest given.0 given.1, given.2, given.3)

gives_first : (model : Parts) (chapter : StoredSteps) (rest : List StoredSteps) (of : Record) → chapter.model ≡ model → Contains chapter.records of →
    Gives model (chapter ∷ rest) of
gives_first model chapter rest of is held = (chapter, Contains-append_left (chapter ∷ []) rest chapter (Contains-push [] chapter), is, held)

come_from : NoOthersAreHeld → (before : StoredSteps) (chapters : List StoredSteps) (of : Record) → MayTakeInAll before chapters →
    Contains (with_chapters before chapters).records of → Contains before.records of ⊎ Gives before.model chapters of
come_from others before [] of may held = inl held
come_from others before (chapter ∷ rest) of may held = by (come_from others (with_chapter before chapter) rest of may.1 held)
  where
    by : Contains (with_chapter before chapter).records of ⊎ Gives before.model rest of → Contains before.records of ⊎ Gives before.model (chapter ∷ rest) of
    by (inr given) = inr (gives_later before.model chapter rest of given)
    by (inl taken) = once (others before.records chapter.records of taken)
      where
        once : Contains before.records of ⊎ Contains chapter.records of → Contains before.records of ⊎ Gives before.model (chapter ∷ rest) of
        once (inl old) = inl old
        once (inr new) = inr (gives_first before.model chapter rest of may.0.model new)

pub learnt_come : NoOthersAreHeld → LearntComeFromChapters
learnt_come others before after of learnt held =
    come_from others before learnt.chapters of learnt.may (subst (λ (book : StoredSteps). Contains book.records of) learnt.taken held)
