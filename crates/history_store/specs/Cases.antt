-- Worked cases: shelves that are full and not, and books that take chapters in.
use Rattle.std.specs.Prelude.{◌≡◌, ℕ, pos, List, [], ◌∷◌, None, map, refl}
use Rattle.aerie_base.specs.declared.values.Value.TheVariants as value
use Rattle.run_data.specs.declared.frames.Record.{Record}
use Rattle.run_data.specs.declared.frames.Status.TheVariants as status
use Rattle.run_data.specs.declared.tasks.BodyId.TheVariants as body
use Rattle.run_data.specs.cases.SmallModels.{small_model, bump}
use Rattle.record_book.specs.StoredSteps.{StoredSteps}
use Rattle.history_store.specs.declared.store.Cause.TheVariants.{Full}
use Rattle.history_store.specs.Learning.{with_chapters}
use Rattle.history_store.specs.Publishing.{IsCause}

-- ---- why a chapter is not published

pub a_shelf_that_has_published_16_is_full : IsCause 16 (Full 16)
a_shelf_that_has_published_16_is_full = (refl, refl)

-- ---- chapters one after another

-- the records of steps that begin with a number
abbrev record_from : ℕ → Record
record_from n = record {
  before = record { kind = body.Activity 0; at = 0; locals = value.Int (pos n) ∷ [] };
  reads = [];
  items = [];
  status = status.Done None;
  cost = 1;
}

abbrev stored : List ℕ → StoredSteps
stored numbers = record { model = small_model [] (bump ∷ []) []; records = map record_from numbers }

-- records that a book has already are taken in no more
pub a_record_is_taken_in_once : with_chapters (stored (1 ∷ [])) (stored (1 ∷ 2 ∷ []) ∷ stored (3 ∷ 2 ∷ []) ∷ []) ≡ stored (1 ∷ 2 ∷ 3 ∷ [])
a_record_is_taken_in_once = refl
