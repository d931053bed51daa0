-- Worked cases of stored steps.
use Rattle.std.specs.Prelude.{◌≡◌, ℕ, pos, true, false, [], ◌∷◌, Some, None, map, refl}
use Rattle.effect_cells.specs.declared.effects.CellState.TheVariants.{Counter}
use Rattle.run_data.specs.declared.frames.Record.{Record}
use Rattle.run_data.specs.declared.frames.Status.TheVariants.{Done}
use Rattle.run_data.specs.declared.tasks.BodyId.TheVariants as body
use Rattle.run_data.specs.declared.tasks.TaskState.{TaskState}
use Rattle.record_book.specs.KeyedItems.{last_with}
use Rattle.record_book.specs.StoredSteps.{has_record, with_records}

-- ---- `daemon Watch { let x = n; }` where n is so much

abbrev watching : TaskState
watching = record { kind = body.Daemon 0; at = 0; locals = [] }

abbrev reading : ℕ → Record
reading n = record {
  before = watching;
  reads = (0, Counter (pos n)) ∷ [];
  items = [];
  status = Done None;
  cost = 1;
}

-- one state with several reads has as many records, each once
pub each_reading_is_held_once : with_records [] (reading 3 ∷ reading 4 ∷ reading 3 ∷ []) ≡ reading 3 ∷ reading 4 ∷ []
each_reading_is_held_once = refl

pub another_reading_is_not_held : has_record (reading 3 ∷ reading 4 ∷ []) watching ((0, Counter (pos 5)) ∷ []) ≡ false
another_reading_is_not_held = refl

pub this_reading_is_held : has_record (reading 3 ∷ reading 4 ∷ []) watching ((0, Counter (pos 4)) ∷ []) ≡ true
this_reading_is_held = refl

-- ---- items with keys

pub the_last_with_a_key : map (λ key. last_with {T = ℕ} key ((7, 1) ∷ (8, 2) ∷ (7, 3) ∷ [])) (7 ∷ 8 ∷ 9 ∷ []) ≡ Some 2 ∷ Some 1 ∷ None ∷ []
the_last_with_a_key = refl
