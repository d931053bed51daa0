-- The index of a book: the ways through the code that its steps took, and the keys by which the steps are found.
use Rattle.std.specs.Prelude.{◌≡◌, ℕ, ◌++◌, List, Some, IfSome, map, slice_get}
use Rattle.std.specs.Hash.{HashWrites}
use Rattle.std.specs.Hash as writes
use Rattle.std.specs.Hash.FoldHasher as folding
use Rattle.std.specs.List.{flat_map, fold}
use Rattle.aerie_base.specs.declared.values.Value.{Value}
use Rattle.aerie_base.specs.declared.values.Value.TheVariants.{Int, Truth, Variant}
use Rattle.effect_cells.specs.declared.effects.CellState.{CellState}
use Rattle.effect_cells.specs.declared.effects.CellState.TheVariants.{Counter, Register, Volume}
use Rattle.run_data.specs.declared.tasks.TaskState.{TaskState}
use Rattle.run_data.specs.declared.frames.Record.{Record}
use Rattle.record_book.specs.KeyedItems.{keyed_item}
use Rattle.record_book.specs.StoredSteps.{FitsView, HasNoneTwice}
use Rattle.record_book.specs.declared.ways.KnownWay.{KnownWay}
use Rattle.record_book.specs.declared.stored_steps.StoredStep.{StoredStep}

-- the cells of reads
abbrev pub cells_read : List (ℕ × CellState) → List ℕ
cells_read reads = map (λ read. read.0) reads

-- the way that a step took: the state before it, and the cells that it read
abbrev pub way_of : TaskState → List (ℕ × CellState) → KnownWay
way_of state reads = record { state = state; cells = cells_read reads }

-- the way of a step
abbrev pub way_of_step : Record → KnownWay
way_of_step step = way_of step.before step.reads

-- ---- keys

-- a hash of what is written
abbrev pub hash_of : HashWrites → ℕ
hash_of written = folding.finish (fold folding.write folding.initial written)

-- what is written of the value of a register; values of two types may write the same
abbrev pub value_written : Value → HashWrites
value_written (Int number) = writes.i64 number
value_written (Truth truth) = writes.bool truth
value_written (Variant of number) = writes.u16 number

-- what is written of the state of a cell
abbrev pub cell_written : CellState → HashWrites
cell_written (Counter number) = writes.i128 number
cell_written (Register value conflicted) = value_written value
cell_written (Volume volume rate) = writes.i128 volume ++ writes.i128 rate

-- what is written of the states of reads
abbrev pub states_written : List (ℕ × CellState) → HashWrites
states_written reads = flat_map (λ read. cell_written read.1) reads

-- a step's key: a hash of the number of its way and of the states of the cells that it read
abbrev pub step_key : ℕ → List (ℕ × CellState) → ℕ
step_key way reads = hash_of (writes.usize way ++ states_written reads)

-- the key of all steps of a way that have reads of this kind at these cells
abbrev pub IsKeyOf : ℕ → List ℕ → (List (ℕ × CellState) → Type 0) → ℕ → Type 0
IsKeyOf way cells AreSuch key = (reads : List (ℕ × CellState)) → cells_read reads ≡ cells → AreSuch reads → key ≡ step_key way reads

-- a way's key: a hash of its state
abbrev pub state_key : (TaskState → HashWrites) → TaskState → ℕ
state_key of_task state = hash_of (of_task state)

-- ---- the index

-- each way stands under its key, and once
pub record AreWays (of_task : TaskState → HashWrites) (ways : List (ℕ × KnownWay)) : Type 0 where
  pub keyed : (at key : ℕ) (way : KnownWay) → slice_get ways at ≡ Some (key, way) → key ≡ state_key of_task way.state
  pub differ : (at other : ℕ) (way : KnownWay) → keyed_item ways at ≡ Some way → keyed_item ways other ≡ Some way → at ≡ other

-- each step stands under its key
abbrev pub AreKeyed : List (ℕ × StoredStep) → Type 0
AreKeyed steps = (at key : ℕ) (stored : StoredStep) → slice_get steps at ≡ Some (key, stored) → key ≡ step_key stored.way stored.step.reads

-- each step stands under its key, with the number of its way
pub record AreStepsOf (ways : List (ℕ × KnownWay)) (steps : List (ℕ × StoredStep)) : Type 0 where
  pub keyed : AreKeyed steps
  pub taken : (at : ℕ) (stored : StoredStep) → keyed_item steps at ≡ Some stored → keyed_item ways stored.way ≡ Some (way_of stored.step.before stored.step.reads)

-- the index of steps
pub record IsIndex (of_task : TaskState → HashWrites) (ways : List (ℕ × KnownWay)) (steps : List (ℕ × StoredStep)) : Type 0 where
  pub ways_ : AreWays of_task ways
  pub steps_ : AreStepsOf ways steps

-- the records of steps
abbrev pub records_of : List (ℕ × StoredStep) → List Record
records_of steps = map (λ stored. stored.1.step) steps

-- an index of steps, none of which is there twice
abbrev pub IsIndexOnce : (TaskState → HashWrites) → List (ℕ × KnownWay) → List (ℕ × StoredStep) → Type 0
IsIndexOnce of_task ways steps = IsIndex of_task ways steps × HasNoneTwice (records_of steps)

-- some step of a way is from this state, and the view agrees with its reads
pub record FitsOn (steps : List (ℕ × StoredStep)) (state : TaskState) (view : List CellState) (way : ℕ) : Type 0 where
  pub at : ℕ
  pub stored : StoredStep
  pub there : keyed_item steps at ≡ Some stored
  pub is_on : stored.way ≡ way
  pub fits : FitsView state view stored.step

-- ---- steps of one way

-- what holds of the step at a position
abbrev pub HoldsOfStep : List (ℕ × StoredStep) → (StoredStep → Type 0) → ℕ → Type 0
HoldsOfStep steps P at = IfSome (keyed_item steps at) P

-- a step is of this way, with reads of this kind
abbrev pub IsOnWay : ℕ → (List (ℕ × CellState) → Type 0) → StoredStep → Type 0
IsOnWay way AreSuch stored = (stored.way ≡ way) × AreSuch stored.step.reads

-- no step is
abbrev pub NoneIsOnWay : List (ℕ × StoredStep) → ℕ → (List (ℕ × CellState) → Type 0) → Type 0
NoneIsOnWay steps way AreSuch = (at : ℕ) (stored : StoredStep) → keyed_item steps at ≡ Some stored → stored.way ≡ way → AreSuch stored.step.reads → ⊥

-- no step with this key is
abbrev pub NoneIsOnWayUnder : ℕ → List (ℕ × StoredStep) → ℕ → (List (ℕ × CellState) → Type 0) → Type 0
NoneIsOnWayUnder key steps way AreSuch =
    (at : ℕ) (stored : StoredStep) → slice_get steps at ≡ Some (key, stored) → stored.way ≡ way → AreSuch stored.step.reads → ⊥

-- the steps of a way read cells of this kind
abbrev pub ReadOnWay : List (ℕ × StoredStep) → ℕ → (List ℕ → Type 0) → Type 0
ReadOnWay steps way AreSuch = (at : ℕ) (stored : StoredStep) → keyed_item steps at ≡ Some stored → stored.way ≡ way → AreSuch (cells_read stored.step.reads)

-- ---- steps that fit

-- the step at a position is from this state, and the view agrees with its reads
abbrev pub FitsAt : List (ℕ × StoredStep) → TaskState → List CellState → ℕ → Type 0
FitsAt steps state view = HoldsOfStep steps (λ stored. FitsView state view stored.step)

-- no step is
abbrev pub NoneFits : List (ℕ × StoredStep) → TaskState → List CellState → Type 0
NoneFits steps state view = (at : ℕ) (stored : StoredStep) → keyed_item steps at ≡ Some stored → FitsView state view stored.step → ⊥

-- none is of the ways with this key
abbrev pub NoneFitsUnder : ℕ → List (ℕ × KnownWay) → List (ℕ × StoredStep) → TaskState → List CellState → Type 0
NoneFitsUnder key ways steps state view = (way : ℕ) (taken : KnownWay) → slice_get ways way ≡ Some (key, taken) → FitsOn steps state view way → ⊥
