-- The cells after a batch, and after some time, are of the model.
use Rattle.std.proofs.Common.{◌≡◌, ℕ, zero, suc, ◌+◌, ℤ, nat_eq, Bool, true, false, if◌then◌else◌, IsTrue, List, [], ◌∷◌, map, length, Option, Some, None, slice_get, refl, sym, ap, ◌∙◌, subst, arith}
use Rattle.aerie_base.specs.declared.values.Value.{Value}
use Rattle.aerie_base.specs.declared.operands.CellRead.{CellRead}
use Rattle.aerie_base.specs.declared.operands.CellRead.TheVariants as read
use Rattle.aerie_base.specs.declared.models.model.Parts.{Parts}
use Rattle.aerie_base.specs.expressions.Readings.{cell_of}
use Rattle.aerie_base.specs.models.ValidModel.{valid_model}
use Rattle.effect_cells.specs.declared.effects.CellState.{CellState}
use Rattle.effect_cells.specs.declared.effects.CellState.TheVariants.{Counter, Register, Volume}
use Rattle.effect_cells.specs.declared.effects.Effect.{Effect}
use Rattle.effect_cells.specs.declared.effects.Effect.TheVariants as effect
use Rattle.effect_cells.specs.declared.registers.Change.{Change}
use Rattle.effect_cells.specs.declared.registers.Change.TheVariants.{Nothing, Set, Mark, SetMark}
use Rattle.effect_cells.specs.declared.trees.Part.{Part}
use Rattle.effect_cells.specs.Cells.{committed_cells, emitted, passed, with_effects}
use Rattle.effect_cells.specs.Changes.{change_in_turn, change_beside}
use Rattle.effect_cells.specs.Reads.{state_kind}
use Rattle.effect_cells.specs.States.{applied_if_any, state_after, volume_of}
use Rattle.effect_cells.specs.TreeRecursion.{part_gives}
use Rattle.effect_cells.specs.TreeRecursionLaws.{gives-Child}
use Rattle.effect_cells.specs.Worth.{Before, effect_in_turn, effect_beside, in_front, beside, part_worth, tree_worth, items_worth, worth_of}
use Rattle.run_data.specs.declared.jobs.Job.{Job}
use Rattle.run_data.specs.TaskFrames.{Frame}
use Rattle.run_data.specs.declared.frames.Item.{Item}
use Rattle.run_data.specs.declared.frames.Item.TheVariants as item
use Rattle.run_data.specs.Batches.{tree_of}
use Rattle.run_data.specs.Frames.{Made, Making, with_effect, with_child, with_frame, job_step, frame_of, child_job, of_items, of_step, too_deep, made_within, made_by, made_by_all, room_of}
use Rattle.run_data.specs.Jobs.{AreCellsOf}
use Rattle.run_data.specs.Steps.{Stepped}
use Rattle.run_data.specs.laws.Orders.{EachOf}
use Rattle.run_data.proofs.CellKinds.{LeavesKinds, cells_emitted, add_leaves, flow_leaves}
use Rattle.run_data.proofs.StepEndings.{ChildrenGoOn, GoodJob, good_step}
use Rattle.run_data.proofs.StepLeavings.{EffectsFit}

-- ---- effects in turn and beside each other

flag_kind : (what : CellRead) (value : Value) (flag other : Bool) → state_kind what (Some (Register value flag)) ≡ state_kind what (Some (Register value other))
flag_kind (read.Counter cell) value flag other = refl
flag_kind (read.Register cell) value flag other = refl
flag_kind (read.Conflicted cell) value flag other = refl
flag_kind (read.Volume cell) value flag other = refl
flag_kind (read.Rate cell) value flag other = refl

mark_leaves : (s : CellState) → LeavesKinds (effect.Register Mark) (Some s)
mark_leaves (Counter number) = λ what. refl
mark_leaves (Register value flag) = λ what. flag_kind what value true flag
mark_leaves (Volume volume rate) = λ what. refl

set_mark_leaves : (s : CellState) (value : Value) → LeavesKinds (effect.Register (Set value)) (Some s) → LeavesKinds (effect.Register (SetMark value)) (Some s)
set_mark_leaves (Counter number) value h = λ what. refl
set_mark_leaves (Register old flag) value h = λ what. flag_kind what value true false ∙ h what
set_mark_leaves (Volume volume rate) value h = λ what. refl

change_in_turn_leaves : (s : CellState) (a b : Change) → LeavesKinds (effect.Register a) (Some s) → LeavesKinds (effect.Register b) (Some s) → LeavesKinds (effect.Register (change_in_turn a b)) (Some s)
change_in_turn_leaves s a Nothing h k = h
change_in_turn_leaves s a (Set value) h k = k
change_in_turn_leaves s a (SetMark value) h k = k
change_in_turn_leaves s Nothing Mark h k = k
change_in_turn_leaves s Mark Mark h k = k
change_in_turn_leaves s (Set value) Mark h k = set_mark_leaves s value h
change_in_turn_leaves s (SetMark value) Mark h k = h

change_beside_leaves : (s : CellState) (a b : Change) → LeavesKinds (effect.Register a) (Some s) → LeavesKinds (effect.Register b) (Some s) → LeavesKinds (effect.Register (change_beside a b)) (Some s)
change_beside_leaves s Nothing b h k = k
change_beside_leaves s (Set value) Nothing h k = h
change_beside_leaves s Mark Nothing h k = h
change_beside_leaves s (SetMark value) Nothing h k = h
change_beside_leaves s (Set value) (Set other) h k = mark_leaves s
change_beside_leaves s (Set value) Mark h k = mark_leaves s
change_beside_leaves s (Set value) (SetMark other) h k = mark_leaves s
change_beside_leaves s Mark (Set other) h k = mark_leaves s
change_beside_leaves s Mark Mark h k = mark_leaves s
change_beside_leaves s Mark (SetMark other) h k = mark_leaves s
change_beside_leaves s (SetMark value) (Set other) h k = mark_leaves s
change_beside_leaves s (SetMark value) Mark h k = mark_leaves s
change_beside_leaves s (SetMark value) (SetMark other) h k = mark_leaves s

effect_in_turn_leaves : (s : CellState) (e f : Effect) → LeavesKinds e (Some s) → LeavesKinds f (Some s) → LeavesKinds (effect_in_turn e f) (Some s)
effect_in_turn_leaves s (effect.Add a) (effect.Add b) h k = add_leaves _ (Some s)
effect_in_turn_leaves s (effect.Add a) (effect.Register b) h k = h
effect_in_turn_leaves s (effect.Add a) (effect.Flow b c) h k = h
effect_in_turn_leaves s (effect.Register a) (effect.Add b) h k = h
effect_in_turn_leaves s (effect.Register a) (effect.Register b) h k = change_in_turn_leaves s a b h k
effect_in_turn_leaves s (effect.Register a) (effect.Flow b c) h k = h
effect_in_turn_leaves s (effect.Flow a d) (effect.Add b) h k = h
effect_in_turn_leaves s (effect.Flow a d) (effect.Register b) h k = h
effect_in_turn_leaves s (effect.Flow a d) (effect.Flow b c) h k = flow_leaves _ _ (Some s)

beside_leaves : (s : CellState) (e f : Effect) → LeavesKinds e (Some s) → LeavesKinds f (Some s) → LeavesKinds (effect_beside e f) (Some s)
beside_leaves s (effect.Add a) (effect.Add b) h k = add_leaves _ (Some s)
beside_leaves s (effect.Add a) (effect.Register b) h k = h
beside_leaves s (effect.Add a) (effect.Flow b c) h k = h
beside_leaves s (effect.Register a) (effect.Add b) h k = h
beside_leaves s (effect.Register a) (effect.Register b) h k = change_beside_leaves s a b h k
beside_leaves s (effect.Register a) (effect.Flow b c) h k = h
beside_leaves s (effect.Flow a d) (effect.Add b) h k = h
beside_leaves s (effect.Flow a d) (effect.Register b) h k = h
beside_leaves s (effect.Flow a d) (effect.Flow b c) h k = flow_leaves _ _ (Some s)

-- ---- what a tree comes to on a cell

abbrev pub LeavesAny : Option CellState → Option Effect → Type 0
LeavesAny found None = Unit {0}
LeavesAny found (Some e) = LeavesKinds e found

front_leaves : (found : Option CellState) (e : Effect) (rest : Option Effect) → LeavesKinds e found → LeavesAny found rest → LeavesAny found (in_front e rest)
front_leaves found e None h k = h
front_leaves None e (Some f) h k = tt
front_leaves (Some s) e (Some f) h k = effect_in_turn_leaves s e f h k

both_leave : (found : Option CellState) (first rest : Option Effect) → LeavesAny found first → LeavesAny found rest → LeavesAny found (beside first rest)
both_leave found None rest h k = k
both_leave found (Some e) None h k = h
both_leave None (Some e) (Some f) h k = tt
both_leave (Some s) (Some e) (Some f) h k = beside_leaves s e f h k

abbrev worth_in : List Part → ℕ → Option Effect
worth_in parts cell = items_worth (map (part_gives Before (ℕ → Option Effect) part_worth tree_worth) parts) cell

module _ (model : Parts) (valid : IsTrue (valid_model model)) (cells : List CellState) (are : AreCellsOf model cells) where
  abbrev TreeLeaves : List Part → Type 0
  TreeLeaves parts = (cell : ℕ) → LeavesAny (slice_get cells cell) (worth_in parts cell)

  abbrev pub MadeLeaves : Making → Type 0
  MadeLeaves None = Unit {0}
  MadeLeaves (Some made) = TreeLeaves made.tree

  effect_leaves : (on : ℕ) (e : Effect) (making : Making) → LeavesKinds e (slice_get cells on) → MadeLeaves making → MadeLeaves (with_effect on e making)
  effect_leaves on e None h k = tt
  effect_leaves on e (Some made) h k = λ cell. by cell (nat_eq on cell) refl
    where
      by : (cell : ℕ) (here : Bool) → nat_eq on cell ≡ here → LeavesAny (slice_get cells cell) (if here then in_front e (worth_in made.tree cell) else worth_in made.tree cell)
      by cell true same =
          let is : on ≡ cell = grind arith in
          front_leaves (slice_get cells cell) e (worth_in made.tree cell) (subst (λ c. LeavesKinds e (slice_get cells c)) is h) (k cell)
      by cell false other = k cell

  child_leaves : (child rest : Making) → MadeLeaves child → MadeLeaves rest → MadeLeaves (with_child child rest)
  child_leaves None rest h k = tt
  child_leaves (Some child) None h k = tt
  child_leaves (Some child) (Some rest) h k = λ cell.
      subst (λ (b : Before). LeavesAny (slice_get cells cell) (b cell (worth_in rest.tree cell)))
      (sym (gives-Child Before (ℕ → Option Effect) part_worth tree_worth (record { items = child.tree })))
      (both_leave (slice_get cells cell) (worth_in child.tree cell) (worth_in rest.tree cell) (h cell) (k cell))

  frame_leaves : (frame : Frame) (making : Making) → MadeLeaves making → MadeLeaves (with_frame frame making)
  frame_leaves frame None h = tt
  frame_leaves frame (Some made) h = h

  items_leave : (of_child : Job → Making) → ((job : Job) → GoodJob model job → MadeLeaves (of_child job)) → (maker : List ℕ) (number : ℕ) (view : List CellState) (items : List Item) →
      AreCellsOf model view → EffectsFit model items → ChildrenGoOn model items → MadeLeaves (of_items model of_child maker number view items)
  items_leave of_child goods maker number view [] value_read fit children = λ cell. tt
  items_leave of_child goods maker number view (item.Emit cell e ∷ rest) value_read fit children =
      effect_leaves cell e (of_items model of_child maker number (emitted view cell e) rest) (fit.0 cells are)
      (items_leave of_child goods maker number (emitted view cell e) rest (cells_emitted model view cell e value_read (fit.0 view value_read)) fit.1 children)
  items_leave of_child goods maker number view (item.Child kind arguments ∷ rest) value_read fit children =
      child_leaves (of_child (child_job model maker number view kind arguments)) (of_items model of_child maker (number + 1) view rest)
      (goods (child_job model maker number view kind arguments)
      (record { state = children.0; view = value_read }))
      (items_leave of_child goods maker (number + 1) view rest value_read fit children.1)

  step_made_leaves : (budget : ℕ) (of_child : Job → Making) → ((job : Job) → GoodJob model job → MadeLeaves (of_child job)) → (job : Job) (number : ℕ) (stepped : Stepped) →
      job_step model budget job ≡ stepped → GoodJob model job → MadeLeaves (of_step model of_child job number stepped)
  step_made_leaves budget of_child goods job number None e good = tt
  step_made_leaves budget of_child goods job number (Some (status, so_far)) e good =
      let step = good_step model budget job status so_far valid good e in
      frame_leaves (frame_of job status so_far) (of_items model of_child job.path number job.view so_far.items)
      (items_leave of_child goods job.path number job.view so_far.items good.view step.effects step.children)

  within_leaves : (budget room number : ℕ) (job : Job) → GoodJob model job → MadeLeaves (made_within model budget room number job)
  within_leaves budget zero number job good = step_made_leaves budget (too_deep job.path) (λ child is. λ cell. tt) job number (job_step model budget job) refl good
  within_leaves budget (suc room) number job good =
      step_made_leaves budget (made_within model budget room 0) (λ child is. within_leaves budget room 0 child is) job number (job_step model budget job) refl good

  pub jobs_leave : (budget : ℕ) (jobs : List (ℕ × Job)) → EachOf (λ job. GoodJob model job.1) jobs → MadeLeaves (made_by_all model budget jobs)
  jobs_leave budget [] good = λ cell. tt
  jobs_leave budget (job ∷ rest) good =
      child_leaves (made_by model budget job) (made_by_all model budget rest) (within_leaves budget (room_of job.1.path) job.0 job.1 good.0) (jobs_leave budget rest good.1)

  -- ---- cells

  applied_kind : (what : CellRead) (s : CellState) (e : Option Effect) → LeavesAny (Some s) e → state_kind what (Some (applied_if_any s e)) ≡ state_kind what (Some s)
  applied_kind what s None h = refl
  applied_kind what s (Some e) h = h what

  effects_kind : (on : ℕ → Option Effect) (others : List CellState) (from cell number : ℕ) (what : CellRead) → number ≡ from + cell → LeavesAny (slice_get others cell) (on number) →
      state_kind what (slice_get (with_effects from on others) cell) ≡ state_kind what (slice_get others cell)
  effects_kind on [] from cell number what e h = refl
  effects_kind on (s ∷ rest) from zero number what e h =
      let here : number ≡ from = omega (arith, e) in applied_kind what s (on from) (subst (λ n. LeavesAny (Some s) (on n)) here h)
  effects_kind on (s ∷ rest) from (suc cell) number what e h = effects_kind on rest (from + 1) cell number what (omega (arith, e)) h

  effects_length : (on : ℕ → Option Effect) (others : List CellState) (from : ℕ) → length (with_effects from on others) ≡ length others
  effects_length on [] from = refl
  effects_length on (s ∷ rest) from = ap suc (effects_length on rest (from + 1))

  pub committed_are : (made : Made) → TreeLeaves made.tree → AreCellsOf model (committed_cells cells (tree_of made))
  committed_are made leaves = record {
    count = effects_length (worth_of (tree_of made)) cells 0 ∙ are.count;
    kinds = λ what. effects_kind (worth_of (tree_of made)) cells 0 (cell_of what) (cell_of what) what (omega arith) (leaves (cell_of what)) ∙ are.kinds what;
  }

-- ---- time

volume_kind : (what : CellRead) (a b : ℤ × ℤ) → state_kind what (Some (volume_of a)) ≡ state_kind what (Some (volume_of b))
volume_kind (read.Counter cell) a b = refl
volume_kind (read.Register cell) a b = refl
volume_kind (read.Conflicted cell) a b = refl
volume_kind (read.Volume cell) a b = refl
volume_kind (read.Rate cell) a b = refl

later_kind : (dt : ℕ) (what : CellRead) (s : CellState) → state_kind what (Some (state_after dt s)) ≡ state_kind what (Some s)
later_kind dt what (Counter number) = refl
later_kind dt what (Register value flag) = refl
later_kind dt what (Volume volume rate) = volume_kind what _ (volume, rate)

passed_kind : (dt : ℕ) (what : CellRead) (cells : List CellState) (cell : ℕ) → state_kind what (slice_get (passed cells dt) cell) ≡ state_kind what (slice_get cells cell)
passed_kind dt what [] cell = refl
passed_kind dt what (s ∷ rest) zero = later_kind dt what s
passed_kind dt what (s ∷ rest) (suc cell) = passed_kind dt what rest cell

passed_length : (dt : ℕ) (cells : List CellState) → length (passed cells dt) ≡ length cells
passed_length dt [] = refl
passed_length dt (s ∷ rest) = ap suc (passed_length dt rest)

pub passed_are : (model : Parts) (cells : List CellState) (dt : ℕ) → AreCellsOf model cells → AreCellsOf model (passed cells dt)
passed_are model cells dt are = record {
  count = passed_length dt cells ∙ are.count;
  kinds = λ what. passed_kind dt what cells (cell_of what) ∙ are.kinds what;
}
