-- The cells that are read off a fresh run below its reach are in range: they are at each settled instant and at the next, and
-- between the two each volume goes straight from the one to the other.
use Rattle.std.proofs.Common.{◌≡◌, ◌⊎◌, inl, inr, ℕ, zero, suc, ◌+◌, ◌-◌, ◌<◌, ◌≤◌, ℤ, pos, negsuc, ◌+ℤ◌, ◌*ℤ◌, ◌≤ℤ◌, Bool, true, false, nat_le, nat_lt, if◌then◌else◌, List, [], ◌∷◌, ◌++◌, Option, Some, None, refl, sym, ap, ◌∙◌, subst, arith}
use Rattle.std.specs.Int.RustNames.{unsigned_abs}
use Rattle.std.proofs.lemmas.Bool.{cases_lt}
use Rattle.std.proofs.lemmas.Int.{ints}
use Rattle.std.proofs.Math.IntN.{suc_ℤ-*ℤ, *ℤ-zero, *ℤ_comm}
use Rattle.aerie_base.specs.Ranges.{is_number, number_limit, is_rate}
use Rattle.aerie_base.specs.declared.models.model.Parts.{Parts}
use Rattle.aerie_base.specs.declared.plans.Plan.{Plan}
use Rattle.effect_cells.specs.declared.effects.CellState.{CellState}
use Rattle.effect_cells.specs.declared.effects.CellState.TheVariants.{Counter, Register, Volume}
use Rattle.effect_cells.specs.Cells.{initial, passed, first_out, first_out_from, AreInRange, committed_cells}
use Rattle.effect_cells.specs.States.{is_in_range, state_after}
use Rattle.run_data.specs.declared.jobs.Job.{Job}
use Rattle.run_data.specs.declared.runs.Instant.{Instant}
use Rattle.run_data.specs.declared.runs.Run.{Run}
use Rattle.run_data.specs.Batches.{Batch, limit, failed, committed, batch, judged as judged_batch, when_within, when_no_fault, unless_out, Blame, least_fault, tree_of, cost_of}
use Rattle.run_data.specs.Transitions.{Next, more, finished, begins, onward}
use Rattle.run_data.specs.Frames.{Made, Making, made_by_all}
use Rattle.run_data.specs.Fresh.{SimulationState, settled, instant_at, next_by, woken_or_moved, moved, to_time, to_end, after_outcome, least_due, below, IsReached}
use Rattle.run_data.specs.Tasks.{on_each, ready_jobs, woken, Table}
use Rattle.run_data.specs.Values.{with_states, cells_from}
use Rattle.run_data.specs.laws.FreshRuns.{CellsAreInRange, CellsOfValidAreInRange}
use Rattle.run_data.proofs.Replay.{cells_are_replayed}
use Rattle.run_data.proofs.Scoping.{both_hold, and_holds}
use Rattle.run_data.proofs.StartOfModel.{start_in_range}

-- ---- a number between two

times_more : (a : ℤ) (n : ℕ) → a *ℤ pos (suc n) ≡ a *ℤ pos n +ℤ a
times_more a n = *ℤ_comm a (pos (suc n)) ∙ suc_ℤ-*ℤ (pos n) a ∙ ap (λ (z : ℤ). z +ℤ a) (*ℤ_comm (pos n) a)

up : (k n e : ℕ) → (pos k *ℤ pos n) ≤ℤ (pos k *ℤ pos (n + e))
up k n zero =
    let same : n + 0 ≡ n = omega arith in
    subst (λ (m : ℕ). (pos k *ℤ pos n) ≤ℤ (pos k *ℤ pos m)) (sym same) (omega (arith, ints))
up k n (suc e) =
    let one : n + suc e ≡ suc (n + e) = omega arith in
    let step = times_more (pos k) (n + e) in
    let before = up k n e in
    subst (λ (m : ℕ). (pos k *ℤ pos n) ≤ℤ (pos k *ℤ pos m)) (sym one) (omega (arith, ints, step, before))

down : (k n e : ℕ) → (negsuc k *ℤ pos (n + e)) ≤ℤ (negsuc k *ℤ pos n)
down k n zero =
    let same : n + 0 ≡ n = omega arith in
    subst (λ (m : ℕ). (negsuc k *ℤ pos m) ≤ℤ (negsuc k *ℤ pos n)) (sym same) (omega (arith, ints))
down k n (suc e) =
    let one : n + suc e ≡ suc (n + e) = omega arith in
    let step = times_more (negsuc k) (n + e) in
    let before = down k n e in
    subst (λ (m : ℕ). (negsuc k *ℤ pos m) ≤ℤ (negsuc k *ℤ pos n)) (sym one) (omega (arith, ints, step, before))

between : (v r : ℤ) (n e most : ℕ) → unsigned_abs v ≤ most → unsigned_abs (v +ℤ r *ℤ pos (n + e)) ≤ most → unsigned_abs (v +ℤ r *ℤ pos n) ≤ most
between v (pos k) n e most h g =
    let none = *ℤ-zero (pos k) in
    let rises = up k 0 n in
    let none_first : 0 + n ≡ n = omega arith in
    let first : (pos k *ℤ pos 0) ≤ℤ (pos k *ℤ pos n) = subst (λ (m : ℕ). (pos k *ℤ pos 0) ≤ℤ (pos k *ℤ pos m)) none_first rises in
    let second = up k n e in
    omega (arith, ints, none, first, second)
between v (negsuc k) n e most h g =
    let none = *ℤ-zero (negsuc k) in
    let falls = down k 0 n in
    let none_first : 0 + n ≡ n = omega arith in
    let first : (negsuc k *ℤ pos n) ≤ℤ (negsuc k *ℤ pos 0) = subst (λ (m : ℕ). (negsuc k *ℤ pos m) ≤ℤ (negsuc k *ℤ pos 0)) none_first falls in
    let second = down k n e in
    omega (arith, ints, none, first, second)

at_most : (a b : ℕ) → nat_le a b ≡ true → a ≤ b
at_most a b h = grind arith

is_at_most : (a b : ℕ) → a ≤ b → nat_le a b ≡ true
is_at_most a b h = grind arith

number_between : (v r : ℤ) (n d : ℕ) → n ≤ d → is_number v ≡ true → is_number (v +ℤ r *ℤ pos d) ≡ true → is_number (v +ℤ r *ℤ pos n) ≡ true
number_between v r n d less h g =
    let whole : d ≡ n + (d - n) = omega arith in
    is_at_most (unsigned_abs (v +ℤ r *ℤ pos n)) number_limit
    (between v r n (d - n) number_limit (at_most (unsigned_abs v) number_limit h)
    (at_most (unsigned_abs (v +ℤ r *ℤ pos (n + (d - n)))) number_limit (subst (λ (m : ℕ). is_number (v +ℤ r *ℤ pos m) ≡ true) whole g)))

-- ---- cells between two times

state_between : (n d : ℕ) (state : CellState) → n ≤ d → is_in_range state ≡ true → is_in_range (state_after d state) ≡ true → is_in_range (state_after n state) ≡ true
state_between n d (Counter number) less h g = h
state_between n d (Register value conflicted) less h g = refl
state_between n d (Volume volume rate) less h g =
    let now = both_hold (is_number volume) (is_rate rate) h in
    let then_ = both_hold (is_number (volume +ℤ rate *ℤ pos d)) (is_rate rate) g in
    and_holds (is_number (volume +ℤ rate *ℤ pos n)) (is_rate rate) (number_between volume rate n d less now.0 then_.0) now.1

parts_in : (from : ℕ) (state : CellState) (rest : List CellState) → first_out_from from (state ∷ rest) ≡ None → (is_in_range state ≡ true) × (first_out_from (from + 1) rest ≡ None)
parts_in from state rest e = by (is_in_range state) refl e
  where
    by : (good : Bool) → is_in_range state ≡ good → (if good then first_out_from (from + 1) rest else Some from) ≡ None → (is_in_range state ≡ true) × (first_out_from (from + 1) rest ≡ None)
    by true e h = (e, h)
    by false e h = absurd (cc)

both_in : (from : ℕ) (state : CellState) (rest : List CellState) → is_in_range state ≡ true → first_out_from (from + 1) rest ≡ None → first_out_from from (state ∷ rest) ≡ None
both_in from state rest h g = ap (λ (good : Bool). if good then first_out_from (from + 1) rest else Some from) h ∙ g

cells_between : (from n d : ℕ) (cells : List CellState) → n ≤ d → first_out_from from cells ≡ None → first_out_from from (passed cells d) ≡ None → first_out_from from (passed cells n) ≡ None
cells_between from n d [] less h g = refl
cells_between from n d (state ∷ rest) less h g =
    let now = parts_in from state rest h in
    let then_ = parts_in from (state_after d state) (passed rest d) g in
    both_in from (state_after n state) (passed rest n) (state_between n d state less now.0 then_.0) (cells_between (from + 1) n d rest less now.1 then_.1)

-- an instant that is later changes nothing
without_last : (from : ℕ) (cells : List CellState) (instants : List Instant) (last : Instant) (t : ℕ) → t < last.time → cells_from from cells (instants ++ last ∷ []) t ≡ cells_from from cells instants t
without_last from cells [] last t less =
    ap (λ (reached : Bool). if reached then passed (with_states (passed cells (last.time - from)) last.changed) (t - last.time) else passed cells (t - from)) (not_yet last.time t less)
  where
    not_yet : (a b : ℕ) → b < a → nat_le a b ≡ false
    not_yet a b h = grind arith
without_last from cells (instant ∷ rest) last t less =
    ap (λ (l : List CellState). if nat_le instant.time t then l else passed cells (t - from))
    (without_last instant.time (with_states (passed cells (instant.time - from)) instant.changed) rest last t less)

-- ---- a batch that is committed leaves all in range

abbrev LeavesInRange : Batch → Type 0
LeavesInRange limit = Unit {0}
LeavesInRange (failed who fault) = Unit {0}
LeavesInRange (committed cells touched frames) = AreInRange cells

out_leaves : (made : Made) (cells after_cells : List CellState) (out : Option ℕ) → first_out after_cells ≡ out → LeavesInRange (unless_out out made cells after_cells)
out_leaves made cells after_cells None e = e
out_leaves made cells after_cells (Some cell) e = tt

fault_leaves : (made : Made) (cells : List CellState) (blame : Option Blame) → LeavesInRange (when_no_fault blame made cells)
fault_leaves made cells None = out_leaves made cells (committed_cells cells (tree_of made)) (first_out (committed_cells cells (tree_of made))) refl
fault_leaves made cells (Some (path, fault)) = tt

within_leaves : (made : Made) (cells : List CellState) (fit : Bool) → LeavesInRange (when_within fit made cells)
within_leaves made cells true = fault_leaves made cells (least_fault made.frames)
within_leaves made cells false = tt

making_leaves : (bound spent : ℕ) (cells : List CellState) (making : Making) → LeavesInRange (judged_batch bound spent cells making)
making_leaves bound spent cells None = tt
making_leaves bound spent cells (Some made) = within_leaves made cells (if nat_lt bound (spent + cost_of made.frames) then false else true)

-- ---- the run

module _ (model : Parts) (plan : Plan) (bound : ℕ) where
  -- below this time the cells that these instants give are in range
  abbrev InRangeBelow : List Instant → ℕ → Type 0
  InRangeBelow instants end = (t : ℕ) → t < end → AreInRange (cells_from 0 (initial model) instants t)

  abbrev IsIn : SimulationState → Type 0
  IsIn at = AreInRange at.cells × InRangeBelow at.instants at.time

  abbrev PointIn : Next SimulationState Run → Type 0
  PointIn (more at) = IsIn at
  PointIn (finished run) = InRangeBelow run.instants run.reach

  module _ (at : SimulationState) (stands : IsReached model plan bound (more at)) (is : IsIn at) where
    settled_before : InRangeBelow (settled model plan bound at) at.time
    settled_before t less = ap first_out (without_last 0 (initial model) at.instants (instant_at at) t less) ∙ is.1 t less

    settled_until : (time : ℕ) → first_out (passed at.cells (time - at.time)) ≡ None → InRangeBelow (settled model plan bound at) time
    settled_until time e t less = by (cases_lt t at.time)
      where
        by : (t < at.time) ⊎ (at.time ≤ t) → AreInRange (cells_from 0 (initial model) (settled model plan bound at) t)
        by (inl before) = settled_before t before
        by (inr past) =
            ap first_out (cells_are_replayed model plan bound at stands t past)
            ∙ cells_between 0 (t - at.time) (time - at.time) at.cells (omega arith) is.0 e

    outcome_in : (outcome : Batch) → LeavesInRange outcome → PointIn (after_outcome model plan bound at outcome)
    outcome_in limit leaves = is.1
    outcome_in (failed who fault) leaves = is.1
    outcome_in (committed cells touched frames) leaves = (leaves, is.1)

    time_in : (time : ℕ) (out : Option ℕ) → first_out (passed at.cells (time - at.time)) ≡ out → PointIn (to_time model plan bound at time (passed at.cells (time - at.time)) out)
    time_in time (Some cell) e = settled_before
    time_in time None e = (e, settled_until time e)

    end_in : (out : Option ℕ) → first_out (passed at.cells (plan.duration - at.time)) ≡ out → PointIn (to_end model plan bound at out)
    end_in (Some cell) e = settled_before
    end_in None e = settled_until plan.duration e

    moved_in : (time : Option ℕ) → PointIn (moved model plan bound at time)
    moved_in None = end_in (first_out (passed at.cells (plan.duration - at.time))) refl
    moved_in (Some time) = time_in time (first_out (passed at.cells (time - at.time))) refl

    judged_in : (table : Table) (jobs : List (ℕ × Job)) → PointIn (woken_or_moved model plan bound at table jobs)
    judged_in table [] = moved_in (below plan.duration (least_due at.time plan.duration at.cells at.table))
    judged_in table (job ∷ rest) = is

    next_in : (jobs : List (ℕ × Job)) → PointIn (next_by model plan bound at jobs)
    next_in [] = judged_in (on_each (woken at.cells) at.table) (ready_jobs at.cells (on_each (woken at.cells) at.table))
    next_in (job ∷ rest) = outcome_in (batch model bound at.spent at.cells (job ∷ rest)) (making_leaves bound at.spent at.cells (made_by_all model bound (job ∷ rest)))

  point_in : AreInRange (initial model) → (point : Next SimulationState Run) → IsReached model plan bound point → PointIn point
  point_in good (more at) begins = (good, λ t less. absurd (omega arith))
  point_in good point (onward {point = at} before) = next_in at before (point_in good (more at) before) (ready_jobs at.cells at.table)

pub cells_are_in_range : CellsAreInRange
cells_are_in_range model plan bound run good fresh = point_in model plan bound good (finished run) fresh

pub cells_of_valid : CellsOfValidAreInRange
cells_of_valid model plan bound run valid fresh = cells_are_in_range model plan bound run (start_in_range model valid) fresh
