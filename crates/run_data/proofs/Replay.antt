-- The instants of a run give the cells of its simulation.
use Rattle.std.proofs.Common.{◌≡◌, ℕ, ◌+◌, ◌-◌, ◌<◌, ◌≤◌, nat_eq, nat_le, nat_lt, Bool, true, false, ◌||◌, if◌then◌else◌, List, [], ◌∷◌, ◌++◌, length, Option, Some, None, is_some, slice_set, refl, sym, ap, ◌∙◌, append_assoc, subst, arith}
use Rattle.std.specs.List.{list_any}
use Rattle.std.proofs.lemmas.Bool.{false≢true, eq-eqb}
use Rattle.aerie_base.specs.declared.models.model.Parts.{Parts}
use Rattle.aerie_base.specs.declared.plans.Plan.{Plan}
use Rattle.effect_cells.specs.declared.effects.CellState.{CellState}
use Rattle.effect_cells.specs.declared.effects.Effect.{Effect}
use Rattle.effect_cells.specs.declared.trees.Tree.{Tree}
use Rattle.effect_cells.specs.Cells.{initial, passed, first_out, with_effects, committed_cells}
use Rattle.effect_cells.specs.States.{applied_if_any}
use Rattle.effect_cells.specs.Worth.{worth_of}
use Rattle.run_data.specs.declared.jobs.Job.{Job}
use Rattle.run_data.specs.declared.runs.Instant.{Instant}
use Rattle.run_data.specs.declared.runs.Run.{Run}
use Rattle.run_data.specs.Batches.{Batch, limit, failed, committed, batch, judged as judged_batch, when_within, when_no_fault, unless_out, touched_from, Blame, least_fault, tree_of, cost_of}
use Rattle.run_data.specs.Transitions.{Next, more, finished, begins, onward}
use Rattle.run_data.specs.Frames.{Made, Making, made_by_all}
use Rattle.run_data.specs.Fresh.{SimulationState, start, states_from, instant_at, settled, next_by, woken_or_moved, moved, to_time, to_end, after_outcome, least_due, below, IsReached}
use Rattle.run_data.specs.Tasks.{on_each, ready_jobs, woken}
use Rattle.run_data.specs.Values.{with_states, cells_from}
use Rattle.run_data.specs.laws.Replay.{CellsAreReplayed}
use Rattle.run_data.specs.laws.Rising.{AreBefore}
use Rattle.run_data.proofs.DueTimes.{StillWaits, IsAfter, least_is_after, none_ready, passed_none}
use Rattle.run_data.proofs.Rising.{StandsWell, stands_well, below_is}
use Rattle.run_data.specs.TaskLaws.{Each}

-- ---- cells that differ only where an effect was

abbrev pub is_in : ℕ → List ℕ → Bool
is_in cell touched = list_any (nat_eq cell) touched

-- as many cells, and those that are not touched are the same; the first is cell `from`
abbrev pub SameElsewhere : ℕ → List ℕ → List CellState → List CellState → Type 0
SameElsewhere from touched [] [] = Unit {0}
SameElsewhere from touched [] (state ∷ states) = ⊥
SameElsewhere from touched (state ∷ rest) [] = ⊥
SameElsewhere from touched (state ∷ rest) (now ∷ states) = (is_in from touched ≡ false → now ≡ state) × SameElsewhere (from + 1) touched rest states

all_same : (from : ℕ) (touched : List ℕ) (cells : List CellState) → SameElsewhere from touched cells cells
all_same from touched [] = tt
all_same from touched (state ∷ rest) = (λ out. refl, all_same (from + 1) touched rest)

set_at : (before rest : List CellState) (state now : CellState) → slice_set (before ++ state ∷ rest) (length before) now ≡ (before ++ now ∷ []) ++ rest
set_at [] rest state now = refl
set_at (first ∷ before) rest state now = ap (λ l. first ∷ l) (set_at before rest state now)

length_more : (before : List CellState) (now : CellState) → length (before ++ now ∷ []) ≡ length before + 1
length_more [] now = refl
length_more (first ∷ before) now = omega (arith, length_more before now)

replays : (touched : List ℕ) (before cells states : List CellState) (from : ℕ) → from ≡ length before → SameElsewhere from touched cells states →
    with_states (before ++ cells) (states_from from touched states) ≡ before ++ states
replays touched before [] [] from e same = refl
replays touched before [] (now ∷ states) from e same = absurd same
replays touched before (state ∷ rest) [] from e same = absurd same
replays touched before (state ∷ rest) (now ∷ states) from e same =
    by (is_in from touched) refl (replays touched (before ++ now ∷ []) rest states (from + 1) (omega (arith, length_more before now)) same.1)
  where
    by : (touches : Bool) → is_in from touched ≡ touches →
        with_states ((before ++ now ∷ []) ++ rest) (states_from (from + 1) touched states) ≡ (before ++ now ∷ []) ++ states →
        with_states (before ++ state ∷ rest) (if touches then (from, now) ∷ states_from (from + 1) touched states else states_from (from + 1) touched states) ≡ before ++ now ∷ states
    by true t further =
        ap (λ l. with_states l (states_from (from + 1) touched states)) (ap (λ n. slice_set (before ++ state ∷ rest) n now) e ∙ set_at before rest state now)
        ∙ further ∙ append_assoc before (now ∷ []) states
    by false t further =
        ap (λ l. with_states l (states_from (from + 1) touched states)) (ap (λ s. before ++ s ∷ rest) (sym (same.0 t)) ∙ sym (append_assoc before (now ∷ []) rest))
        ∙ further ∙ append_assoc before (now ∷ []) states

-- ---- a batch changes what it touches

in_neither : (cell : ℕ) (first second : List ℕ) → is_in cell (first ++ second) ≡ false → (is_in cell first ≡ false) × (is_in cell second ≡ false)
in_neither cell [] second h = (refl, h)
in_neither cell (number ∷ first) second h = by (nat_eq cell number) h (in_neither cell first second)
  where
    by : (here : Bool) → (here || is_in cell (first ++ second)) ≡ false → (is_in cell (first ++ second) ≡ false → (is_in cell first ≡ false) × (is_in cell second ≡ false)) →
        ((here || is_in cell first) ≡ false) × (is_in cell second ≡ false)
    by true h further = absurd (false≢true (sym h))
    by false h further = further h

or_true : (here : Bool) → (here || true) ≡ true
or_true true = refl
or_true false = refl

touches : (from : ℕ) (tree : Tree) (cells : List CellState) (cell : ℕ) → from ≤ cell → cell < from + length cells → is_some (worth_of tree cell) ≡ true → is_in cell (touched_from from tree cells) ≡ true
touches from tree [] cell above under h = absurd (omega arith)
touches from tree (state ∷ rest) cell above under h = by (nat_eq cell from) refl (λ later. touches (from + 1) tree rest cell later (omega arith) h)
  where
    here_true : cell ≡ from → is_some (worth_of tree from) ≡ true
    here_true e = ap (λ c. is_some (worth_of tree c)) (sym e) ∙ h

    elsewhere : (there : Bool) → is_in cell (touched_from (from + 1) tree rest) ≡ true →
        is_in cell (if there then from ∷ touched_from (from + 1) tree rest else touched_from (from + 1) tree rest) ≡ true
    elsewhere true k = ap (λ b. nat_eq cell from || b) k ∙ or_true (nat_eq cell from)
    elsewhere false k = k

    by : (here : Bool) → nat_eq cell from ≡ here → (from + 1 ≤ cell → is_in cell (touched_from (from + 1) tree rest) ≡ true) → is_in cell (touched_from from tree (state ∷ rest)) ≡ true
    by true e further =
        let is : cell ≡ from = grind arith in
        ap (λ there. is_in cell (if there then from ∷ touched_from (from + 1) tree rest else touched_from (from + 1) tree rest)) (here_true is)
        ∙ ap (λ b. b || is_in cell (touched_from (from + 1) tree rest)) e
    by false e further =
        let other : cell ≡ from → ⊥ = (λ same. false≢true (sym e ∙ eq-eqb cell from same)) in
        elsewhere (is_some (worth_of tree from)) (further (omega (arith, other)))

not_there : (tree : Tree) (cells : List CellState) (cell : ℕ) → cell < length cells → is_in cell (touched_from 0 tree cells) ≡ false → worth_of tree cell ≡ None
not_there tree cells cell less out = by (worth_of tree cell) refl
  where
    by : (worth : Option Effect) → worth_of tree cell ≡ worth → worth ≡ None
    by None e = refl
    by (Some effect) e = absurd (false≢true (sym out ∙ touches 0 tree cells cell (omega arith) (omega arith) (ap is_some e)))

changes_elsewhere : (from : ℕ) (touched further : List ℕ) (on : ℕ → Option Effect) (cells states : List CellState) →
    ((cell : ℕ) → cell < from + length states → is_in cell further ≡ false → on cell ≡ None) → SameElsewhere from touched cells states →
    SameElsewhere from (touched ++ further) cells (with_effects from on states)
changes_elsewhere from touched further on [] [] none same = tt
changes_elsewhere from touched further on [] (now ∷ states) none same = absurd same
changes_elsewhere from touched further on (state ∷ rest) [] none same = absurd same
changes_elsewhere from touched further on (state ∷ rest) (now ∷ states) none same = (
  λ out. (let neither = in_neither from touched further out in ap (applied_if_any now) (none from (omega arith) neither.1) ∙ same.0 neither.0),
  changes_elsewhere (from + 1) touched further on rest states (λ cell less. none cell (omega arith)) same.1,
)

-- ---- the cells by the instants

not_after : (a b : ℕ) → a ≤ b → nat_le a b ≡ true
not_after a b h = grind arith

with_last : (from : ℕ) (cells : List CellState) (instants : List Instant) (last : Instant) (t : ℕ) → AreBefore last.time instants → last.time ≤ t →
    cells_from from cells (instants ++ last ∷ []) t ≡ passed (with_states (cells_from from cells instants last.time) last.changed) (t - last.time)
with_last from cells [] last t before less =
    ap (λ reached. if reached then passed (with_states (passed cells (last.time - from)) last.changed) (t - last.time) else passed cells (t - from)) (not_after last.time t less)
with_last from cells (instant ∷ rest) last t before less =
    ap (λ reached. if reached then cells_from instant.time (with_states (passed cells (instant.time - from)) instant.changed) (rest ++ last ∷ []) t else passed cells (t - from))
    (not_after instant.time t (omega (arith, before.0)))
    ∙ with_last instant.time (with_states (passed cells (instant.time - from)) instant.changed) rest last t before.1 less
    ∙ sym (ap (λ reached. passed (with_states (if reached then cells_from instant.time (with_states (passed cells (instant.time - from)) instant.changed) rest last.time else passed cells (last.time - from)) last.changed) (t - last.time))
    (not_after instant.time last.time (omega (arith, before.0))))

module _ (model : Parts) (plan : Plan) (bound : ℕ) where
  -- the cells with which this time began
  abbrev pub cells_before : SimulationState → List CellState
  cells_before at = cells_from 0 (initial model) at.instants at.time

  abbrev pub Follows : SimulationState → Type 0
  Follows at = SameElsewhere 0 at.touched (cells_before at) at.cells

  abbrev pub PointFollows : Next SimulationState Run → Type 0
  PointFollows (more at) = Follows at
  PointFollows (finished run) = Unit {0}

  pub replayed : (at : SimulationState) → StandsWell plan at → Follows at → (t : ℕ) → at.time ≤ t → cells_from 0 (initial model) (settled model plan bound at) t ≡ passed at.cells (t - at.time)
  replayed at well follows t less =
      with_last 0 (initial model) at.instants (instant_at at) t well.before less
      ∙ ap (λ cells. passed cells (t - at.time)) (replays at.touched [] (cells_before at) at.cells 0 refl follows)

  -- what is committed comes of one tree
  abbrev pub OfTree : List CellState → Batch → Type 0
  OfTree cells limit = Unit {0}
  OfTree cells (failed who fault) = Unit {0}
  OfTree cells (committed after_ touched frames) = (tree : Tree) × (committed_cells cells tree ≡ after_) × (touched_from 0 tree cells ≡ touched)

  out_of_tree : (cells : List CellState) (made : Made) (out : Option ℕ) → OfTree cells (unless_out out made cells (committed_cells cells (tree_of made)))
  out_of_tree cells made None = (tree_of made, refl, refl)
  out_of_tree cells made (Some cell) = tt

  fault_of_tree : (cells : List CellState) (made : Made) (blame : Option Blame) → OfTree cells (when_no_fault blame made cells)
  fault_of_tree cells made None = out_of_tree cells made (first_out (committed_cells cells (tree_of made)))
  fault_of_tree cells made (Some (path, fault)) = tt

  within_of_tree : (cells : List CellState) (made : Made) (fit : Bool) → OfTree cells (when_within fit made cells)
  within_of_tree cells made true = fault_of_tree cells made (least_fault made.frames)
  within_of_tree cells made false = tt

  pub making_of_tree : (spent : ℕ) (cells : List CellState) (making : Making) → OfTree cells (judged_batch bound spent cells making)
  making_of_tree spent cells None = tt
  making_of_tree spent cells (Some made) = within_of_tree cells made (if nat_lt bound (spent + cost_of made.frames) then false else true)

  outcome_follows : (at : SimulationState) (outcome : Batch) → OfTree at.cells outcome → Follows at → PointFollows (after_outcome model plan bound at outcome)
  outcome_follows at limit of_tree follows = tt
  outcome_follows at (failed who fault) of_tree follows = tt
  outcome_follows at (committed cells touched frames) of_tree follows =
      subst (λ states. SameElsewhere 0 (at.touched ++ touched) (cells_before at) states) of_tree.1
      (subst (λ further. SameElsewhere 0 (at.touched ++ further) (cells_before at) (committed_cells at.cells of_tree.0)) of_tree.2
      (changes_elsewhere 0 at.touched (touched_from 0 of_tree.0 at.cells) (worth_of of_tree.0) (cells_before at) at.cells
      (λ cell less. not_there of_tree.0 at.cells cell (omega arith)) follows))

  time_follows : (at : SimulationState) (time : ℕ) (out : Option ℕ) → StandsWell plan at → Follows at → at.time < time → PointFollows (to_time model plan bound at time (passed at.cells (time - at.time)) out)
  time_follows at time (Some cell) well follows later = tt
  time_follows at time None well follows later =
      subst (λ cells. SameElsewhere 0 [] cells (passed at.cells (time - at.time))) (sym (replayed at well follows time (omega arith))) (all_same 0 [] (passed at.cells (time - at.time)))

  end_follows : (at : SimulationState) (out : Option ℕ) → PointFollows (to_end model plan bound at out)
  end_follows at (Some cell) = tt
  end_follows at None = tt

  moved_follows : (at : SimulationState) (next_time : Option ℕ) → StandsWell plan at → Follows at → below plan.duration (least_due at.time plan.duration at.cells at.table) ≡ next_time →
      Each (StillWaits at.cells) at.table → PointFollows (moved model plan bound at next_time)
  moved_follows at None well follows e waits = end_follows at (first_out (passed at.cells (plan.duration - at.time)))
  moved_follows at (Some time) well follows e waits =
      let is = below_is model plan bound plan.duration time (least_due at.time plan.duration at.cells at.table) e in
      let later : at.time < time = subst (IsAfter at.time) is.0 (least_is_after at.time plan.duration at.cells at.table well.delays waits) in
      time_follows at time (first_out (passed at.cells (time - at.time))) well follows later

  judged_follows : (at : SimulationState) (jobs : List (ℕ × Job)) → ready_jobs at.cells (on_each (woken at.cells) at.table) ≡ jobs → StandsWell plan at → Follows at →
      PointFollows (woken_or_moved model plan bound at (on_each (woken at.cells) at.table) jobs)
  judged_follows at [] e well follows =
      moved_follows at (below plan.duration (least_due at.time plan.duration at.cells at.table)) well follows refl (none_ready at.cells at.table e)
  judged_follows at (job ∷ rest) e well follows = follows

  next_follows : (at : SimulationState) (jobs : List (ℕ × Job)) → StandsWell plan at → Follows at → PointFollows (next_by model plan bound at jobs)
  next_follows at [] well follows = judged_follows at (ready_jobs at.cells (on_each (woken at.cells) at.table)) refl well follows
  next_follows at (job ∷ rest) well follows =
      outcome_follows at (batch model bound at.spent at.cells (job ∷ rest)) (making_of_tree at.spent at.cells (made_by_all model bound (job ∷ rest))) follows

  start_follows : Follows (start model plan)
  start_follows = subst (λ cells. SameElsewhere 0 [] cells (initial model)) (sym (passed_none (initial model))) (all_same 0 [] (initial model))

  pub point_follows : (point : Next SimulationState Run) → IsReached model plan bound point → PointFollows point
  point_follows (more at) begins = start_follows
  point_follows point (onward {point = at} before) =
      next_follows at (ready_jobs at.cells at.table) (stands_well model plan bound (more at) before) (point_follows (more at) before)

pub cells_are_replayed : CellsAreReplayed
cells_are_replayed model plan bound at stands = replayed model plan bound at (stands_well model plan bound (more at) stands) (point_follows model plan bound (more at) stands)
