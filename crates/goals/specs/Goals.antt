-- A goal on a run: its first gap, whether it is met, what is tried to fill the gap, and whether it is filled.
use Rattle.std.specs.Prelude.{ℕ, ℤ, pos, Bool, true, false, not, ◌&&◌, ◌||◌, List, [], ◌∷◌, Option, Some, None, option_map, is_none, int_lt, if◌then◌else◌}
use Rattle.std.specs.Ordering.{int_eq}
use Rattle.aerie_base.specs.declared.models.model.Parts.{Parts}
use Rattle.run_data.specs.declared.runs.Outcome.{Outcome}
use Rattle.run_data.specs.declared.runs.Outcome.TheVariants.{Completed, Failed, StepLimit}
use Rattle.run_data.specs.declared.runs.Run.{Run}
use Rattle.goals.specs.declared.gap.Gap.{Gap}
use Rattle.goals.specs.declared.types.Goal.{Goal}
use Rattle.goals.specs.declared.types.GoalAnchor.{GoalAnchor}
use Rattle.goals.specs.declared.types.GoalKind.{GoalKind}
use Rattle.goals.specs.declared.types.GoalKind.TheVariants.{Recurrence, Coexistence, Cardinality}
use Rattle.goals.specs.Matching.{starts_on}
use Rattle.goals.specs.Anchors.{goal_anchors}
use Rattle.goals.specs.Gaps.{recurrence_gap, coexistence_gap, cardinality_gap, count_within, has_start}
use Rattle.goals.specs.Candidates.{free_times, recurrence_times, coexistence_times, cardinality_times}

-- when the spans of a run start that match the goal's template
abbrev pub starts_for : Parts → Goal → Run → List ℕ
starts_for model goal run = starts_on model run goal.template

abbrev pub is_completed : Outcome → Bool
is_completed Completed = true
is_completed (Failed time who fault) = false
is_completed (StepLimit time) = false

-- ---- the first gap

abbrev pub gap_at : ℕ → Gap
gap_at at = record { at = pos at }

-- the least anchor that has none of the starts beside it
abbrev pub anchor_gap_of : Parts → Run → List ℕ → GoalAnchor → ℤ → ℤ → Option ℕ
anchor_gap_of model run starts anchor from to = coexistence_gap from to starts (goal_anchors model run anchor)

-- by the matching starts
abbrev pub gap_by_kind : Parts → Run → List ℕ → GoalKind → Option ℕ
gap_by_kind model run starts (Recurrence every from to) = recurrence_gap every from to starts
gap_by_kind model run starts (Coexistence anchor from to) = anchor_gap_of model run starts anchor from to
gap_by_kind model run starts (Cardinality count from to) = cardinality_gap count from to starts

-- the first gap of a goal on a completed run
abbrev pub gap_over : Parts → Goal → Run → Option Gap
gap_over model goal run = option_map gap_at (gap_by_kind model run (starts_for model goal run) goal.kind)

-- the first gap of a goal; a run that did not complete has none
abbrev pub first_gap : Parts → Goal → Run → Option Gap
first_gap model goal run = if is_completed run.outcome then gap_over model goal run else None

-- a goal is met exactly on a completed run on which it has no gap
abbrev pub is_goal_met : Parts → Goal → Run → Bool
is_goal_met model goal run = is_completed run.outcome && is_none (first_gap model goal run)

-- a goal is met, or the run did not complete
abbrev pub is_met_or_stopped : Parts → Goal → Run → Bool
is_met_or_stopped model goal run = is_goal_met model goal run || not (is_completed run.outcome)

-- ---- what is tried

abbrev pub times_by_kind : ℤ → GoalKind → List ℤ
times_by_kind gap (Recurrence every from to) = recurrence_times every gap
times_by_kind gap (Coexistence anchor from to) = coexistence_times from to gap
times_by_kind gap (Cardinality count from to) = cardinality_times from to

-- the times at which a goal's activity is tried for a gap that is its first one on a run
abbrev pub candidates_of : Parts → Goal → Run → Gap → List ℕ
candidates_of model goal run gap = free_times run.plan.duration (starts_for model goal run) (times_by_kind gap.at goal.kind)

-- ---- whether a gap is filled on another run

-- none, or one after this
abbrev pub is_behind : ℤ → Option ℕ → Bool
is_behind gap None = true
is_behind gap (Some next) = int_lt gap (pos next)

-- whether it is one of the anchors, and has no start beside it
abbrev pub is_left : ℤ → ℤ → List ℕ → List ℕ → ℤ → Bool
is_left from to starts [] gap = false
is_left from to starts (anchor ∷ rest) gap =
    if int_eq (pos anchor) gap then not (has_start from to starts anchor) else is_left from to starts rest gap

abbrev pub filled_by_kind : Parts → Run → List ℕ → ℤ → GoalKind → Bool
filled_by_kind model run starts gap (Recurrence every from to) = is_behind gap (recurrence_gap every from to starts)
filled_by_kind model run starts gap (Coexistence anchor from to) = not (is_left from to starts (goal_anchors model run anchor) gap)
filled_by_kind model run starts gap (Cardinality count from to) = int_lt gap (pos (count_within from to starts))

-- the same of a goal, on a completed run
abbrev pub filled_over : Parts → Goal → Gap → Run → Bool
filled_over model goal gap run = filled_by_kind model run (starts_for model goal run) gap.at goal.kind

-- whether the gap that a goal had is filled on a new run: the run completed, and of a recurrence the first gap is none or
-- a later one, of a coexistence the gap is no anchor without a start beside it, of a cardinality there are more starts
abbrev pub is_filled : Parts → Goal → Gap → Run → Bool
is_filled model goal gap run = is_completed run.outcome && filled_over model goal gap run
