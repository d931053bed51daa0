-- Along a simulation: a directive without an anchor waits for its start, is ready there, and has begun there.
use Rattle.std.proofs.Common.{◌≡◌, ◌⊎◌, inl, inr, ℕ, ◌<◌, ◌-◌, take, slice_get, nat_eq, nat_lt, Bool, true, false, ◌&&◌, List, [], ◌∷◌, ◌++◌, Option, Some, None, IsTrue, refl, sym, ap, ◌∙◌, subst, arith, if◌then◌else◌, append_assoc, append-nil}
use Rattle.std.proofs.lemmas.Bool.{false≢true, ltb-true, eqb-true}
use Rattle.std.specs.List.{list_all}
use Rattle.aerie_base.specs.Paths.{root}
use Rattle.aerie_base.specs.declared.models.model.Parts.{Parts}
use Rattle.aerie_base.specs.declared.plans.Directive.{Directive}
use Rattle.aerie_base.specs.declared.plans.Plan.{Plan}
use Rattle.aerie_base.specs.models.ValidModel.{valid_model}
use Rattle.aerie_base.specs.plans.OfModel.{IsPlanOf, is_directive_of, takes, is_there, anchored_to}
use Rattle.effect_cells.specs.declared.effects.CellState.{CellState}
use Rattle.effect_cells.specs.Cells.{passed, first_out}
use Rattle.run_data.specs.TaskFrames.{Frame}
use Rattle.run_data.specs.declared.jobs.Job.{Job}
use Rattle.run_data.specs.declared.tasks.BodyId.TheVariants as body
use Rattle.run_data.specs.declared.tasks.TaskState.{TaskState}
use Rattle.run_data.specs.declared.runs.Instant.{Instant}
use Rattle.run_data.specs.declared.runs.Outcome.TheVariants.{Completed}
use Rattle.run_data.specs.declared.runs.Run.{Run}
use Rattle.run_data.specs.Batches.{Batch, limit, failed, committed, batch}
use Rattle.run_data.specs.Endings.{gone_on}
use Rattle.run_data.specs.Fresh.{SimulationState, start, instant_at, settled, after_outcome, to_time, to_end, moved, below, least_due, woken_or_moved, next_by, IsReached, IsFresh}
use Rattle.run_data.specs.Spans.{Timed, with_time, in_batches, timed, is_of_path, task_ended, span_if, SpanOf, spans_of, same_path, parameters_of}
use Rattle.run_data.specs.TaskStates.{activity_begun}
use Rattle.run_data.specs.Tasks.{TaskPhase, ready, delayed, Task, Table, task_at, on_each, with_daemons, with_directives, after_frames, ready_jobs, woken, rested, rested_phase}
use Rattle.run_data.specs.Transitions.{Next, more, finished, begins, onward}
use Rattle.run_data.specs.laws.BatchFrames.{AnyFrame, HasPath, OfReady, OfChild, AreFramesOf, BatchFrames}
use Rattle.run_data.specs.laws.Orders.{EachOf}
use Rattle.run_data.specs.laws.OrderedTables.{PutIsThere}
use Rattle.span_table.specs.PlannedSpans.{IsOneOf, IsSpanOf, PlannedHaveSpans}
use Rattle.span_table.specs.SpanLaws.{first_frame}
use Rattle.span_table.proofs.Planned.MadeFrames.{has_frame}
use Rattle.span_table.proofs.Planned.Paths.{same_itself, same_is}
use Rattle.span_table.proofs.Planned.PlannedTasks.{HasPhase, phase_changed, ready_has_job, least_is_upto, after_no_frame, planned_put}
use Rattle.span_table.proofs.Planned.SpansOfFrames.{begun_has_span, span_has, arguments_taken}

-- ---- frames with their times, put together

with_time_on : (time : ℕ) (frames : List Frame) (rest : List Timed) → with_time time frames rest ≡ with_time time frames [] ++ rest
with_time_on time [] rest = refl
with_time_on time (frame ∷ frames) rest = ap (λ all. (time, frame) ∷ all) (with_time_on time frames rest)

in_batches_on : (time : ℕ) (batches : List (List Frame)) (rest : List Timed) → in_batches time batches rest ≡ in_batches time batches [] ++ rest
in_batches_on time [] rest = refl
in_batches_on time (frames ∷ batches) rest =
    with_time_on time frames (in_batches time batches rest)
    ∙ ap (λ all. with_time time frames [] ++ all) (in_batches_on time batches rest)
    ∙ sym (append_assoc (with_time time frames []) (in_batches time batches []) rest)
    ∙ ap (λ all. all ++ rest) (sym (with_time_on time frames (in_batches time batches [])))

batch_behind : (time : ℕ) (batches : List (List Frame)) (frames : List Frame) → in_batches time (batches ++ frames ∷ []) [] ≡ in_batches time batches [] ++ with_time time frames []
batch_behind time [] frames = refl
batch_behind time (first ∷ batches) frames =
    with_time_on time first (in_batches time (batches ++ frames ∷ []) [])
    ∙ ap (λ all. with_time time first [] ++ all) (batch_behind time batches frames)
    ∙ sym (append_assoc (with_time time first []) (in_batches time batches []) (with_time time frames []))
    ∙ ap (λ all. all ++ with_time time frames []) (sym (with_time_on time first (in_batches time batches [])))

instant_behind : (instants : List Instant) (last : Instant) → timed (instants ++ last ∷ []) ≡ timed instants ++ in_batches last.time last.batches []
instant_behind [] last = refl
instant_behind (instant ∷ rest) last =
    in_batches_on instant.time instant.batches (timed (rest ++ last ∷ []))
    ∙ ap (λ all. in_batches instant.time instant.batches [] ++ all) (instant_behind rest last)
    ∙ sym (append_assoc (in_batches instant.time instant.batches []) (timed rest) (in_batches last.time last.batches []))
    ∙ ap (λ all. all ++ in_batches last.time last.batches []) (sym (in_batches_on instant.time instant.batches (timed rest)))

-- the frames so far
abbrev so_far : SimulationState → List Timed
so_far at = timed at.instants ++ in_batches at.time at.batches []

-- ---- the first frame of a path

module _ (path : List ℕ) where
  first_stays : (frames others : List Timed) (entry : Timed) → first_frame frames path ≡ Some entry → first_frame (frames ++ others) path ≡ Some entry
  first_stays [] others entry e = absurd (cc)
  first_stays (one ∷ rest) others entry e = by (is_of_path path one) e (first_stays rest others entry)
    where
      by : (of : Bool) → (if of then Some one else first_frame rest path) ≡ Some entry → (first_frame rest path ≡ Some entry → first_frame (rest ++ others) path ≡ Some entry) →
          (if of then Some one else first_frame (rest ++ others) path) ≡ Some entry
      by true e further = e
      by false e further = further e

  first_later : (frames others : List Timed) → first_frame frames path ≡ None → first_frame (frames ++ others) path ≡ first_frame others path
  first_later [] others e = refl
  first_later (one ∷ rest) others e = by (is_of_path path one) e (first_later rest others)
    where
      by : (of : Bool) → (if of then Some one else first_frame rest path) ≡ None → (first_frame rest path ≡ None → first_frame (rest ++ others) path ≡ first_frame others path) →
          (if of then Some one else first_frame (rest ++ others) path) ≡ first_frame others path
      by true e further = absurd (cc)
      by false e further = further e

  no_first : (time : ℕ) (frames : List Frame) → (HasPath path frames → ⊥) → first_frame (with_time time frames []) path ≡ None
  no_first time [] none = refl
  no_first time (frame ∷ rest) none = by (same_path path frame.path) refl (no_first time rest (λ has. none (inr has)))
    where
      by : (of : Bool) → same_path path frame.path ≡ of → first_frame (with_time time rest []) path ≡ None →
          (if of then Some (time, frame) else first_frame (with_time time rest []) path) ≡ None
      by true of further = absurd (none (inl (sym (same_is path frame.path of))))
      by false of further = further

  -- where each frame of the path begins in a state, so does the first
  one_first : (time : ℕ) (state : TaskState) (frames : List Frame) → EachOf (λ frame. frame.path ≡ path → frame.before ≡ state) frames → HasPath path frames →
      (frame : Frame) × (first_frame (with_time time frames []) path ≡ Some (time, frame)) × (frame.path ≡ path) × (frame.before ≡ state)
  one_first time state [] each has = absurd has
  one_first time state (frame ∷ rest) each has = by (same_path path frame.path) refl has (one_first time state rest each.1)
    where
      differs : same_path path frame.path ≡ false → frame.path ≡ path → ⊥
      differs of e = false≢true (sym of ∙ ap (same_path path) e ∙ same_itself path)

      by : (of : Bool) → same_path path frame.path ≡ of → HasPath path (frame ∷ rest) →
          (HasPath path rest → (one : Frame) × (first_frame (with_time time rest []) path ≡ Some (time, one)) × (one.path ≡ path) × (one.before ≡ state)) →
          (one : Frame) × ((if of then Some (time, frame) else first_frame (with_time time rest []) path) ≡ Some (time, one)) × (one.path ≡ path) × (one.before ≡ state)
      by true of has further = let same = sym (same_is path frame.path of) in (frame, refl, same, each.0 same)
      by false of (inl e) further = absurd (differs of e)
      by false of (inr has) further = further has

-- ---- frames of the directive's task

-- what is of each of some frames is of each in a path
each_weaker : (P Q : Frame → Type 0) → ((frame : Frame) → P frame → Q frame) → (frames : List Frame) → EachOf P frames → EachOf Q frames
each_weaker P Q gives [] each = tt
each_weaker P Q gives (frame ∷ rest) each = (gives frame each.0, each_weaker P Q gives rest each.1)

each_none : (P : Frame → Type 0) (frames : List Frame) → EachOf (λ frame. P frame → ⊥) frames → AnyFrame P frames → ⊥
each_none P [] each has = has
each_none P (frame ∷ rest) each (inl h) = each.0 h
each_none P (frame ∷ rest) each (inr has) = each_none P rest each.1 has

module _ (model : Parts) (plan : Plan) (bound : ℕ) (path : List ℕ) (at_time : ℕ) (state : TaskState) where
  abbrev Begun : List Timed → Type 0
  Begun frames = (frame : Frame) × (first_frame frames path ≡ Some (at_time, frame)) × (frame.path ≡ path) × (frame.before ≡ state)

  -- a frame of a task that is there is of a ready task
  of_ready : (table : Table) (frames : List Frame) (phase : TaskPhase) → HasPhase table path phase → (frame : Frame) → OfReady table frame ⊎ OfChild table frames frame → frame.path ≡ path →
      phase ≡ ready frame.before
  of_ready table frames phase has frame (inl one) same =
      let task : one.task ≡ has.task = some_same one.task has.task (sym one.there ∙ ap (task_at table) same ∙ has.there) in
      sym has.is ∙ ap (λ (t : Task). t.phase) (sym task) ∙ one.phase
    where
      some_same : (a b : Task) → ◌≡◌ {A = Option Task} (Some a) (Some b) → a ≡ b
      some_same a b e = cc
  of_ready table frames phase has frame (inr child) same = absurd (none_some has.task (sym child.fresh ∙ ap (task_at table) same ∙ has.there))
    where
      none_some : (a : Task) → ◌≡◌ {A = Option Task} None (Some a) → ⊥
      none_some a e = absurd (cc)

  -- where a simulation stands: the directive waits for its start, or is ready there, or has begun there
  data Stage (at : SimulationState) : Type 0 where
    waits : first_frame (so_far at) path ≡ None → HasPhase at.table path (delayed at_time state) → Stage at
    due : at.time ≡ at_time → first_frame (so_far at) path ≡ None → HasPhase at.table path (ready state) → Stage at
    begun : Begun (so_far at) → Stage at

  abbrev GoesWell : Next SimulationState Run → Type 0
  GoesWell (more at) = Stage at
  GoesWell (finished run) = run.outcome ≡ Completed → Begun (timed run.instants)

  module _ (put : PutIsThere) (batch_frames : BatchFrames) (valid : IsTrue (valid_model model)) (of : IsPlanOf model plan) (within : at_time < plan.duration) where
    begun_on : (frames others : List Timed) → Begun frames → Begun (frames ++ others)
    begun_on frames others is = (is.0, first_stays path frames others (at_time, is.0) is.1, is.2, is.3)

    -- ---- a batch

    delayed_stays : (whole : Table) (now : ℕ) (where_ : List ℕ) (task : Task) → task.phase ≡ delayed at_time state → (gone_on whole now where_ task).phase ≡ delayed at_time state
    delayed_stays whole now where_ task e = ap (λ (p : TaskPhase). due_of p) e
      where
        due_of : TaskPhase → TaskPhase
        due_of phase = (gone_on whole now where_ (record task { phase = phase })).phase

    committed_stage : (at : SimulationState) (cells : List CellState) (touched : List ℕ) (frames : List Frame) → IsReached model plan bound (more at) →
        batch model bound at.spent at.cells (ready_jobs at.cells at.table) ≡ committed cells touched frames → Stage at → GoesWell (after_outcome model plan bound at (committed cells touched frames))
    committed_stage at cells touched frames reached e stage = by stage
      where
        from : AreFramesOf at.table frames
        from = batch_frames model plan bound at cells touched frames valid of reached e

        more_frames : timed at.instants ++ in_batches at.time (at.batches ++ frames ∷ []) [] ≡ so_far at ++ with_time at.time frames []
        more_frames =
            ap (λ all. timed at.instants ++ all) (batch_behind at.time at.batches frames)
            ∙ sym (append_assoc (timed at.instants) (in_batches at.time at.batches []) (with_time at.time frames []))

        no_frame : HasPhase at.table path (delayed at_time state) → HasPath path frames → ⊥
        no_frame has =
            each_none (λ frame. frame.path ≡ path) frames
            (each_weaker _ (λ frame. frame.path ≡ path → ⊥) (λ frame origin same. not_ready frame.before (of_ready at.table frames (delayed at_time state) has frame origin same)) frames from.origin)
          where
            not_ready : (other : TaskState) → ◌≡◌ {A = TaskPhase} (delayed at_time state) (ready other) → ⊥
            not_ready other e = absurd (cc)

        begins_now : at.time ≡ at_time → HasPhase at.table path (ready state) →
            (frame : Frame) × (first_frame (with_time at.time frames []) path ≡ Some (at.time, frame)) × (frame.path ≡ path) × (frame.before ≡ state)
        begins_now time has =
            let job = ready_has_job at.cells path state at.table has in
            one_first path at.time state frames
            (each_weaker _ (λ frame. frame.path ≡ path → frame.before ≡ state) (λ frame origin same. ready_same frame.before (of_ready at.table frames (ready state) has frame origin same)) frames from.origin)
            (subst (λ (p : List ℕ). HasPath p frames) job.2 (has_frame bound at.spent at.cells cells touched frames model (ready_jobs at.cells at.table) job.0 e job.1))
          where
            ready_same : (other : TaskState) → ◌≡◌ {A = TaskPhase} (ready state) (ready other) → other ≡ state
            ready_same other e = cc

        by : Stage at → GoesWell (after_outcome model plan bound at (committed cells touched frames))
        by (waits none has) =
            let no = no_frame has in
            waits
            (ap (λ (all : List Timed). first_frame all path) more_frames ∙ first_later path (so_far at) (with_time at.time frames []) none ∙ no_first path at.time frames no)
            (phase_changed (gone_on (after_frames at.time frames at.table) at.time) path (after_frames at.time frames at.table) (delayed at_time state) (delayed at_time state)
            (delayed_stays (after_frames at.time frames at.table) at.time)
            (record { task = has.task; there = after_no_frame put at.time path frames at.table no ∙ has.there; is = has.is }))
        by (due time none has) =
            let now = begins_now time has in
            begun (
              now.0,
              ap (λ (all : List Timed). first_frame all path) more_frames ∙ first_later path (so_far at) (with_time at.time frames []) none ∙ now.1 ∙ ap (λ (t : ℕ). Some (t, now.0)) time,
              now.2,
              now.3,
            )
        by (begun is) = begun (subst Begun (sym more_frames) (begun_on (so_far at) (with_time at.time frames []) is))

    outcome_stage : (at : SimulationState) (outcome : Batch) → IsReached model plan bound (more at) →
        batch model bound at.spent at.cells (ready_jobs at.cells at.table) ≡ outcome → Stage at → GoesWell (after_outcome model plan bound at outcome)
    outcome_stage at limit reached e stage = λ completed. absurd (cc)
    outcome_stage at (failed who fault) reached e stage = λ completed. absurd (cc)
    outcome_stage at (committed cells touched frames) reached e stage = committed_stage at cells touched frames reached e stage

    -- ---- a later time

    settled_frames : (at : SimulationState) → timed (settled model plan bound at) ≡ so_far at
    settled_frames at = instant_behind at.instants (instant_at at)

    rested_stays : (now : ℕ) (where_ : List ℕ) (task : Task) → nat_eq at_time now ≡ false → task.phase ≡ delayed at_time state → (rested now where_ task).phase ≡ delayed at_time state
    rested_stays now where_ task differs e = ap (rested_phase now) e ∙ ap (λ (b : Bool). if b then ready state else delayed at_time state) differs

    rested_begins : (now : ℕ) (where_ : List ℕ) (task : Task) → nat_eq at_time now ≡ true → task.phase ≡ delayed at_time state → (rested now where_ task).phase ≡ ready state
    rested_begins now where_ task same e = ap (rested_phase now) e ∙ ap (λ (b : Bool). if b then ready state else delayed at_time state) same

    time_stage : (at : SimulationState) (time : ℕ) (cells : List CellState) (out : Option ℕ) → Stage at → (HasPhase at.table path (ready state) → ⊥) →
        GoesWell (to_time model plan bound at time cells out)
    time_stage at time cells (Some cell) stage none_ready = λ completed. absurd (cc)
    time_stage at time cells None stage none_ready = by stage
      where
        frames_same : timed (settled model plan bound at) ++ [] ≡ so_far at
        frames_same = append-nil (timed (settled model plan bound at)) ∙ settled_frames at

        rests : (same : Bool) → nat_eq at_time time ≡ same → first_frame (so_far at) path ≡ None → HasPhase at.table path (delayed at_time state) →
            GoesWell (to_time model plan bound at time cells None)
        rests true same none has =
            due (sym (eqb-true at_time time same)) (ap (λ (all : List Timed). first_frame all path) frames_same ∙ none)
            (phase_changed (rested time) path at.table (delayed at_time state) (ready state) (λ where_ task. rested_begins time where_ task same) has)
        rests false same none has =
            waits (ap (λ (all : List Timed). first_frame all path) frames_same ∙ none)
            (phase_changed (rested time) path at.table (delayed at_time state) (delayed at_time state) (λ where_ task. rested_stays time where_ task same) has)

        by : Stage at → GoesWell (to_time model plan bound at time cells None)
        by (waits none has) = rests (nat_eq at_time time) refl none has
        by (due now none has) = absurd (none_ready has)
        by (begun is) = begun (subst Begun (sym frames_same) is)

    -- ---- the end

    below_some : (horizon time : ℕ) → time < horizon → below horizon (Some time) ≡ Some time
    below_some horizon time less = ap (λ (b : Bool). if b then Some time else None) (true_lt time horizon less)
      where
        true_lt : (a b : ℕ) → a < b → nat_lt a b ≡ true
        true_lt a b less = grind arith

    end_stage : (at : SimulationState) (out : Option ℕ) → Stage at → (HasPhase at.table path (ready state) → ⊥) →
        below plan.duration (least_due at.time plan.duration at.cells at.table) ≡ None → GoesWell (to_end model plan bound at out)
    end_stage at (Some cell) stage none_ready none_due = λ completed. absurd (cc)
    end_stage at None stage none_ready none_due = λ completed. by stage
      where
        still : HasPhase at.table path (delayed at_time state) → ⊥
        still has =
            let found = least_is_upto at.time plan.duration at.cells path at_time state at.table has in
            let some = below_some plan.duration found.0 (omega (arith, found.2, within)) in
            none_some found.0 (sym none_due ∙ ap (below plan.duration) found.1 ∙ some)
          where
            none_some : (a : ℕ) → ◌≡◌ {A = Option ℕ} None (Some a) → ⊥
            none_some a e = absurd (cc)

        by : Stage at → Begun (timed (settled model plan bound at))
        by (waits none has) = absurd (still has)
        by (due now none has) = absurd (none_ready has)
        by (begun is) = subst Begun (sym (settled_frames at)) is

    moved_stage : (at : SimulationState) (next_time : Option ℕ) → Stage at → (HasPhase at.table path (ready state) → ⊥) →
        below plan.duration (least_due at.time plan.duration at.cells at.table) ≡ next_time → GoesWell (moved model plan bound at next_time)
    moved_stage at (Some time) stage none_ready e =
        time_stage at time (passed at.cells (time - at.time)) (first_out (passed at.cells (time - at.time))) stage none_ready
    moved_stage at None stage none_ready e = end_stage at (first_out (passed at.cells (plan.duration - at.time))) stage none_ready e

    -- ---- a transition

    woken_stage : (at : SimulationState) → Stage at → Stage (record at { table = on_each (woken at.cells) at.table })
    woken_stage at (waits none has) =
        waits none (phase_changed (woken at.cells) path at.table (delayed at_time state) (delayed at_time state) (λ where_ task e. ap (λ (p : TaskPhase). (woken at.cells where_ (record task { phase = p })).phase) e) has)
    woken_stage at (due now none has) =
        due now none (phase_changed (woken at.cells) path at.table (ready state) (ready state) (λ where_ task e. ap (λ (p : TaskPhase). (woken at.cells where_ (record task { phase = p })).phase) e) has)
    woken_stage at (begun is) = begun is

    judged_stage : (at : SimulationState) (jobs : List (ℕ × Job)) → Stage at → (HasPhase at.table path (ready state) → ⊥) →
        GoesWell (woken_or_moved model plan bound at (on_each (woken at.cells) at.table) jobs)
    judged_stage at [] stage none_ready = moved_stage at (below plan.duration (least_due at.time plan.duration at.cells at.table)) stage none_ready refl
    judged_stage at (job ∷ rest) stage none_ready = woken_stage at stage

    next_stage : (at : SimulationState) (jobs : List (ℕ × Job)) → IsReached model plan bound (more at) → ready_jobs at.cells at.table ≡ jobs → Stage at → GoesWell (next_by model plan bound at jobs)
    next_stage at [] reached e stage =
        judged_stage at (ready_jobs at.cells (on_each (woken at.cells) at.table)) stage
        (λ has. let job = ready_has_job at.cells path state at.table has in subst (λ (jobs : List (ℕ × Job)). IsOneOf job.0 jobs) e job.1)
    next_stage at (job ∷ rest) reached e stage =
        outcome_stage at (batch model bound at.spent at.cells (job ∷ rest)) reached (ap (batch model bound at.spent at.cells) e) stage

    module _ (first : Stage (start model plan)) where
      stands : (point : Next SimulationState Run) → IsReached model plan bound point → GoesWell point
      stands (more at) begins = first
      stands point (onward {point = at} before) = next_stage at (ready_jobs at.cells at.table) before refl (stands (more at) before)

-- ---- a directive of a plan

both : (a b : Bool) → IsTrue (a && b) → IsTrue a × IsTrue b
both true true h = (refl, refl)
both true false h = absurd (cc)
both false b h = absurd (cc)

passes : (test : Directive → Bool) (directive : Directive) (directives : List Directive) → IsTrue (list_all test directives) → IsOneOf directive directives → IsTrue (test directive)
passes test directive [] all among = absurd among
passes test directive (first ∷ rest) all (inl same) = subst (λ (d : Directive). IsTrue (test d)) same (both (test first) (list_all test rest) all).0
passes test directive (first ∷ rest) all (inr among) = passes test directive rest (both (test first) (list_all test rest) all).1 among

module _ (put : PutIsThere) (batch_frames : BatchFrames) (model : Parts) (plan : Plan) (bound : ℕ) (directive : Directive)
    (valid : IsTrue (valid_model model)) (of : IsPlanOf model plan) (among : IsOneOf directive plan.directives) (loose : directive.anchor ≡ None) where
  abbrev begins_in : TaskState
  begins_in = activity_begun model directive.kind directive.arguments

  abbrev daemons_in : Table
  daemons_in = with_daemons 0 model.daemons []

  good : IsTrue (is_directive_of model plan directive)
  good = passes (is_directive_of model plan) directive plan.directives of.directives among

  good_parts : IsTrue (takes model.enums (slice_get model.activities directive.kind) directive.arguments) × IsTrue (nat_lt directive.start plan.duration)
  good_parts =
      both (takes model.enums (slice_get model.activities directive.kind) directive.arguments) (nat_lt directive.start plan.duration)
      (both (takes model.enums (slice_get model.activities directive.kind) directive.arguments && nat_lt directive.start plan.duration) (is_there plan.directives (anchored_to directive)) good).0

  first_stage : Stage model plan bound (root directive.id) directive.start begins_in (start model plan)
  first_stage = by (nat_eq directive.start 0) refl
    where
      planned_there : HasPhase (with_directives model plan.directives daemons_in) (root directive.id) (delayed directive.start begins_in)
      planned_there = planned_put put model plan.next_id 0 directive plan.directives daemons_in of.ids among loose

      by : (now : Bool) → nat_eq directive.start 0 ≡ now → Stage model plan bound (root directive.id) directive.start begins_in (start model plan)
      by true e =
          due (sym (eqb-true directive.start 0 e)) refl
          (phase_changed (rested 0) (root directive.id) (with_directives model plan.directives daemons_in) (delayed directive.start begins_in) (ready begins_in)
          (λ where_ task is. ap (rested_phase 0) is ∙ ap (λ (b : Bool). if b then ready begins_in else delayed directive.start begins_in) e) planned_there)
      by false e =
          waits refl
          (phase_changed (rested 0) (root directive.id) (with_directives model plan.directives daemons_in) (delayed directive.start begins_in) (delayed directive.start begins_in)
          (λ where_ task is. ap (rested_phase 0) is ∙ ap (λ (b : Bool). if b then ready begins_in else delayed directive.start begins_in) e) planned_there)

  pub has_span : (run : Run) → IsFresh model plan bound run → run.outcome ≡ Completed → (span : SpanOf) × IsOneOf span (spans_of model run) × IsSpanOf directive span
  has_span run fresh completed =
      let begun_there = stands model plan bound (root directive.id) directive.start begins_in put batch_frames valid of (ltb-true directive.start plan.duration good_parts.1) first_stage (finished run) fresh completed in
      let frame = begun_there.0 in
      let kind : frame.before.kind ≡ body.Activity directive.kind = ap (λ (s : TaskState). s.kind) begun_there.3 in
      let all = timed run.instants in
      let has = span_has (task_ended all frame.path) all model directive.start frame directive.kind in (
        span_if (task_ended all frame.path) all model directive.start frame directive.kind,
        begun_has_span model run (root directive.id) directive.start directive.kind frame kind begun_there.1,
        record {
          path = has.path ∙ begun_there.2;
          kind = has.kind_is;
          arguments =
              has.arguments ∙ ap (λ (s : TaskState). take (parameters_of (slice_get model.activities directive.kind)) s.locals) begun_there.3
              ∙ arguments_taken model directive.kind directive.arguments good_parts.0;
          start = has.start;
        },
      )

pub planned_have_spans : PutIsThere → BatchFrames → PlannedHaveSpans
planned_have_spans put batch_frames model plan bound run directive valid of fresh completed among loose =
    has_span put batch_frames model plan bound directive valid of among loose run fresh completed
