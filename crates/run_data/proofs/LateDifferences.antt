-- Two simulations side by side.
use Rattle.std.proofs.Common.{◌≡◌, ◌⊎◌, inl, inr, ℕ, zero, suc, ◌+◌, ◌-◌, ◌<◌, ◌≤◌, nat_lt, Bool, true, false, not, List, [], ◌∷◌, ◌++◌, Option, Some, None, refl, sym, ap, ◌∙◌, subst, if◌then◌else◌, arith}
use Rattle.std.proofs.lemmas.Bool.{false≢true, ltb-true, ltb-false}
use Rattle.aerie_base.specs.declared.models.Daemon.{Daemon}
use Rattle.aerie_base.specs.declared.models.model.Parts.{Parts}
use Rattle.aerie_base.specs.declared.plans.Anchor.{Anchor}
use Rattle.aerie_base.specs.declared.plans.Directive.{Directive}
use Rattle.aerie_base.specs.declared.plans.Edge.{Edge}
use Rattle.aerie_base.specs.declared.plans.Plan.{Plan}
use Rattle.aerie_base.specs.Paths.{root, daemon_root}
use Rattle.effect_cells.specs.declared.effects.CellState.{CellState}
use Rattle.effect_cells.specs.Cells.{passed, first_out}
use Rattle.run_data.specs.declared.tasks.TaskState.{TaskState}
use Rattle.run_data.specs.TaskFrames.{Frame}
use Rattle.run_data.specs.declared.jobs.Job.{Job}
use Rattle.run_data.specs.declared.runs.Instant.{Instant}
use Rattle.run_data.specs.declared.runs.Run.{Run}
use Rattle.run_data.specs.Batches.{Batch, limit, failed, committed, batch, cost_of}
use Rattle.run_data.specs.Endings.{has_come, back, gone_on, after_batch}
use Rattle.run_data.specs.Fresh.{SimulationState, start, instant_at, next_state, next_by, woken_or_moved, moved, to_time, to_end, after_outcome, least_due, below, IsReached}
use Rattle.run_data.specs.TaskStates.{activity_begun}
use Rattle.run_data.specs.Tasks.{Task, Table, with_task, on_each, planned, with_directives, with_daemons, ready_jobs, after_frames, woken, rested}
use Rattle.run_data.specs.Transitions.{Next, more, finished, begins, onward, iterate}
use Rattle.run_data.specs.laws.BatchFrames.{AreFramesOf}
use Rattle.run_data.specs.laws.GoingOn.{AllQuiet}
use Rattle.run_data.specs.laws.Iteration.{result_stays, comes_by_transitions}
use Rattle.run_data.specs.laws.Orders.{EachOf}
use Rattle.run_data.specs.laws.OrderedTables.{IsOrderedTable}
use Rattle.run_data.specs.laws.ReachedStates.{IsTableOf}
use Rattle.run_data.specs.laws.Rising.{AreBefore}
use Rattle.run_data.specs.laws.OpenTasks.{back_open, due_open}
use Rattle.run_data.specs.TableLaws.{order_with, order_each}
use Rattle.run_data.proofs.QuietStates.{reached_is_quiet}
use Rattle.run_data.specs.laws.QuietTasks.{come_each}
use Rattle.run_data.proofs.ReachedStates.{reached_is_of_model, batch_frames}
use Rattle.run_data.proofs.Rising.{below_is}
use Rattle.run_data.specs.laws.LateDifferences.{is_common, common_tasks, common_directives, AlikeBut, ComesLate, StartsLate, IsLate, DifferLate, RunSideBySide, instants_before, instants_of, SameInstantsBefore, AffordsNoLess, AffordsCost}
use Rattle.run_data.proofs.RestOfRuns.{spent_within}
use Rattle.run_data.proofs.OtherBounds.{batch_paid}
use Rattle.run_data.specs.laws.TableParts.{part_each}
use Rattle.run_data.proofs.LateTasks.{kept_with, out_with, Rests, AllRest, ready_others, due_others, not_come, batch_rests}
use Rattle.run_data.proofs.LateBatches.{come_pair, others_after}
use Rattle.run_data.proofs.LatePlaces.{with_instant, NotBefore, step_adds, moved_instants, step_later, place_before, further_iterations, front_is, all_front, rest_put, woken_rests, rested_rests}

is_below : (horizon time : ℕ) (found : Option ℕ) → found ≡ Some time → time < horizon → below horizon found ≡ Some time
is_below horizon time found e less = ap (below horizon) e ∙ by (nat_lt time horizon) refl
  where
    by : (b : Bool) → nat_lt time horizon ≡ b → ◌≡◌ {A = Option ℕ} (if b then Some time else None) (Some time)
    by true f = refl
    by false f = let k = ltb-false time horizon f in absurd (omega arith)

module _ (differs : ℕ → Bool) (until : ℕ) (model : Parts) (plan old_plan : Plan) (bound old_bound : ℕ) (given : DifferLate differs until model plan old_plan bound old_bound) where
  abbrev Late : ℕ → Edge → ℕ → Type 0
  Late = ComesLate differs until model old_plan old_bound

  pub record Together (at other : SimulationState) : Type 0 where
    pub alike : AlikeBut differs at other
    pub rest : AllRest differs Late until at.table
    pub old_rest : AllRest differs Late until other.table
    pub before : other.time < until

  -- the states stay together, or the instants are the same and the old one is not before the time
  abbrev StepBeside : Next SimulationState Run → Next SimulationState Run → Type 0
  StepBeside (more next) (more old) = Together next old ⊎ ((next.instants ≡ old.instants) × (until ≤ old.time))
  StepBeside (finished run) (more old) = (run.instants ≡ old.instants) × (until ≤ old.time)
  StepBeside (more next) (finished old) = next.instants ≡ old.instants
  StepBeside (finished run) (finished old) = run.instants ≡ old.instants

  abbrev IsPast : Next SimulationState Run → Type 0
  IsPast (more old) = until ≤ old.time
  IsPast (finished old) = Unit {0}

  parts : (place old : Next SimulationState Run) → instants_of place ≡ instants_of old → IsPast old → StepBeside place old
  parts (more next) (more old) e past = inr (e, past)
  parts (finished run) (more old) e past = (e, past)
  parts (more next) (finished old) e past = e
  parts (finished run) (finished old) e past = e

  step_instants : (place old : Next SimulationState Run) → StepBeside place old → instants_of place ≡ instants_of old
  step_instants (more next) (more old) (inl both) = both.alike.instants
  step_instants (more next) (more old) (inr past) = past.0
  step_instants (finished run) (more old) past = past.0
  step_instants (more next) (finished old) e = e
  step_instants (finished run) (finished old) e = e

  -- ---- one step

  module _ (at other : SimulationState) (reached : IsReached model plan bound (more at)) (old_reached : IsReached model old_plan old_bound (more other)) (both : Together at other) where
    alike : AlikeBut differs at other
    alike = both.alike

    is : IsTableOf model at.table
    is = (reached_is_of_model model plan bound at given.valid given.is reached).table

    second : IsTableOf model other.table
    second = (reached_is_of_model model old_plan old_bound other given.valid given.old_is old_reached).table

    quiet : AllQuiet at.table at.table
    quiet = reached_is_quiet model plan bound at given.is reached

    still : AllQuiet other.table other.table
    still = reached_is_quiet model old_plan old_bound other given.old_is old_reached

    instant_same : instant_at at ≡ instant_at other
    instant_same = λ i. record { time = alike.time i; batches = alike.batches i; changed = (instant_at (record at { cells = alike.cells i; touched = alike.touched i })).changed }

    settled_same : with_instant at ≡ with_instant other
    settled_same = λ i. alike.instants i ++ instant_same i ∷ []

    jobs_same : ready_jobs at.cells at.table ≡ ready_jobs other.cells other.table
    jobs_same =
        ap (λ c. ready_jobs c at.table) alike.cells ∙ sym (ready_others differs Late until other.cells at.table is.order both.rest) ∙ ap (ready_jobs other.cells) alike.tables
        ∙ ready_others differs Late until other.cells other.table second.order both.old_rest

    -- ---- a batch

    module _ (next : List CellState) (touched : List ℕ) (frames : List Frame) (are : AreFramesOf at.table frames) (be : AreFramesOf other.table frames)
        (on : IsReached model old_plan old_bound (more (record other { cells = next; spent = other.spent + cost_of frames; table = after_batch other.time frames other.table; batches = other.batches ++ frames ∷ []; touched = other.touched ++ touched })))
      where
        old_comes : (to : ℕ) (edge : Edge) → has_come (after_frames other.time frames other.table) to edge ≡ true → has_come (after_batch other.time frames other.table) to edge ≡ true
        old_comes to edge e =
            let whole = after_frames other.time frames other.table in
            come_each (gone_on whole other.time) (λ path task. due_open whole other.time (back whole path task.phase) ∙ back_open whole path task.phase) (λ path task. refl) whole to edge ∙ e

        goes : (to : ℕ) (edge : Edge) (from : ℕ) → Late to edge from → has_come at.table to edge ≡ false → has_come (after_frames other.time frames at.table) to edge ≡ true → until ≤ other.time + from
        goes to edge from late before e = by (differs to) refl late
          where
            by : (b : Bool) → differs to ≡ b → Late to edge from → until ≤ other.time + from
            by true d l = absurd (false≢true (sym (not_come differs Late until model other.time frames at.table is both.rest quiet are to edge d before) ∙ e))
            by false d (inl l) = absurd (false≢true (sym d ∙ l))
            by false d (inr l) =
                let there : has_come (after_frames other.time frames other.table) to edge ≡ true =
                sym (come_pair differs Late Late until model other.time frames at.table other.table is second both.rest both.old_rest quiet still are be alike.tables to edge d) ∙ e in
                l _ on both.before (old_comes to edge there)

        old_goes : (to : ℕ) (edge : Edge) (from : ℕ) → Late to edge from → has_come other.table to edge ≡ false → has_come (after_frames other.time frames other.table) to edge ≡ true → until ≤ other.time + from
        old_goes to edge from late before e = by (differs to) refl late
          where
            by : (b : Bool) → differs to ≡ b → Late to edge from → until ≤ other.time + from
            by true d l = absurd (false≢true (sym (not_come differs Late until model other.time frames other.table second both.old_rest still be to edge d before) ∙ e))
            by false d (inl l) = absurd (false≢true (sym d ∙ l))
            by false d (inr l) = l _ on both.before (old_comes to edge e)

        batch_together : Together
            (record at { cells = next; spent = at.spent + cost_of frames; table = after_batch at.time frames at.table; batches = at.batches ++ frames ∷ []; touched = at.touched ++ touched })
            (record other { cells = next; spent = other.spent + cost_of frames; table = after_batch other.time frames other.table; batches = other.batches ++ frames ∷ []; touched = other.touched ++ touched })
        batch_together = record {
          alike = record {
            time = alike.time;
            cells = refl;
            spent = ap (λ s. s + cost_of frames) alike.spent;
            instants = alike.instants;
            batches = ap (λ b. b ++ frames ∷ []) alike.batches;
            touched = ap (λ t. t ++ touched) alike.touched;
            tables = ap (λ t. common_tasks differs (after_batch t frames at.table)) alike.time
                ∙ others_after differs Late Late until model other.time frames at.table other.table is second both.rest both.old_rest quiet still are be alike.tables;
          };
          rest = subst (λ t. AllRest differs Late until (after_batch t frames at.table)) (sym alike.time)
              (batch_rests differs Late until model other.time frames at.table is both.rest quiet are goes both.before);
          old_rest = batch_rests differs Late until model other.time frames other.table second both.old_rest still be old_goes both.before;
          before = both.before;
        }

    outcome_instants : (outcome : Batch) → instants_of (after_outcome model plan bound at outcome) ≡ at.instants
    outcome_instants limit = refl
    outcome_instants (failed who fault) = refl
    outcome_instants (committed next touched frames) = refl

    outcome_beside : (outcome : Batch) → batch model old_bound other.spent other.cells (ready_jobs other.cells other.table) ≡ outcome →
        IsReached model old_plan old_bound (after_outcome model old_plan old_bound other outcome) →
        StepBeside (after_outcome model plan bound at (batch model bound at.spent at.cells (ready_jobs at.cells at.table))) (after_outcome model old_plan old_bound other outcome)
    outcome_beside limit f on =
        let outcome = batch model bound at.spent at.cells (ready_jobs at.cells at.table) in
        parts (after_outcome model plan bound at outcome) (after_outcome model old_plan old_bound other limit) (outcome_instants outcome ∙ alike.instants) tt
    outcome_beside (failed who fault) f on =
        let outcome = batch model bound at.spent at.cells (ready_jobs at.cells at.table) in
        parts (after_outcome model plan bound at outcome) (after_outcome model old_plan old_bound other (failed who fault)) (outcome_instants outcome ∙ alike.instants) tt
    outcome_beside (committed next touched frames) f on =
        let fits : other.spent + cost_of frames ≤ bound = given.affords _ on both.before in
        let again = batch_paid model bound old_bound other.spent other.spent other.cells (ready_jobs other.cells other.table) next touched frames f fits in
        let here : batch model bound at.spent at.cells (ready_jobs at.cells at.table) ≡ committed next touched frames =
        (λ i. batch model bound (alike.spent i) (alike.cells i) (jobs_same i)) ∙ again in
        subst (λ b. StepBeside (after_outcome model plan bound at b) (after_outcome model old_plan old_bound other (committed next touched frames))) (sym here)
        (inl (batch_together next touched frames (batch_frames model plan bound at next touched frames given.valid given.is reached here)
        (batch_frames model old_plan old_bound other next touched frames given.valid given.old_is old_reached f) on))

    -- ---- a later time

    time_beside : (time : ℕ) → time < until → (cells : List CellState) (out : Option ℕ) → StepBeside (to_time model plan bound at time cells out) (to_time model old_plan old_bound other time cells out)
    time_beside time less cells (Some cell) = settled_same
    time_beside time less cells None = inl (record {
      alike = record {
        time = refl;
        cells = refl;
        spent = alike.spent;
        instants = settled_same;
        batches = refl;
        touched = refl;
        tables = part_each (is_common differs) (rested time) at.table ∙ ap (on_each (rested time)) alike.tables ∙ sym (part_each (is_common differs) (rested time) other.table);
      };
      rest = rested_rests differs Late until time less at.table both.rest;
      old_rest = rested_rests differs Late until time less other.table both.old_rest;
      before = less;
    })

    time_past : (time : ℕ) → until ≤ time → (cells : List CellState) (out : Option ℕ) → IsPast (to_time model old_plan old_bound other time cells out)
    time_past time past cells (Some cell) = tt
    time_past time past cells None = past

    end_past : (out : Option ℕ) → IsPast (to_end model old_plan old_bound other out)
    end_past (Some cell) = tt
    end_past None = tt

    moves_part : (time old_time : Option ℕ) → IsPast (moved model old_plan old_bound other old_time) → StepBeside (moved model plan bound at time) (moved model old_plan old_bound other old_time)
    moves_part time old_time past =
        parts (moved model plan bound at time) (moved model old_plan old_bound other old_time)
        (moved_instants model plan bound at time ∙ settled_same ∙ sym (moved_instants model old_plan old_bound other old_time)) past

    abbrev due : Option ℕ
    due = least_due at.time plan.duration at.cells at.table

    abbrev old_due : Option ℕ
    old_due = least_due other.time old_plan.duration other.cells other.table

    due_same : below until due ≡ below until old_due
    due_same =
        (λ i. below until (least_due (alike.time i) (given.duration i) (alike.cells i) at.table))
        ∙ sym (due_others differs Late until other.time old_plan.duration other.cells at.table is.order both.rest)
        ∙ ap (λ t. below until (least_due other.time old_plan.duration other.cells t)) alike.tables
        ∙ due_others differs Late until other.time old_plan.duration other.cells other.table second.order both.old_rest

    moved_beside : (old_time : Option ℕ) → below old_plan.duration old_due ≡ old_time → StepBeside (moved model plan bound at (below plan.duration due)) (moved model old_plan old_bound other old_time)
    moved_beside None e = moves_part (below plan.duration due) None (end_past (first_out (passed other.cells (old_plan.duration - other.time))))
    moved_beside (Some time) e = by (nat_lt time until) refl
      where
        by : (b : Bool) → nat_lt time until ≡ b → StepBeside (moved model plan bound at (below plan.duration due)) (moved model old_plan old_bound other (Some time))
        by false f = moves_part (below plan.duration due) (Some time) (time_past time (ltb-false time until f) (passed other.cells (time - other.time)) (first_out (passed other.cells (time - other.time))))
        by true f =
            let less = ltb-true time until f in
            let found = below_is model old_plan old_bound old_plan.duration time old_due e in
            let here : below until due ≡ Some time = due_same ∙ is_below until time old_due found.0 less in
            let again = below_is model plan bound until time due here in
            let lasts : plan.duration ≡ old_plan.duration = given.duration in
            let same : below plan.duration due ≡ Some time = is_below plan.duration time due again.0 (omega (arith, lasts, found.1)) in
            let later : passed at.cells (time - at.time) ≡ passed other.cells (time - other.time) = λ i. passed (alike.cells i) (time - alike.time i) in
            subst (λ d. StepBeside (moved model plan bound at d) (moved model old_plan old_bound other (Some time))) (sym same)
            (subst (λ c. StepBeside (to_time model plan bound at time c (first_out c)) (moved model old_plan old_bound other (Some time))) (sym later)
            (time_beside time less (passed other.cells (time - other.time)) (first_out (passed other.cells (time - other.time)))))

    -- ---- woken

    woken_tables : common_tasks differs (on_each (woken at.cells) at.table) ≡ common_tasks differs (on_each (woken other.cells) other.table)
    woken_tables =
        part_each (is_common differs) (woken at.cells) at.table ∙ (λ i. on_each (woken (alike.cells i)) (alike.tables i)) ∙ sym (part_each (is_common differs) (woken other.cells) other.table)

    woken_rest : AllRest differs Late until (on_each (woken at.cells) at.table)
    woken_rest = woken_rests differs Late until at.cells at.table both.rest

    woken_old_rest : AllRest differs Late until (on_each (woken other.cells) other.table)
    woken_old_rest = woken_rests differs Late until other.cells other.table both.old_rest

    woken_jobs : ready_jobs at.cells (on_each (woken at.cells) at.table) ≡ ready_jobs other.cells (on_each (woken other.cells) other.table)
    woken_jobs =
        ap (λ c. ready_jobs c (on_each (woken at.cells) at.table)) alike.cells
        ∙ sym (ready_others differs Late until other.cells (on_each (woken at.cells) at.table) (order_each (woken at.cells) at.table is.order) woken_rest) ∙ ap (ready_jobs other.cells) woken_tables
        ∙ ready_others differs Late until other.cells (on_each (woken other.cells) other.table) (order_each (woken other.cells) other.table second.order) woken_old_rest

    judged_beside : (jobs : List (ℕ × Job)) → StepBeside (woken_or_moved model plan bound at (on_each (woken at.cells) at.table) jobs) (woken_or_moved model old_plan old_bound other (on_each (woken other.cells) other.table) jobs)
    judged_beside [] = moved_beside (below old_plan.duration old_due) refl
    judged_beside (job ∷ rest) = inl (record {
      alike = record {
        time = alike.time;
        cells = alike.cells;
        spent = alike.spent;
        instants = alike.instants;
        batches = alike.batches;
        touched = alike.touched;
        tables = woken_tables;
      };
      rest = woken_rest;
      old_rest = woken_old_rest;
      before = both.before;
    })

    by_beside : (jobs : List (ℕ × Job)) → ready_jobs other.cells other.table ≡ jobs → StepBeside (next_by model plan bound at jobs) (next_by model old_plan old_bound other jobs)
    by_beside [] e =
        subst (λ jobs. StepBeside (woken_or_moved model plan bound at (on_each (woken at.cells) at.table) jobs) (next_by model old_plan old_bound other [])) (sym woken_jobs)
        (judged_beside (ready_jobs other.cells (on_each (woken other.cells) other.table)))
    by_beside (job ∷ rest) e =
        let on : IsReached model old_plan old_bound (next_by model old_plan old_bound other (job ∷ rest)) = subst (λ jobs. IsReached model old_plan old_bound (next_by model old_plan old_bound other jobs)) e (onward old_reached) in
        let there : batch model old_bound other.spent other.cells (ready_jobs other.cells other.table) ≡ batch model old_bound other.spent other.cells (job ∷ rest) = ap (batch model old_bound other.spent other.cells) e in
        subst (λ jobs. StepBeside (after_outcome model plan bound at (batch model bound at.spent at.cells jobs)) (next_by model old_plan old_bound other (job ∷ rest))) (jobs_same ∙ e)
        (outcome_beside (batch model old_bound other.spent other.cells (job ∷ rest)) there on)

    pub step_beside : StepBeside (next_state model plan bound at) (next_state model old_plan old_bound other)
    step_beside =
        subst (λ jobs. StepBeside (next_by model plan bound at jobs) (next_state model old_plan old_bound other)) (sym jobs_same) (by_beside (ready_jobs other.cells other.table) refl)

  -- ---- the start

  order_daemons : (number : ℕ) (daemons : List Daemon) (table : Table) → IsOrderedTable table → IsOrderedTable (with_daemons number daemons table)
  order_daemons number [] table order = order
  order_daemons number (one ∷ rest) table order = order_daemons (number + 1) rest _ (order_with table (daemon_root number) _ order)

  order_directives : (directives : List Directive) (table : Table) → IsOrderedTable table → IsOrderedTable (with_directives model directives table)
  order_directives [] table order = order
  order_directives (one ∷ rest) table order = order_directives rest _ (order_with table (root one.id) _ order)

  abbrev of_daemons : Table
  of_daemons = with_daemons 0 model.daemons []

  directives_in_common : (directives : List Directive) (table : Table) → IsOrderedTable table → common_tasks differs (with_directives model directives table) ≡ with_directives model (common_directives differs directives) (common_tasks differs table)
  directives_in_common [] table order = refl
  directives_in_common (one ∷ rest) table order = directives_in_common rest (with_task table (root one.id) new) (order_with table (root one.id) new order) ∙ by (differs one.id) refl
    where
      new : Task
      new = record { phase = planned one.anchor one.start (activity_begun model one.kind one.arguments); made = 0; begun = false }

      by : (b : Bool) → differs one.id ≡ b →
          with_directives model (common_directives differs rest) (common_tasks differs (with_task table (root one.id) new))
          ≡ with_directives model (if b then common_directives differs rest else one ∷ common_directives differs rest) (common_tasks differs table)
      by true e = ap (with_directives model (common_directives differs rest)) (out_with (is_common differs) table (root one.id) new (ap not e) order)
      by false e = ap (with_directives model (common_directives differs rest)) (kept_with (is_common differs) table (root one.id) new (ap not e) order)

  start_others : common_tasks differs (start model plan).table ≡ common_tasks differs (start model old_plan).table
  start_others =
      let order = order_daemons 0 model.daemons [] tt in
      part_each (is_common differs) (rested 0) (with_directives model plan.directives of_daemons)
      ∙ ap (on_each (rested 0))
      (directives_in_common plan.directives of_daemons order ∙ ap (λ ds. with_directives model ds (common_tasks differs of_daemons)) given.same
      ∙ sym (directives_in_common old_plan.directives of_daemons order))
      ∙ sym (part_each (is_common differs) (rested 0) (with_directives model old_plan.directives of_daemons))

  rest_daemons : (number : ℕ) (daemons : List Daemon) (table : Table) → AllRest differs Late until table → AllRest differs Late until (with_daemons number daemons table)
  rest_daemons number [] table all = all
  rest_daemons number (one ∷ rest) table all = rest_daemons (number + 1) rest _ (rest_put differs Late until table (daemon_root number) _ all (λ e. absurd (false≢true e)))

  planned_rests : (anchor : Option Anchor) (from : ℕ) (state : TaskState) → StartsLate differs until model old_plan old_bound anchor from → Rests Late until (planned anchor from state)
  planned_rests None from state h = h
  planned_rests (Some anchor) from state h = h

  rest_directives : (directives : List Directive) (table : Table) → EachOf (IsLate differs until model old_plan old_bound) directives → AllRest differs Late until table →
      AllRest differs Late until (with_directives model directives table)
  rest_directives [] table late all = all
  rest_directives (one ∷ rest) table late all =
      rest_directives rest _ late.1
      (rest_put differs Late until table (root one.id) _ all (λ e. record { begun = refl; phase = planned_rests one.anchor one.start (activity_begun model one.kind one.arguments) (late.0 e) }))

  none_rest : AllRest differs Late until []
  none_rest = record { rest = λ path task there out. absurd (cc) }

  start_together : 0 < until → Together (start model plan) (start model old_plan)
  start_together some = record {
    alike = record { time = refl; cells = refl; spent = refl; instants = refl; batches = refl; touched = refl; tables = start_others };
    rest = rested_rests differs Late until 0 some (with_directives model plan.directives of_daemons) (rest_directives plan.directives of_daemons given.late (rest_daemons 0 model.daemons [] none_rest));
    old_rest = rested_rests differs Late until 0 some (with_directives model old_plan.directives of_daemons) (rest_directives old_plan.directives of_daemons given.old_late (rest_daemons 0 model.daemons [] none_rest));
    before = some;
  }

  -- ---- state by state

  record Beside (other : SimulationState) : Type 0 where
    at : SimulationState
    is_reached : IsReached model plan bound (more at)
    both : Together at other

  abbrev PlaceBeside : Next SimulationState Run → Type 0
  PlaceBeside (more other) = other.time < until → Beside other
  PlaceBeside (finished run) = Unit {0}

  next_of_beside : (other : SimulationState) → IsReached model old_plan old_bound (more other) → (other.time < until → Beside other) → (place : Next SimulationState Run) → next_state model old_plan old_bound other ≡ place → PlaceBeside place
  next_of_beside other reached beside (finished run) e = tt
  next_of_beside other reached beside (more old) e = λ less. go (beside (earlier_too less)) less
    where
      earlier_too : old.time < until → other.time < until
      earlier_too less = let k = step_later model old_plan old_bound other old reached e in omega arith

      go : Beside other → old.time < until → Beside old
      go here less = by (next_state model plan bound here.at) refl (subst (StepBeside (next_state model plan bound here.at)) e (step_beside here.at other here.is_reached reached here.both))
        where
          by : (place : Next SimulationState Run) → next_state model plan bound here.at ≡ place → StepBeside place (more old) → Beside old
          by (more next) f (inl both) = record { at = next; is_reached = subst (IsReached model plan bound) f (onward here.is_reached); both = both }
          by (more next) f (inr past) = absurd (omega (arith, past.1))
          by (finished run) f past = absurd (omega (arith, past.1))

  all_beside : (place : Next SimulationState Run) → IsReached model old_plan old_bound place → PlaceBeside place
  all_beside (more other) begins = λ less. record { at = start model plan; is_reached = begins; both = start_together less }
  all_beside place (onward {point = other} reached) = next_of_beside other reached (all_beside (more other) reached) (next_state model old_plan old_bound other) refl

  -- ---- to the end

  record PartsAt (old : Run) : Type 0 where
    place : Next SimulationState Run
    is_reached : IsReached model plan bound place
    instants : instants_of place ≡ instants_before until old.instants

  later_still : (from : ℕ) (rest : List Instant) → until ≤ from → NotBefore from rest → NotBefore until rest
  later_still from [] past late = tt
  later_still from (instant ∷ others_) past late = omega (arith, late, past)

  past_at : (count : ℕ) (old : Run) (place : Next SimulationState Run) (further : SimulationState) → IsReached model plan bound place → instants_of place ≡ further.instants → until ≤ further.time →
      AreBefore until further.instants → iterate SimulationState Run (next_state model old_plan old_bound) count (more further) ≡ finished old → PartsAt old
  past_at count old place further reached same past before e =
      let on = further_iterations model old_plan old_bound count further old e in record {
        place = place;
        is_reached = reached;
        instants = same ∙ sym (ap (instants_before until) on.is ∙ front_is until further.instants on.rest before (later_still further.time on.rest past on.late));
      }

  end_at : (count : ℕ) (old run : Run) (place : Next SimulationState Run) → IsReached model plan bound place → instants_of place ≡ run.instants → AreBefore until run.instants →
      iterate SimulationState Run (next_state model old_plan old_bound) count (finished run) ≡ finished old → PartsAt old
  end_at count old run place reached same before e =
      let k : ◌≡◌ {A = Next SimulationState Run} (finished run) (finished old) = sym (result_stays SimulationState Run (next_state model old_plan old_bound) count run) ∙ e in
      let one : run ≡ old = cc in
      let instants : run.instants ≡ old.instants = ap (λ (r : Run). r.instants) one in
      record { place = place; is_reached = reached; instants = same ∙ sym (all_front until run.instants before) ∙ ap (instants_before until) instants }

  all_parts : (count : ℕ) (at other : SimulationState) (old : Run) → IsReached model plan bound (more at) → IsReached model old_plan old_bound (more other) → Together at other →
      iterate SimulationState Run (next_state model old_plan old_bound) count (more other) ≡ finished old → PartsAt old
  all_parts zero at other old reached old_reached both e = absurd (cc)
  all_parts (suc count) at other old reached old_reached both e =
      by (next_state model plan bound at) (next_state model old_plan old_bound other) (onward reached) (onward old_reached) (step_beside at other reached old_reached both)
      (place_before model old_plan old_bound until other old_reached both.before (next_state model old_plan old_bound other) (step_adds model old_plan old_bound other)) e
      (λ next further there again together f. all_parts count next further old there again together f)
    where
      by : (place old_place : Next SimulationState Run) → IsReached model plan bound place → IsReached model old_plan old_bound old_place → StepBeside place old_place →
          AreBefore until (instants_of old_place) → iterate SimulationState Run (next_state model old_plan old_bound) count old_place ≡ finished old →
          ((next further : SimulationState) → IsReached model plan bound (more next) → IsReached model old_plan old_bound (more further) → Together next further →
          iterate SimulationState Run (next_state model old_plan old_bound) count (more further) ≡ finished old → PartsAt old) → PartsAt old
      by (more next) (more further) f g (inl together) before e on = on next further f g together e
      by (more next) (more further) f g (inr past) before e on = past_at count old (more next) further f past.0 past.1 before e
      by (finished run) (more further) f g past before e on = past_at count old (finished run) further f past.0 past.1 before e
      by (more next) (finished last) f g same before e on = end_at count old last (more next) f same before e
      by (finished run) (finished last) f g same before e on = end_at count old last (finished run) f same before e

pub run_side_by_side : RunSideBySide
run_side_by_side differs until model plan old_plan bound old_bound given other reached less =
    let here = all_beside differs until model plan old_plan bound old_bound given (more other) reached less in
    (here.at, here.is_reached, here.both.alike, jobs_same differs until model plan old_plan bound old_bound given here.at other here.is_reached reached here.both)

pub same_instants_before : SameInstantsBefore
same_instants_before differs until model plan old_plan bound old_bound old given some fresh =
    let transitions = comes_by_transitions SimulationState Run (next_state model old_plan old_bound) (start model old_plan) (finished old) fresh in
    let found = all_parts differs until model plan old_plan bound old_bound given transitions.0 (start model plan) (start model old_plan) old begins begins (start_together differs until model plan old_plan bound old_bound given some) transitions.1 in
    (found.place, found.is_reached, found.instants)

pub affords_no_less : AffordsNoLess
affords_no_less model plan bound old_bound other valid is reached less =
    let within = (reached_is_of_model model plan old_bound other valid is reached).spent in omega (arith, within, less)

pub affords_cost : AffordsCost
affords_cost model plan bound old_bound old other valid is fresh completed reached less =
    let within = spent_within model plan old_bound old other valid is fresh completed reached in omega (arith, within, less)
