-- Two plans that differ in directives which are not due before a time run alike until then.
use Rattle.std.proofs.Common.{◌≡◌, ◌⊎◌, inl, inr, ℕ, zero, suc, ◌-◌, ◌<◌, ◌≤◌, nat_eq, nat_lt, Bool, true, false, cond, List, [], ◌∷◌, ◌++◌, Option, Some, None, refl, sym, ap, ◌∙◌, subst, if◌then◌else◌, append_assoc, arith}
use Rattle.std.proofs.lemmas.Bool.{ltb-true, ltb-false}
use Rattle.std.specs.BTreeMap.{is_at}
use Rattle.aerie_base.specs.declared.models.model.Parts.{Parts}
use Rattle.aerie_base.specs.declared.plans.Edge.{Edge}
use Rattle.aerie_base.specs.declared.plans.Plan.{Plan}
use Rattle.aerie_base.specs.Paths.{path_cmp}
use Rattle.effect_cells.specs.declared.effects.CellState.{CellState}
use Rattle.effect_cells.specs.Cells.{passed, first_out}
use Rattle.run_data.specs.declared.jobs.Job.{Job}
use Rattle.run_data.specs.declared.runs.Instant.{Instant}
use Rattle.run_data.specs.declared.runs.Run.{Run}
use Rattle.run_data.specs.Batches.{Batch, limit, failed, committed, batch}
use Rattle.run_data.specs.Fresh.{SimulationState, instant_at, next_state, next_by, woken_or_moved, moved, to_time, to_end, after_outcome, least_due, below, IsReached}
use Rattle.run_data.specs.Tasks.{TaskPhase, anchored, ready, delayed, waiting, calling, over, Task, Table, task_at, with_task, on_each, ready_jobs, woken, woken_phase, rested, rested_phase}
use Rattle.run_data.specs.Transitions.{Next, more, finished, onward, iterate}
use Rattle.run_data.specs.laws.Iteration.{result_stays}
use Rattle.run_data.specs.laws.Rising.{AreBefore}
use Rattle.run_data.specs.TableLaws.{at_with, is_same}
use Rattle.run_data.proofs.Rising.{StandsWell, stands_well}
use Rattle.run_data.specs.laws.LateDifferences.{is_of_differing, instants_before, instants_of}
use Rattle.run_data.specs.laws.TableParts.{each_at, changed_at}
use Rattle.run_data.proofs.LateTasks.{Rests, Resting, AllRest}

-- ---- what a step adds

abbrev pub with_instant : SimulationState → List Instant
with_instant at = at.instants ++ instant_at at ∷ []

abbrev pub PlaceAdds : SimulationState → Next SimulationState Run → Type 0
PlaceAdds at (more next) = ((next.instants ≡ at.instants) × (next.time ≡ at.time)) ⊎ (next.instants ≡ with_instant at)
PlaceAdds at (finished run) = (run.instants ≡ at.instants) ⊎ (run.instants ≡ with_instant at)

module _ (model : Parts) (plan : Plan) (bound : ℕ) (at : SimulationState) where
  outcome_adds : (outcome : Batch) → PlaceAdds at (after_outcome model plan bound at outcome)
  outcome_adds limit = inl refl
  outcome_adds (failed who fault) = inl refl
  outcome_adds (committed next touched frames) = inl (refl, refl)

  time_adds : (time : ℕ) (cells : List CellState) (out : Option ℕ) → PlaceAdds at (to_time model plan bound at time cells out)
  time_adds time cells (Some cell) = inr refl
  time_adds time cells None = inr refl

  end_adds : (out : Option ℕ) → PlaceAdds at (to_end model plan bound at out)
  end_adds (Some cell) = inr refl
  end_adds None = inr refl

  moved_adds : (time : Option ℕ) → PlaceAdds at (moved model plan bound at time)
  moved_adds (Some time) = time_adds time (passed at.cells (time - at.time)) (first_out (passed at.cells (time - at.time)))
  moved_adds None = end_adds (first_out (passed at.cells (plan.duration - at.time)))

  judged_adds : (table : Table) (jobs : List (ℕ × Job)) → PlaceAdds at (woken_or_moved model plan bound at table jobs)
  judged_adds table [] = moved_adds (below plan.duration (least_due at.time plan.duration at.cells at.table))
  judged_adds table (job ∷ rest) = inl (refl, refl)

  next_adds : (jobs : List (ℕ × Job)) → PlaceAdds at (next_by model plan bound at jobs)
  next_adds [] = judged_adds (on_each (woken at.cells) at.table) (ready_jobs at.cells (on_each (woken at.cells) at.table))
  next_adds (job ∷ rest) = outcome_adds (batch model bound at.spent at.cells (job ∷ rest))

  pub step_adds : PlaceAdds at (next_state model plan bound at)
  step_adds = next_adds (ready_jobs at.cells at.table)

  -- a move settles the instant, wherever it leads
  time_instants : (time : ℕ) (cells : List CellState) (out : Option ℕ) → instants_of (to_time model plan bound at time cells out) ≡ with_instant at
  time_instants time cells (Some cell) = refl
  time_instants time cells None = refl

  end_instants : (out : Option ℕ) → instants_of (to_end model plan bound at out) ≡ with_instant at
  end_instants (Some cell) = refl
  end_instants None = refl

  pub moved_instants : (time : Option ℕ) → instants_of (moved model plan bound at time) ≡ with_instant at
  moved_instants (Some time) = time_instants time (passed at.cells (time - at.time)) (first_out (passed at.cells (time - at.time)))
  moved_instants None = end_instants (first_out (passed at.cells (plan.duration - at.time)))

-- ---- before a time

before_more : (end_ : ℕ) (instants : List Instant) (last : Instant) → AreBefore end_ instants → last.time < end_ → AreBefore end_ (instants ++ last ∷ [])
before_more end_ [] last before here = (here, tt)
before_more end_ (instant ∷ rest) last before here = (before.0, before_more end_ rest last before.1 here)

before_later : (end_ later : ℕ) (instants : List Instant) → end_ ≤ later → AreBefore end_ instants → AreBefore later instants
before_later end_ later [] le before = tt
before_later end_ later (instant ∷ rest) le before = (omega (arith, before.0), before_later end_ later rest le before.1)

last_before : (end_ : ℕ) (instants : List Instant) (last : Instant) → AreBefore end_ (instants ++ last ∷ []) → last.time < end_
last_before end_ [] last before = before.0
last_before end_ (instant ∷ rest) last before = last_before end_ rest last before.1

abbrev pub NotBefore : ℕ → List Instant → Type 0
NotBefore until [] = Unit {0}
NotBefore until (instant ∷ rest) = until ≤ instant.time

less_is : (a b : ℕ) → a < b → nat_lt a b ≡ true
less_is a b h = by (nat_lt a b) refl
  where
    by : (b_ : Bool) → nat_lt a b ≡ b_ → b_ ≡ true
    by true e = refl
    by false e = let k = ltb-false a b e in absurd (omega arith)

not_less_is : (a b : ℕ) → b ≤ a → nat_lt a b ≡ false
not_less_is a b h = by (nat_lt a b) refl
  where
    by : (b_ : Bool) → nat_lt a b ≡ b_ → b_ ≡ false
    by true e = let k = ltb-true a b e in absurd (omega arith)
    by false e = refl

pub front_is : (until : ℕ) (instants rest : List Instant) → AreBefore until instants → NotBefore until rest → instants_before until (instants ++ rest) ≡ instants
front_is until [] [] before late = refl
front_is until [] (instant ∷ rest) before late = ap (λ b. if b then instant ∷ instants_before until rest else []) (not_less_is instant.time until late)
front_is until (instant ∷ others) rest before late =
    ap (λ b. if b then instant ∷ instants_before until (others ++ rest) else []) (less_is instant.time until before.0) ∙ ap (λ l. instant ∷ l) (front_is until others rest before.1 late)

pub all_front : (until : ℕ) (instants : List Instant) → AreBefore until instants → instants_before until instants ≡ instants
all_front until [] before = refl
all_front until (instant ∷ rest) before =
    ap (λ b. if b then instant ∷ instants_before until rest else []) (less_is instant.time until before.0) ∙ ap (λ l. instant ∷ l) (all_front until rest before.1)

append_none : {A : Type 0} (list : List A) → list ++ [] ≡ list
append_none [] = refl
append_none (one ∷ rest) = ap (λ l. one ∷ l) (append_none rest)

module _ (model : Parts) (plan : Plan) (bound : ℕ) where
  -- time never runs back
  pub step_later : (at next : SimulationState) → IsReached model plan bound (more at) → next_state model plan bound at ≡ more next → at.time ≤ next.time
  step_later at next reached e = by (subst (PlaceAdds at) e (step_adds model plan bound at))
    where
      well : StandsWell plan next
      well = stands_well model plan bound (more next) (subst (IsReached model plan bound) e (onward reached))

      by : ((next.instants ≡ at.instants) × (next.time ≡ at.time)) ⊎ (next.instants ≡ with_instant at) → at.time ≤ next.time
      by (inl same) = omega (arith, same.1)
      by (inr settled) = let k = last_before next.time at.instants (instant_at at) (subst (AreBefore next.time) settled well.before) in omega (arith, k)

  pub place_before : (until : ℕ) (at : SimulationState) → IsReached model plan bound (more at) → at.time < until → (place : Next SimulationState Run) → PlaceAdds at place → AreBefore until (instants_of place)
  place_before until at reached before place adds = by place adds
    where
      so_far : AreBefore until at.instants
      so_far = before_later at.time until at.instants (omega arith) (stands_well model plan bound (more at) reached).before

      with_it : AreBefore until (with_instant at)
      with_it = before_more until at.instants (instant_at at) so_far before

      by : (place : Next SimulationState Run) → PlaceAdds at place → AreBefore until (instants_of place)
      by (more next) (inl same) = subst (AreBefore until) (sym same.0) so_far
      by (more next) (inr settled) = subst (AreBefore until) (sym settled) with_it
      by (finished run) (inl same) = subst (AreBefore until) (sym same) so_far
      by (finished run) (inr settled) = subst (AreBefore until) (sym settled) with_it

  -- what comes to a run from a state on is not before its time
  pub record Further (at : SimulationState) (old : Run) : Type 0 where
    pub rest : List Instant
    pub is : old.instants ≡ at.instants ++ rest
    pub late : NotBefore at.time rest

  pub further_iterations : (count : ℕ) (at : SimulationState) (old : Run) → iterate SimulationState Run (next_state model plan bound) count (more at) ≡ finished old → Further at old
  further_iterations zero at old e = absurd (cc)
  further_iterations (suc count) at old e = by (next_state model plan bound at) (step_adds model plan bound at) e (λ next f. further_iterations count next old f)
    where
      ends : (instants : List Instant) → (instants ≡ at.instants) ⊎ (instants ≡ with_instant at) → old.instants ≡ instants → Further at old
      ends instants (inl same) f = record { rest = []; is = f ∙ same ∙ sym (append_none at.instants); late = tt }
      ends instants (inr settled) f = record { rest = instant_at at ∷ []; is = f ∙ settled; late = omega arith }

      by : (place : Next SimulationState Run) → PlaceAdds at place → iterate SimulationState Run (next_state model plan bound) count place ≡ finished old →
          ((next : SimulationState) → iterate SimulationState Run (next_state model plan bound) count (more next) ≡ finished old → Further next old) → Further at old
      by (more next) (inl same) e goes =
          let f = goes next e in
          record { rest = f.rest; is = f.is ∙ ap (λ l. l ++ f.rest) same.0; late = subst (λ t. NotBefore t f.rest) same.1 f.late }
      by (more next) (inr settled) e goes =
          let f = goes next e in
          record { rest = instant_at at ∷ f.rest; is = f.is ∙ ap (λ l. l ++ f.rest) settled ∙ append_assoc at.instants (instant_at at ∷ []) f.rest; late = omega arith }
      by (finished run) adds e goes =
          let k : ◌≡◌ {A = Next SimulationState Run} (finished run) (finished old) = sym (result_stays SimulationState Run (next_state model plan bound) count run) ∙ e in
          let same : run ≡ old = cc in
          ends run.instants adds (ap (λ (r : Run). r.instants) (sym same))

-- ---- directives that rest, through the changes of a table

module _ (differs : ℕ → Bool) (Late : ℕ → Edge → ℕ → Type 0) (until : ℕ) where
  pub rest_put : (table : Table) (path : List ℕ) (task : Task) → AllRest differs Late until table → (is_of_differing differs path ≡ true → Resting Late until task) → AllRest differs Late until (with_task table path task)
  rest_put table path task all one = record { rest = λ other found there out. by other found (is_at (path_cmp other) path) refl (sym (at_with table path other task) ∙ there) out }
    where
      by : (other : List ℕ) (found : Task) (here : Bool) → is_at (path_cmp other) path ≡ here → cond here (Some task) (task_at table other) ≡ Some found → is_of_differing differs other ≡ true → Resting Late until found
      by other found true e there out =
          let same : task ≡ found = cc in
          subst (Resting Late until) same (one (ap (is_of_differing differs) (sym (is_same other path e)) ∙ out))
      by other found false e there out = all.rest other found there out

  rest_each : (change : List ℕ → Task → Task) → ((path : List ℕ) (task : Task) → Resting Late until task → Resting Late until (change path task)) → (table : Table) → AllRest differs Late until table →
      AllRest differs Late until (on_each change table)
  rest_each change keeps table all = record { rest = λ path task there out. by path task (task_at table path) refl (sym (each_at change table path) ∙ there) out }
    where
      by : (path : List ℕ) (task : Task) (found : Option Task) → task_at table path ≡ found → changed_at change path (task_at table path) ≡ Some task → is_of_differing differs path ≡ true → Resting Late until task
      by path task None e f out = let k : ◌≡◌ {A = Option Task} None (Some task) = sym (ap (changed_at change path) e) ∙ f in absurd (cc)
      by path task (Some one) e f out =
          let k : Some (change path one) ≡ Some task = sym (ap (changed_at change path) e) ∙ f in
          let same : change path one ≡ task = cc in
          subst (Resting Late until) same (keeps path one (all.rest path one e out))

  woken_phase_rests : (cells : List CellState) (phase : TaskPhase) → Rests Late until phase → Rests Late until (woken_phase cells phase)
  woken_phase_rests cells (delayed end_ state) h = h
  woken_phase_rests cells (anchored to edge from state) h = h
  woken_phase_rests cells (ready state) h = absurd h
  woken_phase_rests cells (waiting condition state) h = absurd h
  woken_phase_rests cells (calling child into state) h = absurd h
  woken_phase_rests cells (over result) h = absurd h

  pub woken_rests : (cells : List CellState) (table : Table) → AllRest differs Late until table → AllRest differs Late until (on_each (woken cells) table)
  woken_rests cells = rest_each (woken cells) (λ path task h. record { begun = h.begun; phase = woken_phase_rests cells task.phase h.phase })

  rested_phase_rests : (now : ℕ) → now < until → (phase : TaskPhase) → Rests Late until phase → Rests Late until (rested_phase now phase)
  rested_phase_rests now before (delayed end_ state) h = by (nat_eq end_ now) refl
    where
      by : (same : Bool) → nat_eq end_ now ≡ same → Rests Late until (if same then ready state else delayed end_ state)
      by true e = let k : end_ ≡ now = grind arith in absurd (omega arith)
      by false e = h
  rested_phase_rests now before (anchored to edge from state) h = h
  rested_phase_rests now before (ready state) h = absurd h
  rested_phase_rests now before (waiting condition state) h = absurd h
  rested_phase_rests now before (calling child into state) h = absurd h
  rested_phase_rests now before (over result) h = absurd h

  pub rested_rests : (now : ℕ) → now < until → (table : Table) → AllRest differs Late until table → AllRest differs Late until (on_each (rested now) table)
  rested_rests now before = rest_each (rested now) (λ path task h. record { begun = h.begun; phase = rested_phase_rests now before task.phase h.phase })
