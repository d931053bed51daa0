-- A file of lemmas: what it proves need not be read to trust a clause.
--
-- What the counts come to over a run.
use Rattle.std.proofs.Common.{◌≡◌, ℕ, ◌+◌, ◌-◌, ◌*◌, ◌≤◌, List, [], ◌∷◌, ◌++◌, length, Option, Some, None, refl, sym, ap, ◌∙◌, subst, append_assoc, length-append, arith}
use Rattle.std.proofs.lemmas.List.{append-nil}
use Rattle.aerie_base.specs.declared.models.model.Parts.{Parts}
use Rattle.aerie_base.specs.declared.plans.Plan.{Plan}
use Rattle.effect_cells.specs.declared.effects.CellState.{CellState}
use Rattle.effect_cells.specs.Cells.{passed, first_out}
use Rattle.run_data.specs.TaskFrames.{Frame}
use Rattle.run_data.specs.declared.frames.Record.{Record}
use Rattle.run_data.specs.declared.jobs.Job.{Job}
use Rattle.run_data.specs.declared.runs.Instant.{Instant}
use Rattle.run_data.specs.declared.runs.Outcome.TheVariants.{Completed}
use Rattle.run_data.specs.declared.runs.Run.{Run}
use Rattle.run_data.specs.Batches.{Batch, limit, failed, committed, batch}
use Rattle.run_data.specs.Fresh.{SimulationState, start, next_state, next_by, woken_or_moved, moved, to_time, to_end, after_outcome, instant_at, settled, below, least_due}
use Rattle.run_data.specs.Records.{unmatched}
use Rattle.run_data.specs.Tasks.{on_each, woken, ready_jobs}
use Rattle.run_data.specs.Transitions.{Next, more, finished}
use Rattle.run_data.specs.Counts.{unmatched_append}
use Rattle.run_data.specs.laws.PrunedStates.{pruned, pruned_point}
use Rattle.run_data.specs.RunFrames.{frames_in_batches, frames_in_instants, frames_in_run}
use Rattle.engine_core.specs.EngineStates.{EngineState, LeadsTo, there, on, after_transition, jobs_in, OfBatch, PaysForBatch, LooksForBatch}
use Rattle.engine_core.specs.ReadyBatches.{next_is_batch}

-- ---- frames

-- the frames so far
abbrev pub frames_so_far : SimulationState → List Frame
frames_so_far at = frames_in_instants at.instants ++ frames_in_batches at.batches

batches_more : (batches : List (List Frame)) (frames : List Frame) → frames_in_batches (batches ++ frames ∷ []) ≡ frames_in_batches batches ++ frames
batches_more [] frames = append-nil frames
batches_more (first ∷ rest) frames = ap (λ (l : List Frame). first ++ l) (batches_more rest frames) ∙ sym (append_assoc first (frames_in_batches rest) frames)

instants_more : (instants : List Instant) (instant : Instant) → frames_in_instants (instants ++ instant ∷ []) ≡ frames_in_instants instants ++ frames_in_batches instant.batches
instants_more [] instant = append-nil (frames_in_batches instant.batches)
instants_more (first ∷ rest) instant =
    ap (λ (l : List Frame). frames_in_batches first.batches ++ l) (instants_more rest instant)
    ∙ sym (append_assoc (frames_in_batches first.batches) (frames_in_instants rest) (frames_in_batches instant.batches))

-- something holds of the frames so far; of a run, if it was completed, of all its frames
abbrev pub SoFar : (List Frame → Type 0) → Next SimulationState Run → Type 0
SoFar P (more at) = P (frames_so_far at)
SoFar P (finished run) = run.outcome ≡ Completed → P (frames_in_run run)

module _ (P : List Frame → Type 0) (model : Parts) (plan : Plan) (bound : ℕ) where
  -- ---- without a batch no frame comes

  settled_frames : (at : SimulationState) → P (frames_so_far at) → P (frames_in_instants (settled model plan bound at))
  settled_frames at holds = subst P (sym (instants_more at.instants (instant_at at))) holds

  by_time : (at : SimulationState) (time : ℕ) (cells : List CellState) (out : Option ℕ) → P (frames_so_far at) → SoFar P (to_time model plan bound at time cells out)
  by_time at time cells (Some cell) holds = λ done. settled_frames at holds
  by_time at time cells None holds = subst P (sym (append-nil (frames_in_instants (settled model plan bound at)))) (settled_frames at holds)

  by_end : (at : SimulationState) (out : Option ℕ) → P (frames_so_far at) → SoFar P (to_end model plan bound at out)
  by_end at (Some cell) holds = λ done. settled_frames at holds
  by_end at None holds = λ done. settled_frames at holds

  by_move : (at : SimulationState) (due : Option ℕ) → P (frames_so_far at) → SoFar P (moved model plan bound at due)
  by_move at (Some time) holds = by_time at time (passed at.cells (time - at.time)) (first_out (passed at.cells (time - at.time))) holds
  by_move at None holds = by_end at (first_out (passed at.cells (plan.duration - at.time))) holds

  idle_on : (at : SimulationState) → ready_jobs at.cells at.table ≡ [] → P (frames_so_far at) → SoFar P (next_state model plan bound at)
  idle_on at none holds =
      subst (SoFar P) (sym (ap (next_by model plan bound at) none)) (by (ready_jobs at.cells (on_each (woken at.cells) at.table)))
    where
      by : (jobs : List (ℕ × Job)) → SoFar P (woken_or_moved model plan bound at (on_each (woken at.cells) at.table) jobs)
      by [] = by_move at (below plan.duration (least_due at.time plan.duration at.cells at.table)) holds
      by (job ∷ rest) = holds

  pub pruned_frames : (point : Next SimulationState Run) → SoFar P point → SoFar P (pruned_point point)
  pruned_frames (more at) holds = holds
  pruned_frames (finished run) holds = holds

  pub led : (point later : Next SimulationState Run) → LeadsTo model plan bound point later → SoFar P point → SoFar P later
  led point later (there job) holds = holds
  led point later (on {at} none leads) holds = led (pruned_point (next_state model plan bound at)) later leads (pruned_frames (next_state model plan bound at) (idle_on at none holds))

  -- ---- a batch

  pub batched : (at : SimulationState) → (ready_jobs at.cells at.table ≡ [] → ⊥) →
      ((cells : List CellState) (touched : List ℕ) (frames : List Frame) → batch model bound at.spent at.cells (ready_jobs at.cells at.table) ≡ committed cells touched frames → P (frames_so_far at ++ frames)) →
      SoFar P (next_state model plan bound at)
  batched at some holds =
      subst (SoFar P) (sym (next_is_batch model plan bound at some)) (by (batch model bound at.spent at.cells (ready_jobs at.cells at.table)) holds)
    where
      by : (whole : Batch) → ((cells : List CellState) (touched : List ℕ) (frames : List Frame) → whole ≡ committed cells touched frames → P (frames_so_far at ++ frames)) →
          SoFar P (after_outcome model plan bound at whole)
      by limit gives = λ done. absurd (cc)
      by (failed who fault) gives = λ done. absurd (cc)
      by (committed cells touched frames) gives =
          subst P
          (append_assoc (frames_in_instants at.instants) (frames_in_batches at.batches) frames ∙ ap (λ (l : List Frame). frames_in_instants at.instants ++ l) (sym (batches_more at.batches frames)))
          (gives cells touched frames refl)

-- ---- counts

pub pays_more : (records : List Record) (frames others : List Frame) (before then_ after : ℕ) → then_ ≤ before + unmatched frames records → after ≤ then_ + unmatched others records →
    after ≤ before + unmatched (frames ++ others) records
pays_more records frames others before then_ after first second = (let whole = unmatched_append frames others records in omega (arith, first, second, whole))

pub looks_more : (frames others : List Frame) (before then_ after : ℕ) → then_ ≤ before + 2 * length frames → after ≤ then_ + 2 * length others →
    after ≤ before + 2 * length (frames ++ others)
looks_more frames others before then_ after first second = (let whole = length-append frames others in omega (arith, first, second, whole))

-- ---- a step of an engine

module _ (engine later : EngineState) (some : jobs_in engine.point ≡ [] → ⊥)
    (leads : LeadsTo engine.model engine.plan engine.bound (after_transition engine.model engine.plan engine.bound engine.point) later.point) where
  -- what holds of the frames so far, and of them with those of a batch, holds of the frames where it leads
  step_frames : (P Q : List Frame → Type 0) → OfBatch (λ frames. (earlier : List Frame) → P earlier → Q (earlier ++ frames)) engine → SoFar P engine.point → SoFar Q later.point
  step_frames P Q more_ holds = by engine.point refl some holds leads
    where
      by : (point : Next SimulationState Run) → engine.point ≡ point → (jobs_in point ≡ [] → ⊥) → SoFar P point →
          LeadsTo engine.model engine.plan engine.bound (after_transition engine.model engine.plan engine.bound point) later.point → SoFar Q later.point
      by (more at) is jobs so_far goes =
          led Q engine.model engine.plan engine.bound (pruned_point (next_state engine.model engine.plan engine.bound at)) later.point goes
          (pruned_frames Q engine.model engine.plan engine.bound (next_state engine.model engine.plan engine.bound at)
          (batched Q engine.model engine.plan engine.bound at jobs (λ cells touched frames whole. more_ at cells touched frames is whole (frames_so_far at) so_far)))
      by (finished run) is jobs so_far goes = absurd (jobs refl)

  pub step_pays : (records : List Record) (before then_ after : ℕ) → PaysForBatch engine records then_ after →
      SoFar (λ frames. then_ ≤ before + unmatched frames records) engine.point → SoFar (λ frames. after ≤ before + unmatched frames records) later.point
  step_pays records before then_ after pays =
      step_frames (λ frames. then_ ≤ before + unmatched frames records) (λ frames. after ≤ before + unmatched frames records)
      (λ at cells touched frames is whole earlier first. pays_more records earlier frames before then_ after first (pays at cells touched frames is whole))

  pub step_looks : (before then_ after : ℕ) → LooksForBatch engine then_ after →
      SoFar (λ frames. then_ ≤ before + 2 * length frames) engine.point → SoFar (λ frames. after ≤ before + 2 * length frames) later.point
  step_looks before then_ after looks =
      step_frames (λ frames. then_ ≤ before + 2 * length frames) (λ frames. after ≤ before + 2 * length frames)
      (λ at cells touched frames is whole earlier first. looks_more earlier frames before then_ after first (looks at cells touched frames is whole))

-- ---- at the start and where nothing is run

pub pays_first : (model : Parts) (plan : Plan) (bound steps : ℕ) (records : List Record) (point : Next SimulationState Run) → LeadsTo model plan bound (more (pruned (start model plan))) point →
    SoFar (λ frames. steps ≤ steps + unmatched frames records) point
pays_first model plan bound steps records point leads =
    led (λ frames. steps ≤ steps + unmatched frames records) model plan bound (more (pruned (start model plan))) point leads (let none : steps ≤ steps + 0 = omega arith in none)

pub looks_first : (model : Parts) (plan : Plan) (bound looks : ℕ) (point : Next SimulationState Run) → LeadsTo model plan bound (more (pruned (start model plan))) point →
    SoFar (λ frames. looks ≤ looks + 2 * length frames) point
looks_first model plan bound looks point leads =
    led (λ frames. looks ≤ looks + 2 * length frames) model plan bound (more (pruned (start model plan))) point leads (let none : looks ≤ looks + 2 * 0 = omega arith in none)

-- ---- the run

pub at_run : (P : List Frame → Type 0) (point : Next SimulationState Run) (run : Run) → point ≡ finished run → SoFar P point → run.outcome ≡ Completed → P (frames_in_run run)
at_run P point run is holds = subst (SoFar P) is holds
