-- What was counted so far beside an old run, wherever a simulation stands.
use Rattle.std.proofs.Common.{◌≡◌, ◌⊎◌, inl, inr, ℕ, ◌+◌, ◌-◌, ◌≤◌, Bool, true, false, List, [], ◌∷◌, ◌++◌, Option, Some, None, refl, sym, ap, ◌∙◌, subst, append_assoc, arith}
use Rattle.std.proofs.lemmas.List.{append-nil}
use Rattle.std.specs.List.{Contains}
use Rattle.aerie_base.specs.declared.models.model.Parts.{Parts}
use Rattle.aerie_base.specs.declared.plans.Plan.{Plan}
use Rattle.effect_cells.specs.declared.effects.CellState.{CellState}
use Rattle.effect_cells.specs.Cells.{passed, first_out}
use Rattle.run_data.specs.TaskFrames.{Frame}
use Rattle.run_data.specs.declared.jobs.Job.{Job}
use Rattle.run_data.specs.declared.runs.Instant.{Instant}
use Rattle.run_data.specs.declared.runs.Outcome.TheVariants.{Completed}
use Rattle.run_data.specs.declared.runs.Run.{Run}
use Rattle.run_data.specs.Batches.{Batch, limit, failed, committed, batch}
use Rattle.run_data.specs.Fresh.{SimulationState, next_state, next_by, woken_or_moved, moved, to_time, to_end, after_outcome, instant_at, below, least_due}
use Rattle.run_data.specs.Records.{IsEven}
use Rattle.run_data.specs.RunFrames.{frames_in_batches}
use Rattle.run_data.specs.Tasks.{on_each, woken, ready_jobs}
use Rattle.run_data.specs.Transitions.{Next, more, finished}
use Rattle.run_data.specs.laws.PrunedStates.{pruned_point}
use Rattle.engine_core.specs.EngineStates.{EngineState, LeadsTo, there, on, after_transition, jobs_in}
use Rattle.engine_core.specs.ReadyBatches.{next_is_batch}
use Rattle.resimulate.specs.EvenInstants.{PassesEven, frames_of_others}
use Rattle.resimulate.proofs.Others.{one_passes, one_fails, batches_more}

-- no old instant of a time begins with these batches
abbrev pub NoneBegins : Run → ℕ → List (List Frame) → Type 0
NoneBegins old time batches =
    (instant : Instant) → Contains old.instants instant → instant.time ≡ time → (rest : List (List Frame)) → instant.batches ≡ batches ++ rest → ⊥

-- a count is within what the frames of the other instants weigh, or within that and what those of the batches weigh with
-- which no old instant begins
abbrev pub IsWithin : Run → (List Frame → ℕ) → ℕ → (Instant → Bool) → SimulationState → ℕ → Type 0
IsWithin old weight before test at now =
    (now ≤ before + weight (frames_of_others test at.instants))
    ⊎ ((now ≤ before + (weight (frames_of_others test at.instants) + weight (frames_in_batches at.batches))) × NoneBegins old at.time at.batches)

abbrev pub CountsAt : Run → (List Frame → ℕ) → ℕ → Next SimulationState Run → ℕ → Type 0
CountsAt old weight before (more at) now = (test : Instant → Bool) → PassesEven old test → IsWithin old weight before test at now
CountsAt old weight before (finished run) now =
    run.outcome ≡ Completed → (test : Instant → Bool) → PassesEven old test → now ≤ before + weight (frames_of_others test run.instants)

module _ (old : Run) (weight : List Frame → ℕ) (adds : (first rest : List Frame) → weight (first ++ rest) ≡ weight first + weight rest) (before : ℕ) where
  -- ---- an instant is settled

  settled_within : (at : SimulationState) (now : ℕ) (test : Instant → Bool) → PassesEven old test → IsWithin old weight before test at now →
      now ≤ before + weight (frames_of_others test (at.instants ++ instant_at at ∷ []))
  settled_within at now test even within = by (test (instant_at at)) refl within
    where
      fails : test (instant_at at) ≡ false →
          weight (frames_of_others test (at.instants ++ instant_at at ∷ [])) ≡ weight (frames_of_others test at.instants) + weight (frames_in_batches at.batches)
      fails e = ap weight (one_fails test at.instants (instant_at at) e) ∙ adds (frames_of_others test at.instants) (frames_in_batches at.batches)

      by : (b : Bool) → test (instant_at at) ≡ b → IsWithin old weight before test at now → now ≤ before + weight (frames_of_others test (at.instants ++ instant_at at ∷ []))
      by true e (inl less) = subst (λ (l : List Frame). now ≤ before + weight l) (sym (one_passes test at.instants (instant_at at) e)) less
      by true e (inr differs) =
          let is : IsEven old (instant_at at) = even (instant_at at) e in
          absurd (differs.1 is.0 is.1.0 is.1.1.time [] (is.1.1.batches ∙ sym (append-nil at.batches)))
      by false e (inl less) = let whole = fails e in omega (arith, less, whole)
      by false e (inr differs) = let whole = fails e in let less = differs.0 in omega (arith, less, whole)

  -- ---- without a batch

  module _ (model : Parts) (plan : Plan) (bound now : ℕ) where
    by_time : (at : SimulationState) (time : ℕ) (cells : List CellState) (out : Option ℕ) → CountsAt old weight before (more at) now →
        CountsAt old weight before (to_time model plan bound at time cells out) now
    by_time at time cells (Some cell) holds = λ done. absurd (cc)
    by_time at time cells None holds = λ test even. inl (settled_within at now test even (holds test even))

    by_end : (at : SimulationState) (out : Option ℕ) → CountsAt old weight before (more at) now → CountsAt old weight before (to_end model plan bound at out) now
    by_end at (Some cell) holds = λ done. absurd (cc)
    by_end at None holds = λ done test even. settled_within at now test even (holds test even)

    by_move : (at : SimulationState) (due : Option ℕ) → CountsAt old weight before (more at) now → CountsAt old weight before (moved model plan bound at due) now
    by_move at (Some time) holds = by_time at time (passed at.cells (time - at.time)) (first_out (passed at.cells (time - at.time))) holds
    by_move at None holds = by_end at (first_out (passed at.cells (plan.duration - at.time))) holds

    idle_on : (at : SimulationState) → ready_jobs at.cells at.table ≡ [] → CountsAt old weight before (more at) now → CountsAt old weight before (next_state model plan bound at) now
    idle_on at none holds =
        subst (λ (p : Next SimulationState Run). CountsAt old weight before p now) (sym (ap (next_by model plan bound at) none)) (by (ready_jobs at.cells (on_each (woken at.cells) at.table)))
      where
        by : (jobs : List (ℕ × Job)) → CountsAt old weight before (woken_or_moved model plan bound at (on_each (woken at.cells) at.table) jobs) now
        by [] = by_move at (below plan.duration (least_due at.time plan.duration at.cells at.table)) holds
        by (job ∷ rest) = holds

    -- what has ended counts for nothing
    without_ended : (point : Next SimulationState Run) → CountsAt old weight before point now → CountsAt old weight before (pruned_point point) now
    without_ended (more at) holds = holds
    without_ended (finished run) holds = holds

    pub led : (point later : Next SimulationState Run) → LeadsTo model plan bound point later → CountsAt old weight before point now → CountsAt old weight before later now
    led point later (there job) holds = holds
    led point later (on {at} none leads) holds =
        led (pruned_point (next_state model plan bound at)) later leads (without_ended (next_state model plan bound at) (idle_on at none holds))

  -- ---- a batch

  -- no count rose with the frames of a batch, or it rose by at most what they weigh, and no old instant begins with them
  abbrev pub RiseWith : SimulationState → ℕ → ℕ → List Frame → Type 0
  RiseWith at now after frames = (after ≡ now) ⊎ ((after ≤ now + weight frames) × NoneBegins old at.time (at.batches ++ frames ∷ []))

  module _ (model : Parts) (plan : Plan) (bound now after : ℕ) where
    with_frames : (at : SimulationState) (frames : List Frame) (test : Instant → Bool) (later : SimulationState) → later.instants ≡ at.instants → later.time ≡ at.time →
        later.batches ≡ at.batches ++ frames ∷ [] → RiseWith at now after frames → IsWithin old weight before test at now → IsWithin old weight before test later after
    with_frames at frames test later same time is rise within = by rise within
      where
        others : weight (frames_of_others test later.instants) ≡ weight (frames_of_others test at.instants)
        others = ap (λ (l : List Instant). weight (frames_of_others test l)) same

        heavier : weight (frames_in_batches later.batches) ≡ weight (frames_in_batches at.batches) + weight frames
        heavier =
            ap (λ (l : List (List Frame)). weight (frames_in_batches l)) is ∙ ap weight (batches_more at.batches frames) ∙ adds (frames_in_batches at.batches) frames

        none_begins : NoneBegins old at.time (at.batches ++ frames ∷ []) → NoneBegins old later.time later.batches
        none_begins none instant has at_time rest begins =
            none instant has (at_time ∙ time) rest (begins ∙ ap (λ (l : List (List Frame)). l ++ rest) is)

        by : RiseWith at now after frames → IsWithin old weight before test at now → IsWithin old weight before test later after
        by (inl stays) (inl less) = inl (let o = others in omega (arith, less, o, stays))
        by (inl stays) (inr differs) =
            inr (
              (let o = others in let h = heavier in let less = differs.0 in omega (arith, less, o, h, stays)),
              none_begins (λ instant has at_time rest begins. differs.1 instant has at_time (frames ∷ rest) (begins ∙ append_assoc at.batches (frames ∷ []) rest)),
            )
        by (inr rises) (inl less) = inr ((let o = others in let h = heavier in let more_ = rises.0 in omega (arith, less, o, h, more_)), none_begins rises.1)
        by (inr rises) (inr differs) =
            inr ((let o = others in let h = heavier in let less = differs.0 in let more_ = rises.0 in omega (arith, less, o, h, more_)), none_begins rises.1)

    pub batched : (at : SimulationState) → (ready_jobs at.cells at.table ≡ [] → ⊥) →
        ((cells : List CellState) (touched : List ℕ) (frames : List Frame) → batch model bound at.spent at.cells (ready_jobs at.cells at.table) ≡ committed cells touched frames → RiseWith at now after frames) →
        CountsAt old weight before (more at) now → CountsAt old weight before (next_state model plan bound at) after
    batched at some rises holds =
        subst (λ (p : Next SimulationState Run). CountsAt old weight before p after) (sym (next_is_batch model plan bound at some))
        (by (batch model bound at.spent at.cells (ready_jobs at.cells at.table)) rises)
      where
        by : (whole : Batch) → ((cells : List CellState) (touched : List ℕ) (frames : List Frame) → whole ≡ committed cells touched frames → RiseWith at now after frames) →
            CountsAt old weight before (after_outcome model plan bound at whole) after
        by limit gives = λ done. absurd (cc)
        by (failed who fault) gives = λ done. absurd (cc)
        by (committed cells touched frames) gives =
            λ test even. with_frames at frames test (record at { batches = at.batches ++ frames ∷ [] }) refl refl refl (gives cells touched frames refl) (holds test even)

  -- ---- a step of an engine

  pub stepped : (engine later : EngineState) → (jobs_in engine.point ≡ [] → ⊥) →
      LeadsTo engine.model engine.plan engine.bound (after_transition engine.model engine.plan engine.bound engine.point) later.point → (now after : ℕ) →
      ((at : SimulationState) (cells : List CellState) (touched : List ℕ) (frames : List Frame) → engine.point ≡ more at →
      batch engine.model engine.bound at.spent at.cells (ready_jobs at.cells at.table) ≡ committed cells touched frames → RiseWith at now after frames) →
      CountsAt old weight before engine.point now → CountsAt old weight before later.point after
  stepped engine later some leads now after rises holds = by engine.point refl some holds leads
    where
      by : (point : Next SimulationState Run) → engine.point ≡ point → (jobs_in point ≡ [] → ⊥) → CountsAt old weight before point now →
          LeadsTo engine.model engine.plan engine.bound (after_transition engine.model engine.plan engine.bound point) later.point → CountsAt old weight before later.point after
      by (more at) is jobs so_far goes =
          led engine.model engine.plan engine.bound after (pruned_point (next_state engine.model engine.plan engine.bound at)) later.point goes
          (without_ended engine.model engine.plan engine.bound after (next_state engine.model engine.plan engine.bound at)
          (batched engine.model engine.plan engine.bound now after at jobs (λ cells touched frames whole. rises at cells touched frames is whole) so_far))
      by (finished run) is jobs so_far goes = absurd (jobs refl)

  -- ---- where nothing was counted yet, and at the run

  pub counts_first : (point : Next SimulationState Run) → CountsAt old weight before point before
  counts_first (more at) = λ test even. inl (omega arith)
  counts_first (finished run) = λ done test even. omega arith

  pub counts_last : (point : Next SimulationState Run) (run : Run) (now : ℕ) → point ≡ finished run → CountsAt old weight before point now → run.outcome ≡ Completed →
      (test : Instant → Bool) → PassesEven old test → now ≤ before + weight (frames_of_others test run.instants)
  counts_last point run now is = subst (λ (p : Next SimulationState Run). CountsAt old weight before p now) is
