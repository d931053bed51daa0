-- The batches of a fresh run are such as may be looked up.
use Rattle.std.proofs.Common.{◌≡◌, ℕ, zero, suc, ◌+◌, Bool, true, false, if◌then◌else◌, List, [], ◌∷◌, ◌++◌, Option, Some, None, slice_get, option_map, refl, sym, subst, nat_eq, nat_lt, arith}
use Rattle.std.specs.Prelude.{IfSome}
use Rattle.std.specs.List.{All}
use Rattle.std.specs.Option.{option_and_then}
use Rattle.aerie_base.specs.declared.models.model.Parts.{Parts}
use Rattle.aerie_base.specs.declared.plans.Plan.{Plan}
use Rattle.effect_cells.specs.declared.effects.CellState.{CellState}
use Rattle.effect_cells.specs.Cells.{committed_cells, first_out}
use Rattle.run_data.specs.TaskFrames.{Frame}
use Rattle.run_data.specs.declared.jobs.Job.{Job}
use Rattle.run_data.specs.declared.runs.Instant.{Instant}
use Rattle.run_data.specs.declared.runs.Run.{Run}
use Rattle.run_data.specs.Batches.{batch, committed, judged, when_within, when_no_fault, unless_out, Blame, by_path, least_fault, tree_of, cost_of}
use Rattle.run_data.specs.Frames.{Made, Making, made_by_all}
use Rattle.run_data.specs.Fresh.{IsFresh}
use Rattle.run_data.specs.Records.{IsValid, record_of}
use Rattle.run_data.specs.Tasks.{ready_jobs}
use Rattle.run_data.specs.laws.FreshRuns.{BatchesAreReached, FramesOfRunsAreValid, IsReachedBatch, EachAfter}
use Rattle.run_data.specs.laws.Orders.{EachOf}
use Rattle.fitting.specs.Fitting.{IsOldBatch}
use Rattle.live_tasks.specs.FrameOrders.{AreByPath}
use Rattle.engine_core.specs.FrameOrderLaws.{sorted_in_order}
use Rattle.resimulate.specs.OldBatches.{instant_at_time, batch_at}

-- ---- a committed batch is in order

pub committed_in_order : (model : Parts) (bound spent : ℕ) (cells next : List CellState) (jobs : List (ℕ × Job)) (touched : List ℕ) (frames : List Frame) →
    batch model bound spent cells jobs ≡ committed next touched frames → AreByPath frames
committed_in_order model bound spent cells next jobs touched frames e = by (made_by_all model bound jobs) e
  where
    in_range : (made : Made) (out : Option ℕ) (after : List CellState) → unless_out out made cells after ≡ committed next touched frames → AreByPath frames
    in_range made None after e = (let is : by_path made.frames ≡ frames = cc in subst AreByPath is (sorted_in_order made.frames))
    in_range made (Some cell) after e = absurd (cc)

    no_fault : (made : Made) (blame : Option Blame) → when_no_fault blame made cells ≡ committed next touched frames → AreByPath frames
    no_fault made None e = in_range made (first_out (committed_cells cells (tree_of made))) (committed_cells cells (tree_of made)) e
    no_fault made (Some blame) e = absurd (cc)

    within : (made : Made) (is : Bool) → when_within is made cells ≡ committed next touched frames → AreByPath frames
    within made true e = no_fault made (least_fault made.frames) e
    within made false e = absurd (cc)

    by : (making : Making) → judged bound spent cells making ≡ committed next touched frames → AreByPath frames
    by None e = absurd (cc)
    by (Some made) e = within made (if nat_lt bound (spent + cost_of made.frames) then false else true) e

-- ---- an element of each

all_at : {A : Type 0} (P : A → Type 0) (all : List A) (k : ℕ) (one : A) → All P all → slice_get all k ≡ Some one → P one
all_at P [] k one each e = absurd (cc)
all_at P (first ∷ rest) zero one each e = (let same : first ≡ one = cc in subst P same (each 0 first (omega arith)))
all_at P (first ∷ rest) (suc k) one each e = all_at P rest k one (λ j d less. each (suc j) d (omega (arith, less))) e

after_at : {A : Type 0} (P : List A → A → Type 0) (before all : List A) (k : ℕ) (one : A) → EachAfter P before all → slice_get all k ≡ Some one → (earlier : List A) × P earlier one
after_at P before [] k one each e = absurd (cc)
after_at P before (first ∷ rest) zero one each e = (let same : first ≡ one = cc in (before, subst (P before) same each.0))
after_at P before (first ∷ rest) (suc k) one each e = after_at P (before ++ first ∷ []) rest k one each.1 e

each_from : {A : Type 0} (P : A → Type 0) (all : List A) → All P all → EachOf P all
each_from P [] each = tt
each_from P (first ∷ rest) each = (each 0 first (omega arith), each_from P rest (λ k d less. each (suc k) d (omega (arith, less))))

-- an instant that is found is one of them
index_of : (time : ℕ) (instants : List Instant) (instant : Instant) → instant_at_time time instants ≡ Some instant → (k : ℕ) × (slice_get instants k ≡ Some instant)
index_of time [] instant e = absurd (cc)
index_of time (first ∷ rest) instant e = by (nat_eq first.time time) e (index_of time rest instant)
  where
    by : (b : Bool) → (if b then Some first else instant_at_time time rest) ≡ Some instant → (instant_at_time time rest ≡ Some instant → (k : ℕ) × (slice_get rest k ≡ Some instant)) →
        (k : ℕ) × (slice_get (first ∷ rest) k ≡ Some instant)
    by true e further = (0, e)
    by false e further = (let found = further e in (suc found.0, found.1))

pub old_batches_are : FramesOfRunsAreValid → BatchesAreReached → (model : Parts) (plan : Plan) (bound : ℕ) (run : Run) → IsFresh model plan bound run →
    (time place : ℕ) (frames : List Frame) → batch_at time place run.instants ≡ Some frames → IsOldBatch model frames
old_batches_are valid reached model plan bound run fresh time place frames e = by (instant_at_time time run.instants) refl e
  where
    by : (there : Option Instant) → instant_at_time time run.instants ≡ there → option_and_then (λ instant. slice_get instant.batches place) there ≡ Some frames → IsOldBatch model frames
    by None x e = absurd (cc)
    by (Some instant) x e =
        let found = index_of time run.instants instant x in
        let each = all_at (λ (one : Instant). All (All (λ frame. IsValid model (record_of frame))) one.batches) run.instants found.0 instant (valid model plan bound run fresh) found.1 in
        let after = after_at (λ before one. EachAfter (IsReachedBatch model plan bound before one.time) [] one.batches) [] run.instants found.0 instant (reached model plan bound run fresh) found.1 in
        let here = after_at (IsReachedBatch model plan bound after.0 instant.time) [] instant.batches place frames after.1 e in
        record {
          valid = each_from (λ frame. IsValid model (record_of frame)) frames (all_at (All (λ frame. IsValid model (record_of frame))) instant.batches place frames each e);
          order = committed_in_order model bound here.1.at.spent here.1.at.cells here.1.cells (ready_jobs here.1.at.cells here.1.at.table) here.1.touched frames here.1.is_batch;
        }

-- what is said of a batch that is there, said of where it was found
pub beside_is : {B : Type 0} (now : B → List Frame) (P : List Frame → Type 0) (beside : Option B) (there : Option (List Frame)) → option_map now beside ≡ there →
    ((frames : List Frame) → there ≡ Some frames → P frames) → IfSome beside (λ b. P (now b))
beside_is now P None there e gives = tt
beside_is now P (Some b) there e gives = gives (now b) (sym e)
